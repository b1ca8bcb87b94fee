-- What the reading of whole headers accepts: the lenient spellings, and no others.
use Rattle.std.proofs.Common.{◌≡◌, ℕ, ◌^◌, ◌<◌, Bool, Option, Some, None, List, [], ◌∷◌, ◌++◌, Ok, IfSome, inl, inr, refl, sym, ap, ◌∙◌, subst, append_assoc}
use Rattle.std.specs.Int.Digits.{AllBelowBase}
use Rattle.asn1_core.specs.Strict.{Head, IsHead}
use Rattle.asn1_core.specs.Lenient.{SpellsHeader, BerHead, IsBerHead, SpellsBerLength, SpellsBerHeader}
use Rattle.asn1_core.specs.Reading.{identity_at, length_at, ber_head, definite_head, ber_header_at, header_at}
use Rattle.asn1_core.specs.Views.{Identity}
use Rattle.asn1_core.proofs.Cases.{chosen, same_answer, two_steps}
use Rattle.asn1_core.proofs.Numbers.{append_below}
use Rattle.asn1_core.proofs.Identities.{IsIdentified, identity_found, identity_again}
use Rattle.asn1_core.proofs.Lengths.{IsMeasured, length_found, length_again, indefinite_again}

-- a header at the front of octets, with what it says
pub record BeginsWith (octets : List ℕ) (h : Head) (rest : List ℕ) : Type 0 where
  pub head : IsHead h
  pub front : List ℕ
  pub spells : SpellsHeader front h
  pub whole : octets ≡ front ++ rest

pub record BeginsWithBer (octets : List ℕ) (h : BerHead) (rest : List ℕ) : Type 0 where
  pub head : IsBerHead h
  pub front : List ℕ
  pub spells : SpellsBerHeader front h
  pub whole : octets ≡ front ++ rest

joined : (octets first after second rest : List ℕ) → octets ≡ first ++ after → after ≡ second ++ rest → octets ≡ (first ++ second) ++ rest
joined octets first after second rest e f = e ∙ ap (λ r. first ++ r) f ∙ sym (append_assoc first second rest)

definite_found : (octets : List ℕ) (id : Identity) (after : List ℕ) (size : Option ℕ) (last : List ℕ) (h : Head) (rest : List ℕ)
    → IsIdentified octets id after → IsMeasured after size last → definite_head id size last ≡ Ok (h, rest) → BeginsWith octets h rest
definite_found octets id after None last h rest identified measured read = cc
definite_found octets id after (Some n) last h rest identified (small, (front, spells, split)) read =
    let said : Head = record { class = id.class; constructed = id.constructed; tag = id.tag; size = n } in
    let done = same_answer said h last rest read in
    let here : BeginsWith octets said last = record {
      head = record { class = identified.class; tag = identified.tag; size = small };
      front = identified.front ++ front;
      spells = record { identifier = identified.front; size = front; whole = refl; spells_identifier = identified.spells; spells_length = spells };
      whole = joined octets identified.front after front last identified.whole split;
    } in
    subst (λ r. BeginsWith octets h r) done.1 (subst (λ x. BeginsWith octets x last) done.0 here)

pub header_found : (octets : List ℕ) (h : Head) (rest : List ℕ) → AllBelowBase 256 octets → header_at octets ≡ Ok (h, rest) → BeginsWith octets h rest
unfolding header_at
header_found octets h rest below read =
    let first = two_steps (identity_at octets) _ _ read in
    let second = two_steps (length_at first.0.1) _ _ first.2 in
    let identified = identity_found octets first.0.0 first.0.1 below first.1 in
    let left : AllBelowBase 256 first.0.1 = append_below 256 identified.front first.0.1 (subst (AllBelowBase 256) identified.whole below) in
    definite_found octets first.0.0 first.0.1 second.0.0 second.0.1 h rest identified (length_found first.0.1 second.0.0 second.0.1 left second.1) second.2

pub header_again : (front : List ℕ) (h : Head) (rest : List ℕ) → IsHead h → SpellsHeader front h → header_at (front ++ rest) ≡ Ok (h, rest)
unfolding header_at
header_again front h rest head spells =
    let split : front ++ rest ≡ spells.identifier ++ (spells.size ++ rest) = ap (λ f. f ++ rest) spells.whole ∙ append_assoc spells.identifier spells.size rest in
    rw (split, identity_again spells.identifier h.class h.constructed h.tag (spells.size ++ rest) head.tag spells.spells_identifier, length_again spells.size h.size rest head.size spells.spells_length) refl

ber_found : (octets : List ℕ) (id : Identity) (after : List ℕ) (size : Option ℕ) (last : List ℕ) (h : BerHead) (rest : List ℕ)
    → IsIdentified octets id after → IsMeasured after size last → ber_head id size last ≡ Ok (h, rest) → BeginsWithBer octets h rest
ber_found octets id after None last h rest identified measured read =
    elim (chosen id.constructed _ _ _ read) [
      | inl constructed ↦
          let said : BerHead = record { class = id.class; constructed = id.constructed; tag = id.tag; size = None } in
          let done = same_answer said h last rest constructed.1 in
          let here : BeginsWithBer octets said last = record {
            head = record { class = identified.class; tag = identified.tag; size = tt };
            front = identified.front ++ 128 ∷ [];
            spells = record { identifier = identified.front; size = 128 ∷ []; whole = refl; spells_identifier = identified.spells; spells_length = (constructed.0, refl) };
            whole = joined octets identified.front after (128 ∷ []) last identified.whole measured;
          } in
          subst (λ r. BeginsWithBer octets h r) done.1 (subst (λ x. BeginsWithBer octets x last) done.0 here)
      | inr primitive ↦ cc
    ]
ber_found octets id after (Some n) last h rest identified (small, (front, spells, split)) read =
    let said : BerHead = record { class = id.class; constructed = id.constructed; tag = id.tag; size = Some n } in
    let done = same_answer said h last rest read in
    let here : BeginsWithBer octets said last = record {
      head = record { class = identified.class; tag = identified.tag; size = small };
      front = identified.front ++ front;
      spells = record { identifier = identified.front; size = front; whole = refl; spells_identifier = identified.spells; spells_length = spells };
      whole = joined octets identified.front after front last identified.whole split;
    } in
    subst (λ r. BeginsWithBer octets h r) done.1 (subst (λ x. BeginsWithBer octets x last) done.0 here)

pub ber_header_found : (octets : List ℕ) (h : BerHead) (rest : List ℕ) → AllBelowBase 256 octets → ber_header_at octets ≡ Ok (h, rest) → BeginsWithBer octets h rest
unfolding ber_header_at
ber_header_found octets h rest below read =
    let first = two_steps (identity_at octets) _ _ read in
    let second = two_steps (length_at first.0.1) _ _ first.2 in
    let identified = identity_found octets first.0.0 first.0.1 below first.1 in
    let left : AllBelowBase 256 first.0.1 = append_below 256 identified.front first.0.1 (subst (AllBelowBase 256) identified.whole below) in
    ber_found octets first.0.0 first.0.1 second.0.0 second.0.1 h rest identified (length_found first.0.1 second.0.0 second.0.1 left second.1) second.2

-- the two parts of a BER header read again
ber_length_again : (front : List ℕ) (constructed : Bool) (size : Option ℕ) (rest : List ℕ) → IfSome size (λ n. n < 2 ^ 64)
    → SpellsBerLength front constructed size → length_at (front ++ rest) ≡ Ok (size, rest)
ber_length_again front constructed (Some n) rest small spells = length_again front n rest small spells
ber_length_again front constructed None rest small spells = ap (λ f. length_at (f ++ rest)) spells.1 ∙ indefinite_again rest

ber_head_again : (class : ℕ) (constructed : Bool) (tag : ℕ) (size : Option ℕ) (front rest : List ℕ) → SpellsBerLength front constructed size
    → ber_head (record { class = class; constructed = constructed; tag = tag }) size rest ≡ Ok (record { class = class; constructed = constructed; tag = tag; size = size }, rest)
ber_head_again class constructed tag (Some n) front rest spells = refl
ber_head_again class constructed tag None front rest spells = rw spells.0 refl

pub ber_header_again : (front : List ℕ) (h : BerHead) (rest : List ℕ) → IsBerHead h → SpellsBerHeader front h → ber_header_at (front ++ rest) ≡ Ok (h, rest)
unfolding ber_header_at
ber_header_again front h rest head spells =
    let split : front ++ rest ≡ spells.identifier ++ (spells.size ++ rest) = ap (λ f. f ++ rest) spells.whole ∙ append_assoc spells.identifier spells.size rest in
    rw (split, identity_again spells.identifier h.class h.constructed h.tag (spells.size ++ rest) head.tag spells.spells_identifier, ber_length_again spells.size h.constructed h.size rest head.size spells.spells_length)
    (ber_head_again h.class h.constructed h.tag h.size spells.size rest spells.spells_length)
