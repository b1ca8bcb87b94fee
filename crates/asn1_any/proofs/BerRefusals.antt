-- The refusals of the BER reader: never for lack of memory; and how many octets are missing.
use Rattle.std.proofs.Common.{◌≡◌, ◌≢◌, refl, sym, ◌∙◌, ap, subst, ℕ, zero, suc, ◌-◌, ◌<◌, Bool, true, false, Option, Some, None, List, ◌++◌, length, take, drop, Ok, Err, if◌then◌else◌, arith, length-append, append_assoc, inl, inr}
use Rattle.std.specs.Prelude.{nat_lt}
use Rattle.std.specs.Int.Digits.{AllBelowBase}
use Rattle.std.proofs.lemmas.Bool.{ltb-true}
use Rattle.std.proofs.lemmas.List.{take-append-drop}
use Rattle.asn1_core.specs.declared.error.Error.{Error}
use Rattle.asn1_core.specs.declared.error.Error.TheVariants as errors
use Rattle.asn1_core.specs.declared.error.Needed.TheVariants as needed
use Rattle.asn1_core.specs.declared.outcome.Err.{Err as Refusal}
use Rattle.asn1_core.specs.declared.outcome.Err.TheVariants as refusals
use Rattle.asn1_core.specs.Lenient.{BerHead}
use Rattle.asn1_core.specs.Answers.{Answer, TakesNoMemory}
use Rattle.asn1_core.specs.Missing.{IsMissing}
use Rattle.asn1_core.specs.Reading.{ber_header_at}
use Rattle.asn1_core.proofs.Cases.{same_answer}
use Rattle.asn1_core.proofs.Numbers.{append_below}
use Rattle.asn1_core.proofs.Headers.{ber_header_found, ber_header_again}
use Rattle.asn1_core.proofs.Refusals.{IsRefused, ber_header_refused}
use Rattle.asn1_any.specs.BerElements.{BerElement, end_of_contents, Closes, IsWithin, HasBerElement}
use Rattle.asn1_any.specs.Reading.{Rest, part_at, end_at, past_length, past_header, past_end, past_contents, indefinite_at, sized_at, ber_content_at, ber_element_at}
use Rattle.asn1_any.proofs.Refusals.{refused_steps, part_refused}
use Rattle.asn1_any.proofs.BerLaws.{AllEnd, end_is, ends_lack}
use Rattle.asn1_any.proofs.BerReading.{header_first}

-- a refusal of a reading that takes no memory; if octets are missing, some are
abbrev IsPlain : Refusal Error → Type 0
IsPlain (refusals.Incomplete needed.Unknown) = ⊥
IsPlain (refusals.Incomplete (needed.Size n)) = 0 < n
IsPlain (refusals.Error e) = e ≢ errors.OutOfMemory
IsPlain (refusals.Failure e) = ⊥

plain_memory : (e : Refusal Error) → IsPlain e → TakesNoMemory e
plain_memory (refusals.Incomplete n) plain = tt
plain_memory (refusals.Error e) plain = plain
plain_memory (refusals.Failure e) plain = plain

header_plain : (octets : List ℕ) (e : Refusal Error) → IsRefused ber_header_at octets e → IsPlain e
header_plain octets (refusals.Incomplete needed.Unknown) refused = refused
header_plain octets (refusals.Incomplete (needed.Size n)) refused = refused.0
header_plain octets (refusals.Error e) refused = refused
header_plain octets (refusals.Failure e) refused = refused

-- a walk that is refused plainly
abbrev Plain : (ℕ → ℕ → List ℕ → Rest) → Refusal Error → Type 0
Plain go e = (levels nested : ℕ) (octets : List ℕ) → AllBelowBase 256 octets → go levels nested octets ≡ Err e → IsPlain e

module _ (go : ℕ → ℕ → List ℕ → Rest) (e : Refusal Error) (plain : Plain go e) where
  length_plain : (b : Bool) (levels nested n : ℕ) (after : List ℕ) → AllBelowBase 256 after → nat_lt (length after) n ≡ b →
      (if b then Err (refusals.Incomplete (needed.Size (n - length after))) else go (suc levels) (suc nested) (drop n after)) ≡ Err e → IsPlain e
  length_plain true levels nested n after below short given =
      let missing : refusals.Incomplete (needed.Size (n - length after)) ≡ e = cc in
      let few = ltb-true (length after) n short in
      let some : 0 < n - length after = omega arith in
      subst IsPlain missing some
  length_plain false levels nested n after below short given =
      plain (suc levels) (suc nested) (drop n after) (append_below 256 (take n after) (drop n after) (subst (AllBelowBase 256) (sym (take-append-drop n after)) below)) given

  size_plain : (levels nested : ℕ) (size : Option ℕ) (after : List ℕ) → AllBelowBase 256 after → past_length go levels nested size after ≡ Err e → IsPlain e
  size_plain levels nested (Some n) after below given = length_plain (nat_lt (length after) n) levels nested n after below refl given
  size_plain levels nested None after below given = plain levels (suc (suc nested)) after below given

  read_plain : (levels nested : ℕ) (octets : List ℕ) (r : Answer BerHead) → AllBelowBase 256 octets → ber_header_at octets ≡ r → past_header go levels nested r ≡ Err e → IsPlain e
  read_plain levels nested octets (Err d) below read given =
      let same : d ≡ e = cc in
      subst IsPlain same (header_plain octets d (ber_header_refused octets d below read))
  read_plain zero nested octets (Ok p) below read given =
      let same : refusals.Error errors.BerMaxDepth ≡ e = cc in
      let other : errors.BerMaxDepth ≢ errors.OutOfMemory = λ x. cc in
      subst IsPlain same other
  read_plain (suc levels) nested octets (Ok p) below read given =
      let begins = ber_header_found octets p.0 p.1 below read in
      size_plain levels nested p.0.size p.1 (append_below 256 begins.front p.1 (subst (AllBelowBase 256) begins.whole below)) given

  end_plain : (levels nested : ℕ) (octets : List ℕ) (o : Option (List ℕ)) → AllBelowBase 256 octets → end_at octets ≡ o → past_end go levels nested octets o ≡ Err e → IsPlain e
  end_plain levels nested octets (Some after) below at given =
      plain (suc levels) nested after (append_below 256 end_of_contents after (subst (AllBelowBase 256) (end_is octets after at) below)) given
  end_plain levels nested octets None below at given = read_plain levels nested octets (ber_header_at octets) below refl given

walk_plain : (steps : ℕ) (e : Refusal Error) → Plain (past_contents steps) e
unfolding past_contents
walk_plain zero e levels zero octets below given = cc
walk_plain zero e levels (suc nested) octets below given =
    let same : refusals.Incomplete (needed.Size 1) ≡ e = cc in
    let some : 0 < 1 = omega arith in
    subst IsPlain same some
walk_plain (suc steps) e levels zero octets below given = cc
walk_plain (suc steps) e levels (suc nested) octets below given = end_plain (past_contents steps) e (walk_plain steps e) levels nested octets (end_at octets) below refl given

-- what a refusal says: nothing of memory, and how many octets are missing
pub record IsTold (levels : ℕ) (octets : List ℕ) (e : Refusal Error) : Type 0 where
  pub memory : TakesNoMemory e
  pub missing : IsMissing (HasBerElement levels) octets e

header_told : (levels : ℕ) (octets : List ℕ) (e : Refusal Error) → IsRefused ber_header_at octets e → IsTold levels octets e
header_told levels octets (refusals.Incomplete needed.Unknown) refused = absurd refused
header_told levels octets (refusals.Incomplete (needed.Size n)) refused = record {
  memory = tt;
  missing = (refused.0, λ more few has. refused.1 more few (has.0.head, has.2.spells.body ++ has.1) (header_first levels (octets ++ more) has.1 has.0 has.2));
}
header_told levels octets (refusals.Error e) refused = record { memory = refused; missing = tt }
header_told levels octets (refusals.Failure e) refused = absurd refused

-- what comes after the header of an element that begins octets with more after them
record Continues (levels : ℕ) (h : BerHead) (after more : List ℕ) : Type 0 where
  content : List ℕ
  body : List ℕ
  rest : List ℕ
  closes : Closes (IsWithin levels) h.size content body
  whole : after ++ more ≡ body ++ rest

continues : (levels : ℕ) (octets after more : List ℕ) (h : BerHead) → AllBelowBase 256 octets → ber_header_at octets ≡ Ok (h, after) → HasBerElement levels (octets ++ more) → Continues levels h after more
continues levels octets after more h below read has =
    let begins = ber_header_found octets h after below read in
    let longer : ber_header_at (octets ++ more) ≡ Ok (h, after ++ more) =
    ap ber_header_at (ap (λ z. z ++ more) begins.whole ∙ append_assoc begins.front after more) ∙ ber_header_again begins.front h (after ++ more) begins.head begins.spells in
    let spells = has.2.spells in
    let same = same_answer h has.0.head (after ++ more) (spells.body ++ has.1) (sym longer ∙ header_first levels (octets ++ more) has.1 has.0 has.2) in
    record { content = has.0.content; body = spells.body; rest = has.1; closes = subst (λ g. Closes (IsWithin levels) g.size has.0.content spells.body) (sym same.0) spells.closes; whole = same.1 }

definite_told : (levels n : ℕ) (octets after : List ℕ) (h : BerHead) (e : Refusal Error) → AllBelowBase 256 octets → ber_header_at octets ≡ Ok (h, after) → h.size ≡ Some n →
    part_at n after ≡ Err e → IsTold levels octets e
definite_told levels n octets after h e below read size given =
    let cut = part_refused n after e given in
    let short = cut.short in
    let none : (more : List ℕ) → length more < n - length after → ¬ HasBerElement levels (octets ++ more) = λ more few has.
    let goes = continues levels octets after more h below read has in
    let closes = subst (λ s. Closes (IsWithin levels) s goes.content goes.body) size goes.closes in
    let bodies = ap length closes.1 in
    let counted = closes.0 in
    let sides = ap length goes.whole in
    omega (arith, length-append after more, length-append goes.body goes.rest) in
    let told : IsTold levels octets (refusals.Incomplete (needed.Size (n - length after))) = record { memory = tt; missing = (omega arith, none) } in
    subst (IsTold levels octets) (sym cut.is) told

indefinite_told : (levels : ℕ) (octets after : List ℕ) (h : BerHead) (e : Refusal Error) → AllBelowBase 256 octets → AllBelowBase 256 after → ber_header_at octets ≡ Ok (h, after) → h.size ≡ None →
    past_contents (length after) levels 1 after ≡ Err e → IsPlain e → IsTold levels octets e
indefinite_told levels octets after h (refusals.Incomplete needed.Unknown) below left read size given plain = absurd plain
indefinite_told levels octets after h (refusals.Incomplete (needed.Size n)) below left read size given plain =
    let none : (more : List ℕ) → length more < n → ¬ HasBerElement levels (octets ++ more) = λ more few has.
    let goes = continues levels octets after more h below read has in
    let closes = subst (λ s. Closes (IsWithin levels) s goes.content goes.body) size goes.closes in
    let ends : AllEnd levels 1 goes.rest (after ++ more) = record {
      content = goes.content;
      after = goes.rest;
      each = closes.0;
      whole = goes.whole ∙ ap (λ z. z ++ goes.rest) closes.1 ∙ append_assoc goes.content end_of_contents goes.rest;
      next = refl;
    } in
    ends_lack (length after) goes.rest more n few levels 1 after left (omega arith) given ends in
    record { memory = tt; missing = (plain, none) }
indefinite_told levels octets after h (refusals.Error e) below left read size given plain = record { memory = plain; missing = tt }
indefinite_told levels octets after h (refusals.Failure e) below left read size given plain = absurd plain

walk_told : (levels : ℕ) (octets after : List ℕ) (h : BerHead) (e : Refusal Error) (r : Rest) → AllBelowBase 256 octets → AllBelowBase 256 after → ber_header_at octets ≡ Ok (h, after) → h.size ≡ None →
    past_contents (length after) levels 1 after ≡ r → indefinite_at h after r ≡ Err e → IsTold levels octets e
walk_told levels octets after h e (Ok rest) below left read size walk given = cc
walk_told levels octets after h e (Err d) below left read size walk given =
    let same : d ≡ e = cc in
    let walked = walk ∙ ap (λ x. Err x) same in
    indefinite_told levels octets after h e below left read size walked (walk_plain (length after) e levels 1 after left walked)

size_told : (levels : ℕ) (octets after : List ℕ) (h : BerHead) (size : Option ℕ) (e : Refusal Error) → AllBelowBase 256 octets → AllBelowBase 256 after → ber_header_at octets ≡ Ok (h, after) → h.size ≡ size →
    sized_at levels h size after ≡ Err e → IsTold levels octets e
size_told levels octets after h None e below left read size given = walk_told levels octets after h e (past_contents (length after) levels 1 after) below left read size refl given
size_told levels octets after h (Some n) e below left read size given =
    elim (refused_steps (part_at n after) (λ content rest. (let r : Answer BerElement = Ok (record { head = h; content = content }, rest) in r)) e given) [
      | inl part ↦ definite_told levels n octets after h e below read size part
      | inr none ↦ (let bad = none.2 in cc)
    ]

behind_told : (levels : ℕ) (octets : List ℕ) (e : Refusal Error) (x : BerHead × List ℕ) → AllBelowBase 256 octets → ber_header_at octets ≡ Ok x → ber_content_at levels x.0 x.1 ≡ Err e → IsTold levels octets e
behind_told levels octets e x below read given =
    let begins = ber_header_found octets x.0 x.1 below read in
    size_told levels octets x.1 x.0 x.0.size e below (append_below 256 begins.front x.1 (subst (AllBelowBase 256) begins.whole below)) read refl given

pub ber_told : (levels : ℕ) (octets : List ℕ) (e : Refusal Error) → AllBelowBase 256 octets → ber_element_at levels octets ≡ Err e → IsTold levels octets e
unfolding ber_element_at
ber_told levels octets e below given =
    elim (refused_steps (ber_header_at octets) (ber_content_at levels) e given) [
      | inl first ↦ header_told levels octets e (ber_header_refused octets e below first)
      | inr second ↦ behind_told levels octets e second.0 below second.1 second.2
    ]

-- fewer things begin the octets
pub missing_weaker : (e : Refusal Error) (octets : List ℕ) (P Q : List ℕ → Type 0) → ((s : List ℕ) → Q s → P s) → IsMissing P octets e → IsMissing Q octets e
missing_weaker (refusals.Incomplete needed.Unknown) octets P Q f p = p
missing_weaker (refusals.Incomplete (needed.Size n)) octets P Q f p = (p.0, λ more few q. p.1 more few (f (octets ++ more) q))
missing_weaker (refusals.Error e) octets P Q f p = tt
missing_weaker (refusals.Failure e) octets P Q f p = tt
