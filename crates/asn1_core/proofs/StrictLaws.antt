-- The strict header: what the strict reading accepts, and that a list begins with one of them at most.
use Rattle.std.proofs.Common.{◌≡◌, ℕ, ◌+◌, ◌^◌, ◌<◌, ◌≤◌, nat_lt, Bool, true, false, Option, Some, None, List, [], ◌∷◌, ◌++◌, length, Ok, inl, inr, refl, sym, ap, ap₂, ◌∙◌, subst, arith, append_assoc, lt-ltb, le-ltb}
use Rattle.std.proofs.lemmas.Bool.{cases_lt}
use Rattle.std.specs.Int.Digits.{digits_of, number_from_digits, AllBelowBase}
use Rattle.std.proofs.lemmas.Int.Digits.{length-digits_of-le, all_below_base_digits_of}
use Rattle.asn1_core.specs.Digits.{continued}
use Rattle.asn1_core.specs.Strict.{Head, IsHead, lead, strict_identifier, strict_length, strict_header}
use Rattle.asn1_core.specs.Elements.{Element, IsElement, head_of_element, element_octets}
use Rattle.asn1_core.specs.Lenient.{SpellsIdentifier, SpellsLength, SpellsHeader}
use Rattle.asn1_core.specs.Reading.{identity_at, length_at, is_short_identifier, is_short_length, strict_head, strict_at}
use Rattle.asn1_core.specs.Views.{Identity}
use Rattle.asn1_core.proofs.Cases.{chosen, same_answer, two_steps}
use Rattle.asn1_core.proofs.Numbers.{append_below, digits_shortest, fewest_are}
use Rattle.asn1_core.proofs.Identities.{IsIdentified, identity_found, identity_again}
use Rattle.asn1_core.proofs.Lengths.{IsMeasured, length_found, length_again}
use Rattle.asn1_core.proofs.LenientLaws.{same_split}
use Rattle.asn1_core.proofs.Short.{short_identifier, short_length, identifier_is_short, length_is_short}

-- the strict identifier is one of the lenient ones
pub identifier_is_lenient : (class : ℕ) (constructed : Bool) (tag : ℕ) → SpellsIdentifier (strict_identifier class constructed tag) class constructed tag
identifier_is_lenient class constructed tag =
    elim (cases_lt tag 31) [
      | inl low ↦ let short : nat_lt tag 31 ≡ true = lt-ltb tag 31 low in inl (low, rw short refl)
      | inr high ↦
          let long : nat_lt tag 31 ≡ false = le-ltb tag 31 high in
          inr (digits_of 128 tag, fewest_are 128 tag (omega arith) (omega arith), rw long refl)
    ]

-- and so is the strict length
pub length_is_lenient : (n : ℕ) → n < 2 ^ 64 → SpellsLength (strict_length n) n
length_is_lenient n small =
    elim (cases_lt n 128) [
      | inl low ↦ let short : nat_lt n 128 ≡ true = lt-ltb n 128 low in inl (low, rw short refl)
      | inr high ↦
          let long : nat_lt n 128 ≡ false = le-ltb n 128 high in
          inr (digits_of 256 n, fewest_are 256 n (omega arith) (omega arith), omega (arith, length-digits_of-le 256 8 n (omega arith) small), rw long refl)
    ]

pub header_is_lenient : (h : Head) → IsHead h → SpellsHeader (strict_header h) h
header_is_lenient h head = record {
  identifier = strict_identifier h.class h.constructed h.tag;
  size = strict_length h.size;
  whole = refl;
  spells_identifier = identifier_is_lenient h.class h.constructed h.tag;
  spells_length = length_is_lenient h.size head.size;
}

-- an identifier that passes the test is the strict one
front_identifier : (front : List ℕ) (class : ℕ) (constructed : Bool) (tag : ℕ) (after : List ℕ) → SpellsIdentifier front class constructed tag
    → is_short_identifier (front ++ after) tag ≡ true → front ≡ strict_identifier class constructed tag
front_identifier front class constructed tag after (inl (low, e)) test =
    let short : nat_lt tag 31 ≡ true = lt-ltb tag 31 low in e ∙ rw short refl
front_identifier front class constructed tag after (inr (ds, are, e)) test =
    e ∙ short_identifier class constructed tag ds after are (subst (λ f. is_short_identifier (f ++ after) tag ≡ true) e test)

-- and a length that passes the test
front_length : (front : List ℕ) (n : ℕ) (rest : List ℕ) → SpellsLength front n → is_short_length (front ++ rest) n ≡ true → front ≡ strict_length n
front_length front n rest (inl (low, e)) test = let short : nat_lt n 128 ≡ true = lt-ltb n 128 low in e ∙ rw short refl
front_length front n rest (inr (ds, are, few, e)) test =
    e ∙ short_length n ds rest are (subst (λ f. is_short_length (f ++ rest) n ≡ true) e test)

-- a strict header at the front of octets
pub record BeginsStrictly (octets : List ℕ) (h : Head) (rest : List ℕ) : Type 0 where
  pub head : IsHead h
  pub whole : octets ≡ strict_header h ++ rest

strict_parts : (octets : List ℕ) (id : Identity) (after : List ℕ) (size : Option ℕ) (last : List ℕ) (h : Head) (rest : List ℕ)
    → IsIdentified octets id after → is_short_identifier octets id.tag ≡ true → IsMeasured after size last
    → strict_head id after size last ≡ Ok (h, rest) → BeginsStrictly octets h rest
strict_parts octets id after None last h rest identified test measured read = cc
strict_parts octets id after (Some n) last h rest identified test (small, (front, spells, split)) read =
    elim (chosen (is_short_length after n) _ _ _ read) [
      | inl short ↦
          let said : Head = record { class = id.class; constructed = id.constructed; tag = id.tag; size = n } in
          let done = same_answer said h last rest short.1 in
          let first : identified.front ≡ strict_identifier id.class id.constructed id.tag =
          front_identifier identified.front id.class id.constructed id.tag after identified.spells (subst (λ o. is_short_identifier o id.tag ≡ true) identified.whole test) in
          let second : front ≡ strict_length n = front_length front n last spells (subst (λ o. is_short_length o n ≡ true) split short.0) in
          let whole : octets ≡ strict_header said ++ last =
          identified.whole ∙ ap (λ f. f ++ after) first ∙ ap (λ a. strict_identifier id.class id.constructed id.tag ++ a) (split ∙ ap (λ f. f ++ last) second)
          ∙ sym (append_assoc (strict_identifier id.class id.constructed id.tag) (strict_length n) last) in
          let here : BeginsStrictly octets said last = record {
            head = record { class = identified.class; tag = identified.tag; size = small };
            whole = whole;
          } in
          subst (λ r. BeginsStrictly octets h r) done.1 (subst (λ x. BeginsStrictly octets x last) done.0 here)
      | inr long ↦ cc
    ]

pub strict_found : (octets : List ℕ) (h : Head) (rest : List ℕ) → AllBelowBase 256 octets → strict_at octets ≡ Ok (h, rest) → BeginsStrictly octets h rest
unfolding strict_at
strict_found octets h rest below read =
    let first = two_steps (identity_at octets) _ _ read in
    elim (chosen (is_short_identifier octets first.0.0.tag) _ _ _ first.2) [
      | inl short ↦
          let second = two_steps (length_at first.0.1) _ _ short.1 in
          let identified = identity_found octets first.0.0 first.0.1 below first.1 in
          let left : AllBelowBase 256 first.0.1 = append_below 256 identified.front first.0.1 (subst (AllBelowBase 256) identified.whole below) in
          strict_parts octets first.0.0 first.0.1 second.0.0 second.0.1 h rest identified short.0 (length_found first.0.1 second.0.0 second.0.1 left second.1) second.2
      | inr long ↦ cc
    ]

pub strict_again : (h : Head) (rest : List ℕ) → IsHead h → strict_at (strict_header h ++ rest) ≡ Ok (h, rest)
unfolding strict_at
strict_again h rest head =
    let identifier = strict_identifier h.class h.constructed h.tag in
    let after = strict_length h.size ++ rest in
    let split : strict_header h ++ rest ≡ identifier ++ after = append_assoc identifier (strict_length h.size) rest in
    let first = identity_again identifier h.class h.constructed h.tag after head.tag (identifier_is_lenient h.class h.constructed h.tag) in
    let short = identifier_is_short h.class h.constructed h.tag after in
    let second = length_again (strict_length h.size) h.size rest head.size (length_is_lenient h.size head.size) in
    let closes = length_is_short h.size rest in
    rw (split, first, short, second, closes) refl

-- two strict headers at the front of one list are one, and so are the rests
pub one_header_lem : (h k : Head) (xs ys : List ℕ) → IsHead h → IsHead k → strict_header h ++ xs ≡ strict_header k ++ ys → (h ≡ k) × (xs ≡ ys)
one_header_lem h k xs ys first second same =
    same_answer h k xs ys (sym (strict_again h xs first) ∙ ap strict_at same ∙ strict_again k ys second)

-- an element of a head and a content
element_of : Head → List ℕ → Element
element_of h content = record { class = h.class; constructed = h.constructed; tag = h.tag; content = content }

element_is : (e : Element) → element_of (head_of_element e) e.content ≡ e
unfolding element_of
element_is e = refl

-- one element begins a list, at most
pub one_element_lem : (e f : Element) (xs ys : List ℕ) → IsElement e → IsElement f → element_octets e ++ xs ≡ element_octets f ++ ys → (e ≡ f) × (xs ≡ ys)
one_element_lem e f xs ys first second same =
    let h = head_of_element e in
    let k = head_of_element f in
    let regrouped : strict_header h ++ (e.content ++ xs) ≡ strict_header k ++ (f.content ++ ys) =
    sym (append_assoc (strict_header h) e.content xs) ∙ same ∙ append_assoc (strict_header k) f.content ys in
    let heads = one_header_lem h k (e.content ++ xs) (f.content ++ ys) first second regrouped in
    let sizes : length e.content ≡ length f.content = ap (λ (x : Head). x.size) heads.0 in
    let parts = same_split e.content f.content xs ys sizes heads.1 in
    (sym (element_is e) ∙ ap₂ element_of heads.0 parts.0 ∙ element_is f, parts.1)

-- digits whose first isn't 0 are the strict length of a number from 128 on
pub long_length_lem : (d : ℕ) (ds : List ℕ) → 0 < d → AllBelowBase 256 (d ∷ ds) → 128 ≤ number_from_digits 256 (d ∷ ds)
    → strict_length (number_from_digits 256 (d ∷ ds)) ≡ (128 + length (d ∷ ds)) ∷ d ∷ ds
long_length_lem d ds pos below large =
    let n = number_from_digits 256 (d ∷ ds) in
    let long : nat_lt n 128 ≡ false = le-ltb n 128 large in
    let same : digits_of 256 n ≡ d ∷ ds = digits_shortest 256 d ds (omega arith) pos below in
    rw (long, same) refl

-- both parts below the base
below_append : (b : ℕ) (xs ys : List ℕ) → AllBelowBase b xs → AllBelowBase b ys → AllBelowBase b (xs ++ ys)
below_append b [] ys first second = second
below_append b (x ∷ xs) ys first second = (first.0, below_append b xs ys first.1 second)

continued_octets : (ds : List ℕ) → AllBelowBase 128 ds → AllBelowBase 256 (continued ds)
continued_octets [] below = tt
continued_octets (d ∷ []) below = let low = below.0 in (omega arith, tt)
continued_octets (d ∷ e ∷ ds) below = let low = below.0 in (omega arith, continued_octets (e ∷ ds) below.1)

lead_octet : (class : ℕ) (constructed : Bool) (low : ℕ) → class < 4 → low < 32 → lead class constructed low < 256
lead_octet class true low small five = omega arith
lead_octet class false low small five = omega arith

identifier_octets : (class : ℕ) (constructed : Bool) (tag : ℕ) → class < 4 → AllBelowBase 256 (strict_identifier class constructed tag)
identifier_octets class constructed tag small =
    elim (cases_lt tag 31) [
      | inl low ↦ let short : nat_lt tag 31 ≡ true = lt-ltb tag 31 low in rw short (lead_octet class constructed tag small (omega arith), tt)
      | inr high ↦
          let long : nat_lt tag 31 ≡ false = le-ltb tag 31 high in
          rw long (lead_octet class constructed 31 small (omega arith), continued_octets (digits_of 128 tag) (all_below_base_digits_of 128 tag (omega arith)))
    ]

length_octets : (n : ℕ) → n < 2 ^ 64 → AllBelowBase 256 (strict_length n)
length_octets n small =
    elim (cases_lt n 128) [
      | inl low ↦ let short : nat_lt n 128 ≡ true = lt-ltb n 128 low in rw short (omega arith, tt)
      | inr high ↦
          let long : nat_lt n 128 ≡ false = le-ltb n 128 high in
          rw long (omega (arith, length-digits_of-le 256 8 n (omega arith) small), all_below_base_digits_of 256 n (omega arith))
    ]

-- a strict header is octets
pub strict_octets_lem : (h : Head) → IsHead h → AllBelowBase 256 (strict_header h)
strict_octets_lem h head = below_append 256 (strict_identifier h.class h.constructed h.tag) (strict_length h.size) (identifier_octets h.class h.constructed h.tag head.class) (length_octets h.size head.size)
