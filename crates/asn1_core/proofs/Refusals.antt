-- The refusals of the readings: never for lack of memory; and how many octets are missing.
use Rattle.std.proofs.Common.{◌≡◌, ◌≢◌, ℕ, ◌+◌, ◌-◌, ◌*◌, ◌%◌, ◌^◌, ◌<◌, ◌==◌, nat_lt, true, false, Option, Some, None, List, [], ◌∷◌, ◌++◌, length, take, Ok, Err, ◌⊎◌, inl, inr, refl, ap, ◌∙◌, subst, arith, append_assoc, lt-ltb, ltb-true, length-append}
use Rattle.std.specs.Int.Digits.{number_from_digits, AllBelowBase}
use Rattle.asn1_core.specs.declared.error.Error.{Error}
use Rattle.asn1_core.specs.declared.error.Error.TheVariants as errors
use Rattle.asn1_core.specs.declared.error.Needed.TheVariants as needed
use Rattle.asn1_core.specs.declared.outcome.Err.{Err as Refusal}
use Rattle.asn1_core.specs.declared.outcome.Err.TheVariants as refusals
use Rattle.asn1_core.specs.Answers.{Answer, then_read, TakesNoMemory}
use Rattle.asn1_core.specs.Missing.{HasHeader, HasBerHeader, HasStrictHeader, IsMissing}
use Rattle.asn1_core.specs.Reading.{high_tag_after, tag_at, identity_at, size_at, length_at, ber_head, definite_head, ber_header_at, header_at, is_short_identifier, is_short_length, strict_head, strict_at}
use Rattle.asn1_core.specs.Views.{Identity}
use Rattle.asn1_core.proofs.Cases.{chosen, two_steps}
use Rattle.asn1_core.proofs.Numbers.{empty_of}
use Rattle.asn1_core.proofs.Identities.{identity_found, identity_again}
use Rattle.asn1_core.proofs.Headers.{header_again, ber_header_again}
use Rattle.asn1_core.proofs.StrictLaws.{header_is_lenient}

-- a refusal of a reading: never for lack of memory, and with fewer octets than are missing it
-- returns nothing
abbrev pub IsRefused : {A : Type 0} → (List ℕ → Answer A) → List ℕ → Refusal Error → Type 0
IsRefused reading octets (refusals.Incomplete needed.Unknown) = ⊥
IsRefused {A} reading octets (refusals.Incomplete (needed.Size n)) = (0 < n) × ((more : List ℕ) → length more < n → (y : A × List ℕ) → reading (octets ++ more) ≡ Ok y → ⊥)
IsRefused reading octets (refusals.Error e) = e ≢ errors.OutOfMemory
IsRefused reading octets (refusals.Failure e) = ⊥

-- a fault of the octets
record IsFault (e : Refusal Error) : Type 0 where
  fault : Error
  is : refusals.Error fault ≡ e
  named : fault ≢ errors.OutOfMemory

fault_refused : {A : Type 0} (reading : List ℕ → Answer A) (octets : List ℕ) (e : Refusal Error) → IsFault e → IsRefused reading octets e
fault_refused reading octets e fault = subst (IsRefused reading octets) fault.is fault.named

-- one refusal is one
same_refusal : {A : Type 0} (d e : Refusal Error) → (let x : Answer A = Err d in x ≡ Err e) → d ≡ e
same_refusal d e given = cc

-- a reading in two steps that was refused was refused at one of them
refused_steps : {A B : Type 0} (first : Answer A) (f : A → List ℕ → Answer B) (e : Refusal Error) → then_read first f ≡ Err e
    → (first ≡ Err e) ⊎ ((x : A × List ℕ) × (first ≡ Ok x) × (f x.0 x.1 ≡ Err e))
refused_steps (Ok x) f e given = inr (x, refl, given)
refused_steps (Err d) f e given = inl (ap (λ r. Err r) (same_refusal d e given))

high_refused : (n : ℕ) (octets : List ℕ) (e : Refusal Error) → high_tag_after n octets ≡ Err e → IsFault e
unfolding high_tag_after
high_refused n [] e read = record { fault = errors.InvalidTag; is = same_refusal _ e read; named = λ x. cc }
high_refused n (octet ∷ os) e read =
    elim (chosen (nat_lt (n * 128 + octet % 128) (2 ^ 32)) _ _ _ read) [
      | inl fits ↦ elim (chosen (nat_lt octet 128) _ _ _ fits.1) [
        | inl ends ↦ cc
        | inr goes ↦ high_refused (n * 128 + octet % 128) os e goes.1
      ]
      | inr large ↦ record { fault = errors.InvalidTag; is = same_refusal _ e large.1; named = λ x. cc }
    ]

tag_refused : (low : ℕ) (os : List ℕ) (e : Refusal Error) → tag_at low os ≡ Err e → IsFault e
tag_refused low os e read =
    elim (chosen (nat_lt low 31) _ _ _ read) [ inl short ↦ cc | inr high ↦ high_refused 0 os e high.1 ]

-- fewer than one octet is none
none_more : (more : List ℕ) → length more < 1 → more ≡ []
none_more more few = empty_of more (omega arith)

pub identity_refused : (octets : List ℕ) (e : Refusal Error) → identity_at octets ≡ Err e → IsRefused identity_at octets e
unfolding identity_at
identity_refused [] e read =
    let here : IsRefused identity_at [] (refusals.Incomplete (needed.Size 1)) =
    (omega arith, λ more few y again. let none = subst (λ m. identity_at m ≡ Ok y) (none_more more few) again in cc) in
    subst (IsRefused identity_at []) (same_refusal _ e read) here
identity_refused (octet ∷ os) e read =
    elim (refused_steps (tag_at (octet % 32) os) _ e read) [
      | inl tag ↦ fault_refused identity_at (octet ∷ os) e (tag_refused (octet % 32) os e tag)
      | inr after ↦ let impossible = after.2 in cc
    ]

-- a length whose octets are cut stays cut with fewer octets than are missing
still_short : (count : ℕ) (os more : List ℕ) (y : Option ℕ × List ℕ) → length os < count → length more < count - length os → size_at count (os ++ more) ≡ Ok y → ⊥
unfolding size_at
still_short count os more y short few again =
    let cut : nat_lt (length (os ++ more)) count ≡ true = lt-ltb _ _ (omega (arith, length-append os more)) in
    let none = rw cut at again in
    cc

size_refused : (octet : ℕ) (os : List ℕ) (e : Refusal Error) → nat_lt octet 128 ≡ false → (octet == 128) ≡ false → (octet == 255) ≡ false
    → size_at (octet - 128) os ≡ Err e → IsRefused length_at (octet ∷ os) e
unfolding length_at size_at
size_refused octet os e long definite used read =
    elim (chosen (nat_lt (length os) (octet - 128)) _ _ _ read) [
      | inl short ↦
          let cut = ltb-true _ _ short.0 in
          let here : IsRefused length_at (octet ∷ os) (refusals.Incomplete (needed.Size (octet - 128 - length os))) =
          (omega arith, λ more few y again. let went = rw (long, definite, used) at again in still_short (octet - 128) os more y cut few went) in
          subst (IsRefused length_at (octet ∷ os)) (same_refusal _ e short.1) here
      | inr enough ↦ elim (chosen (nat_lt (number_from_digits 256 (take (octet - 128) os)) (2 ^ 64)) _ _ _ enough.1) [
        | inl fits ↦ cc
        | inr large ↦ fault_refused length_at (octet ∷ os) e (record { fault = errors.InvalidLength; is = same_refusal _ e large.1; named = λ x. cc })
      ]
    ]

pub length_refused : (octets : List ℕ) (e : Refusal Error) → length_at octets ≡ Err e → IsRefused length_at octets e
unfolding length_at
length_refused [] e read =
    let here : IsRefused length_at [] (refusals.Incomplete (needed.Size 1)) =
    (omega arith, λ more few y again. let none = subst (λ m. length_at m ≡ Ok y) (none_more more few) again in cc) in
    subst (IsRefused length_at []) (same_refusal _ e read) here
length_refused (octet ∷ os) e read =
    elim (chosen (nat_lt octet 128) _ _ _ read) [
      | inl short ↦ let impossible = short.1 in cc
      | inr long ↦ elim (chosen (octet == 128) _ _ _ long.1) [
        | inl indefinite ↦ let impossible = indefinite.1 in cc
        | inr definite ↦ elim (chosen (octet == 255) _ _ _ definite.1) [
          | inl unused ↦ fault_refused length_at (octet ∷ os) e (record { fault = errors.InvalidLength; is = same_refusal _ e unused.1; named = λ x. cc })
          | inr used ↦ size_refused octet os e long.0 definite.0 used.0 used.1
        ]
      ]
    ]

-- what an identifier was read as stays so with octets after it
identity_stays : (octets more : List ℕ) (id : Identity) (after : List ℕ) → AllBelowBase 256 octets → identity_at octets ≡ Ok (id, after) → identity_at (octets ++ more) ≡ Ok (id, after ++ more)
identity_stays octets more id after below read =
    let found = identity_found octets id after below read in
    let split : octets ++ more ≡ found.front ++ (after ++ more) = ap (λ o. o ++ more) found.whole ∙ append_assoc found.front after more in
    rw split (identity_again found.front id.class id.constructed id.tag (after ++ more) found.tag found.spells)

-- an identifier and a length, closed by a last step that takes no octet
abbrev in_parts : {A : Type 0} → (Identity → Option ℕ → List ℕ → Answer A) → List ℕ → Answer A
in_parts last octets = then_read (identity_at octets) (λ id after. then_read (length_at after) (λ size rest. last id size rest))

first_refused : {A : Type 0} (last : Identity → Option ℕ → List ℕ → Answer A) (octets : List ℕ) (e : Refusal Error) → IsRefused identity_at octets e → IsRefused (in_parts last) octets e
first_refused last octets (refusals.Incomplete needed.Unknown) refused = refused
first_refused last octets (refusals.Incomplete (needed.Size n)) refused =
    (refused.0, λ more few y again. let steps = two_steps (identity_at (octets ++ more)) _ y again in refused.1 more few steps.0 steps.1)
first_refused last octets (refusals.Error e) refused = refused
first_refused last octets (refusals.Failure e) refused = refused

second_refused : {A : Type 0} (last : Identity → Option ℕ → List ℕ → Answer A) (octets : List ℕ) (id : Identity) (after : List ℕ) (e : Refusal Error)
    → AllBelowBase 256 octets → identity_at octets ≡ Ok (id, after) → IsRefused length_at after e → IsRefused (in_parts last) octets e
second_refused last octets id after (refusals.Incomplete needed.Unknown) below first refused = refused
second_refused last octets id after (refusals.Incomplete (needed.Size n)) below first refused = (
  refused.0,
  λ more few y again.
      let steps = two_steps (identity_at (octets ++ more)) _ y again in
      let stays = identity_stays octets more id after below first in
      let same : steps.0 ≡ (id, after ++ more) = cc in
      let next = two_steps (length_at steps.0.1) _ y steps.2 in
      refused.1 more few next.0 (subst (λ (x : Identity × List ℕ). length_at x.1 ≡ Ok next.0) same next.1),
)
second_refused last octets id after (refusals.Error e) below first refused = refused
second_refused last octets id after (refusals.Failure e) below first refused = refused

parts_refused : {A : Type 0} (last : Identity → Option ℕ → List ℕ → Answer A)
    → ((id : Identity) (size : Option ℕ) (rest : List ℕ) (e : Refusal Error) → last id size rest ≡ Err e → IsFault e)
    → (octets : List ℕ) (e : Refusal Error) → AllBelowBase 256 octets → in_parts last octets ≡ Err e → IsRefused (in_parts last) octets e
parts_refused last faults octets e below read =
    elim (refused_steps (identity_at octets) _ e read) [
      | inl identity ↦ first_refused last octets e (identity_refused octets e identity)
      | inr went ↦ elim (refused_steps (length_at went.0.1) _ e went.2) [
        | inl measure ↦ second_refused last octets went.0.0 went.0.1 e below went.1 (length_refused went.0.1 e measure)
        | inr closed ↦ fault_refused (in_parts last) octets e (faults went.0.0 closed.0.0 closed.0.1 e closed.2)
      ]
    ]

definite_fault : (id : Identity) (size : Option ℕ) (rest : List ℕ) (e : Refusal Error) → definite_head id size rest ≡ Err e → IsFault e
definite_fault id (Some n) rest e read = cc
definite_fault id None rest e read = record { fault = _; is = same_refusal _ e read; named = λ x. cc }

ber_fault : (id : Identity) (size : Option ℕ) (rest : List ℕ) (e : Refusal Error) → ber_head id size rest ≡ Err e → IsFault e
ber_fault id (Some n) rest e read = cc
ber_fault id None rest e read =
    elim (chosen id.constructed _ _ _ read) [
      | inl constructed ↦ let impossible = constructed.1 in cc
      | inr primitive ↦ record { fault = errors.ConstructExpected; is = same_refusal _ e primitive.1; named = λ x. cc }
    ]

strict_fault : (id : Identity) (after : List ℕ) (size : Option ℕ) (rest : List ℕ) (e : Refusal Error) → strict_head id after size rest ≡ Err e → IsFault e
strict_fault id after None rest e read = record { fault = _; is = same_refusal _ e read; named = λ x. cc }
strict_fault id after (Some n) rest e read =
    elim (chosen (is_short_length after n) _ _ _ read) [
      | inl short ↦ let impossible = short.1 in cc
      | inr long ↦ record { fault = errors.InvalidLength; is = same_refusal _ e long.1; named = λ x. cc }
    ]

pub header_refused : (octets : List ℕ) (e : Refusal Error) → AllBelowBase 256 octets → header_at octets ≡ Err e → IsRefused header_at octets e
unfolding header_at
header_refused octets e below read = parts_refused definite_head definite_fault octets e below read

pub ber_header_refused : (octets : List ℕ) (e : Refusal Error) → AllBelowBase 256 octets → ber_header_at octets ≡ Err e → IsRefused ber_header_at octets e
unfolding ber_header_at
ber_header_refused octets e below read = parts_refused ber_head ber_fault octets e below read

-- ---- the public words

pub no_memory : {A : Type 0} (reading : List ℕ → Answer A) (octets : List ℕ) (e : Refusal Error) → IsRefused reading octets e → TakesNoMemory e
no_memory reading octets (refusals.Incomplete needed.Unknown) refused = tt
no_memory reading octets (refusals.Incomplete (needed.Size n)) refused = tt
no_memory reading octets (refusals.Error e) refused = refused
no_memory reading octets (refusals.Failure e) refused = refused

pub header_missing : (octets : List ℕ) (e : Refusal Error) → IsRefused header_at octets e → IsMissing HasHeader octets e
header_missing octets (refusals.Incomplete needed.Unknown) refused = refused
header_missing octets (refusals.Incomplete (needed.Size n)) refused =
    (refused.0, λ more few has. refused.1 more few (has.0, has.2) (rw has.5 (header_again has.1 has.0 has.2 has.3 has.4)))
header_missing octets (refusals.Error e) refused = tt
header_missing octets (refusals.Failure e) refused = tt

pub ber_header_missing : (octets : List ℕ) (e : Refusal Error) → IsRefused ber_header_at octets e → IsMissing HasBerHeader octets e
ber_header_missing octets (refusals.Incomplete needed.Unknown) refused = refused
ber_header_missing octets (refusals.Incomplete (needed.Size n)) refused =
    (refused.0, λ more few has. refused.1 more few (has.0, has.2) (rw has.5 (ber_header_again has.1 has.0 has.2 has.3 has.4)))
ber_header_missing octets (refusals.Error e) refused = tt
ber_header_missing octets (refusals.Failure e) refused = tt

strict_missing : (octets : List ℕ) (e : Refusal Error) → IsRefused header_at octets e → IsMissing HasStrictHeader octets e
strict_missing octets (refusals.Incomplete needed.Unknown) refused = refused
strict_missing octets (refusals.Incomplete (needed.Size n)) refused =
    (refused.0, λ more few has. refused.1 more few (has.0, has.1) (rw has.3 (header_again _ has.0 has.1 has.2 (header_is_lenient has.0 has.2))))
strict_missing octets (refusals.Error e) refused = tt
strict_missing octets (refusals.Failure e) refused = tt

-- the strict reading is refused for a fault, or as the lenient one is
strict_as_header : (octets : List ℕ) (e : Refusal Error) → strict_at octets ≡ Err e → IsFault e ⊎ (header_at octets ≡ Err e)
unfolding strict_at header_at
strict_as_header octets e read =
    elim (refused_steps (identity_at octets) _ e read) [
      | inl identity ↦ inr (rw identity refl)
      | inr went ↦ elim (chosen (is_short_identifier octets went.0.0.tag) _ _ _ went.2) [
        | inl short ↦ elim (refused_steps (length_at went.0.1) _ e short.1) [
          | inl measure ↦ inr (rw (went.1, measure) refl)
          | inr closed ↦ inl (strict_fault went.0.0 went.0.1 closed.0.0 closed.0.1 e closed.2)
        ]
        | inr long ↦ inl (record { fault = errors.InvalidTag; is = same_refusal _ e long.1; named = λ x. cc })
      ]
    ]

pub strict_no_memory : (octets : List ℕ) (e : Refusal Error) → AllBelowBase 256 octets → strict_at octets ≡ Err e → TakesNoMemory e
strict_no_memory octets e below read =
    elim (strict_as_header octets e read) [
      | inl fault ↦ subst TakesNoMemory fault.is fault.named
      | inr lenient ↦ no_memory header_at octets e (header_refused octets e below lenient)
    ]

pub strict_header_missing : (octets : List ℕ) (e : Refusal Error) → AllBelowBase 256 octets → strict_at octets ≡ Err e → IsMissing HasStrictHeader octets e
strict_header_missing octets e below read =
    elim (strict_as_header octets e read) [
      | inl fault ↦ subst (IsMissing HasStrictHeader octets) fault.is tt
      | inr lenient ↦ strict_missing octets e (header_refused octets e below lenient)
    ]
