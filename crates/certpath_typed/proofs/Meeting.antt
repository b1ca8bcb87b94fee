-- Octets that meet those they are compared with.
use Rattle.std.proofs.Common.{◌≡◌, ◌∙◌, sym, ap, ℕ, ◌+◌, ◌<◌, ◌≤◌, Bool, true, false, List, [], ◌∷◌, ◌++◌, append-nil, append_assoc, drop, length, take, if◌then◌else◌}
use Rattle.std.specs.Prelude.{nat_eq}
use Rattle.std.specs.List.{starts_with}
use Rattle.std.proofs.Math.Seq.{take-add, take-append_seam, drop-append_seam}
use Rattle.std.proofs.lemmas.List.{length-take-le}
use Rattle.asn1_core.proofs.LenientLaws.{same_split}
use Rattle.asn1_oid.proofs.Fronts.{front_from_test, test_from_front}
use Rattle.certpath_typed.specs.Met.{met, held}

-- what is left begins with a further part
pub met_more : (whole : List ℕ) (at : ℕ) (differs : Bool) (other : ℕ) (part : List ℕ) → differs ≡ false → starts_with nat_eq (drop at whole) part ≡ true →
    met whole (at + length part) differs other ≡ met whole at differs other ++ part
met_more whole at differs other part same test =
    let front = front_from_test part (drop at whole) test in
    let next : take (length part) (drop at whole) ≡ part = ap (take (length part)) front.whole_is ∙ take-append_seam part front.rest in
    let none : (if differs then other ∷ [] else []) ≡ [] = ap (λ (b : Bool). if b then other ∷ [] else []) same in
    rw none (append-nil (take (at + length part) whole) ∙ take-add at (length part) whole ∙ ap (λ z. take at whole ++ z) next ∙ ap (λ z. z ++ part) (sym (append-nil (take at whole))))

pub held_more : (whole : List ℕ) (at more : ℕ) (differs wrong : Bool) (other octet : ℕ) (part : List ℕ) → met whole more wrong octet ≡ met whole at differs other ++ part →
    held whole more wrong octet ≡ held whole at differs other ++ part
held_more whole at more differs wrong other octet part is = ap (λ z. length whole ∷ (whole ++ z)) is ∙ ap (λ z. length whole ∷ z) (sym (append_assoc whole (met whole at differs other) part))

-- what is held determines what was compared with, and what was written
pub apart : (whole item : List ℕ) (m none octets : List ℕ) → none ≡ [] → length whole ∷ (whole ++ m) ≡ (length item ∷ (item ++ none)) ++ octets → (whole ≡ item) × (m ≡ octets)
apart whole item m none octets empty is =
    let size : length whole ≡ length item = cc in
    let lists : whole ++ m ≡ (item ++ none) ++ octets = cc in
    let plain : (item ++ none) ++ octets ≡ item ++ octets = ap (λ z. (item ++ z) ++ octets) empty ∙ ap (λ z. z ++ octets) (append-nil item) in
    same_split whole item m octets size (lists ∙ plain)

-- what is after a front
drop_after : (at : ℕ) (front rest whole : List ℕ) → length front ≡ at → whole ≡ front ++ rest → drop at whole ≡ rest
drop_after at front rest whole size is = ap (λ (n : ℕ). drop n whole) (sym size) ∙ ap (drop (length front)) is ∙ drop-append_seam front rest

-- if an octet differs, what was written doesn't begin the octets
pub never : (item : List ℕ) (at : ℕ) (differs : Bool) (other : ℕ) (left : List ℕ) → differs ≡ true → at ≤ length item → starts_with nat_eq (drop at item) (other ∷ []) ≡ false →
    item ≡ met item at differs other ++ left → ⊥
never item at differs other left is within test whole =
    let last : (if differs then other ∷ [] else []) ≡ other ∷ [] = ap (λ (b : Bool). if b then other ∷ [] else []) is in
    let split : item ≡ take at item ++ (other ∷ left) = whole ∙ ap (λ z. (take at item ++ z) ++ left) last ∙ append_assoc (take at item) (other ∷ []) left in
    let behind : drop at item ≡ other ∷ left = drop_after at (take at item) (other ∷ left) item (length-take-le at item within) split in
    let begins = test_from_front (other ∷ []) (drop at item) (record { rest = left; whole_is = behind }) in
    cc

-- the first octet of some
pub one_long : (octets : List ℕ) → 0 < length octets → length (take 1 octets) ≡ 1
one_long octets some = length-take-le 1 octets some
