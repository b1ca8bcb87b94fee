-- Octets that are in others.
use Rattle.std.proofs.Common.{◌≡◌, ◌∙◌, refl, sym, ap, subst, ℕ, ◌≤◌, true, false, ◌||◌, inl, inr, List, [], ◌∷◌, length, take, arith, length-append}
use Rattle.std.specs.List.{starts_with}
use Rattle.std.specs.Prelude.{nat_eq}
use Rattle.std.proofs.Math.Seq.{take-append_seam}
use Rattle.asn1_oid.proofs.Fronts.{front_from_test}
use Rattle.certpath_typed.specs.Told.{stand_in, TellsIdentifier}

-- not at the front, they are where they are after the first octet
pub behind_first : (s after octets : List ℕ) (x : ℕ) → s ≡ x ∷ after → starts_with nat_eq s octets ≡ false → stand_in after octets ≡ stand_in s octets
behind_first s after octets x is test =
    let here : starts_with nat_eq (x ∷ after) octets ≡ false = subst (λ z. starts_with nat_eq z octets ≡ false) is test in
    sym (ap (λ b. b || stand_in after octets) here) ∙ ap (λ z. stand_in z octets) (sym is)

pub found : (item rest octets : List ℕ) → starts_with nat_eq rest octets ≡ true → TellsIdentifier item octets (take (length octets) rest)
unfolding TellsIdentifier
found item rest octets test =
    let front = front_from_test octets rest test in
    inl (ap (take (length octets)) front.whole_is ∙ take-append_seam octets front.rest)

pub room : (rest octets : List ℕ) → starts_with nat_eq rest octets ≡ true → length octets ≤ length rest
room rest octets test =
    let front = front_from_test octets rest test in
    omega (arith, ap length front.whole_is, length-append octets front.rest)

pub not_found : (item rest octets : List ℕ) → stand_in rest octets ≡ stand_in item octets → starts_with nat_eq rest octets ≡ false → length rest ≡ 0 → TellsIdentifier item octets rest
unfolding TellsIdentifier
not_found item [] octets left test none = inr (sym left ∙ test, refl)
not_found item (x ∷ rest) octets left test none = absurd (omega (arith, none))

-- the octets themselves
pub lent : (item octets : List ℕ) → TellsIdentifier item octets octets
unfolding TellsIdentifier
lent item octets = inl refl
