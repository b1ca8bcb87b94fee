-- What is permitted, and who vouches alike.
use Rattle.std.proofs.Common.{◌≡◌, ◌∙◌, ap, sym, subst, refl, zero, suc, ℕ, ◌<◌, true, false, List, [], ◌∷◌, arith, inl, inr}
use Rattle.std.specs.Prelude.{◌↔◌, IsTrue, Contains}
use Rattle.std.proofs.Math.Dec.{lit<}
use Rattle.cert_model.specs.Class.{Class, certificate, list}
use Rattle.cert_model.specs.Examples.{authority_b, issued_by_b, revoking}
use Rattle.cert_model.specs.Fields.{Certificate, RevocationList}
use Rattle.cert_judge.specs.Examples.{in_june, numbered, told_apart, vouching_for_both}
use Rattle.cert_judge.specs.Items.{rules_at}
use Rattle.cert_judge.specs.Revoking.{Item}
use Rattle.cert_judge.proofs.Grouping.{one_certificate}
use Rattle.cert_purpose.specs.Examples.{server_auth}
use Rattle.cert_purpose.specs.Purposes.{Allows}
use Rattle.cert_purpose.specs.Restricting.{PermitsThose, VouchAlike}
use Rattle.cert_purpose.proofs.Worked.{two_allow_none, without_allows}
use Rattle.laws_judge.specs.Worked.{all_but_nine, anything, first_two, numbered_list, path_and_a_list, purposed_twice, two_and_a_list}
use Rattle.laws_judge.proofs.OfPaths.{both_vouched, no_list_apart}

pub alike : VouchAlike (rules_at in_june false first_two) (rules_at in_june false anything) told_apart
alike = record {
  moment = refl;
  demand = refl;
  certificates = λ x c key at is. (λ v. refl, λ v. both_vouched x key at);
  lists = λ x l key at is. absurd (no_list_apart x l at is);
  processed = λ x c id at is. (λ p. p, λ p. p);
}

pub has_list : Contains path_and_a_list (numbered_list 3)
has_list = (2, lit< tt, refl)

no_list_numbered : (octet : ℕ) (x : Item) (c : Certificate) (l : RevocationList) → numbered octet c ≡ x → x.class ≡ list l → ⊥
no_list_numbered octet x c l is told = let e = ap (λ (i : Item). i.class) is ∙ told in cc

-- the item of an octet other than 9 is permitted
permitted : (x y : Item) → y ≡ x → all_but_nine y.octets → all_but_nine x.octets
permitted x y is p = subst (λ (i : Item). all_but_nine i.octets) is p

three_permitted : all_but_nine (numbered_list 3).octets
three_permitted e = cc

pub lists_permitted : (x : Item) (l : RevocationList) → Contains path_and_a_list x → x.class ≡ list l → all_but_nine x.octets
lists_permitted x l (zero, lt, is) told = absurd (no_list_numbered 1 x issued_by_b l is told)
lists_permitted x l (suc zero, lt, is) told = absurd (no_list_numbered 2 x authority_b l is told)
lists_permitted x l (suc (suc zero), lt, is) told = permitted x (numbered_list 3) is three_permitted
lists_permitted x l (suc (suc (suc k)), lt, is) told = absurd (omega (arith, lt))

-- the certificate of a numbered item
certificate_is : (octet : ℕ) (x : Item) (c d : Certificate) → numbered octet d ≡ x → x.class ≡ certificate c → d ≡ c
certificate_is octet x c d is told = one_certificate (certificate d) d c refl (ap (λ (i : Item). i.class) is ∙ told)

no_certificate : (x : Item) (c : Certificate) → numbered_list 3 ≡ x → x.class ≡ certificate c → ⊥
no_certificate x c is told = let e = ap (λ (i : Item). i.class) is ∙ told in cc

one_permitted : all_but_nine (1 ∷ [])
one_permitted e = cc

these : (x : Item) (c : Certificate) → Contains two_and_a_list x → x.class ≡ certificate c → all_but_nine x.octets ↔ Allows server_auth c.extensions
these x c (zero, lt, is) told =
    (λ p. subst (λ (d : Certificate). Allows server_auth d.extensions) (certificate_is 1 x c issued_by_b is told) without_allows, λ a. permitted x (numbered 1 issued_by_b) is one_permitted)
these x c (suc zero, lt, is) told = (
  λ p. absurd (p (sym (ap (λ (i : Item). i.octets) is))),
  λ a. absurd (two_allow_none (subst (λ (d : Certificate). Allows server_auth d.extensions) (sym (certificate_is 9 x c purposed_twice is told)) a)),
)
these x c (suc (suc zero), lt, is) told = absurd (no_certificate x c is told)
these x c (suc (suc (suc k)), lt, is) told = absurd (omega (arith, lt))

lists : (x : Item) (l : RevocationList) → Contains two_and_a_list x → x.class ≡ list l → all_but_nine x.octets
lists x l (zero, lt, is) told = absurd (no_list_numbered 1 x issued_by_b l is told)
lists x l (suc zero, lt, is) told = absurd (no_list_numbered 9 x purposed_twice l is told)
lists x l (suc (suc zero), lt, is) told = permitted x (numbered_list 3) is three_permitted
lists x l (suc (suc (suc k)), lt, is) told = absurd (omega (arith, lt))

pub permits : PermitsThose all_but_nine (λ x c. Allows server_auth c.extensions) two_and_a_list
permits = record { certificates = these; lists = lists }
