-- A bound by a path length, as an example.
use Rattle.std.proofs.Common.{◌≡◌, ◌∙◌, ap, sym, refl, zero, suc, ℕ, true, false, List, [], ◌∷◌, ◌++◌, map, length, length-append, arith, get_or, lit<}
use Rattle.std.specs.List.{Contains}
use Rattle.cert_graph.specs.Adequate.{at_row}
use Rattle.cert_graph.specs.declared.reach.Reach.{Reach}
use Rattle.cert_graph.specs.declared.reach.Reach.TheVariants.{No, UpTo}
use Rattle.cert_model.specs.Class.{certificate}
use Rattle.cert_model.specs.Examples.{key, common_name, issued_by_b}
use Rattle.cert_model.specs.Extended.{basic_constraints}
use Rattle.cert_model.specs.Fields.{Extension, Certificate}
use Rattle.cert_model.specs.Octets.{name_octets, relative_name_octets, attribute_octets, key_octets}
use Rattle.cert_judge.specs.Examples.{certificate_item, extension, vouching_for_all, unlimited, limited_to, authority, limited_above}
use Rattle.cert_judge.specs.ItemGraph.{KeyIdsAgree, IsLink}
use Rattle.cert_judge.specs.Revoking.{Item, IsSatisfied}
use Rattle.cert_judge.proofs.ExampleLists.{no_list}
use Rattle.cert_judge.proofs.Grouping.{one_certificate}
use Rattle.certpath_why.specs.Bounds.{IsCounted, IsHeldBack, IsBound}
use Rattle.certpath_why.specs.Reached.{IsIssuerByName, IsReached, IsFurther}

abbrev items : List Item
items = map certificate_item limited_above

abbrev plain_b : Certificate
plain_b = authority 0x62 0x63 key unlimited

abbrev limited_c : Certificate
limited_c = authority 0x63 0x64 key (limited_to 0)

abbrev row : List Reach
row = No ∷ No ∷ UpTo 0 ∷ []

-- ---- the link from b's certificate to c's

only_certificates : (cs : List Certificate) (x : Item) → Contains (map certificate_item cs) x → (c : Certificate) × (x ≡ certificate_item c)
only_certificates [] x (k, lt, is) = absurd (omega (arith, lt))
only_certificates (c ∷ cs) x (zero, lt, is) = (c, sym is)
only_certificates (c ∷ cs) x (suc k, lt, is) = only_certificates cs x (k, omega (arith, lt), is)

satisfied : IsSatisfied (vouching_for_all false) items (name_octets limited_c.subject) (key_octets key) plain_b.serial
satisfied = record {
  kept = λ h. let f = only_certificates limited_above h.0 h.2 in no_list h.0 f.0 h.1 f.1 h.3.is_list;
  listed = λ d. absurd (cc);
}

first_is : (e x : Extension) (front back : List Extension) → e ∷ [] ≡ front ++ x ∷ back → e ≡ x
first_is e x [] back is = ap (λ (es : List Extension). get_or es 0 e) is
first_is e x (f ∷ front) back is = let long = ap (λ (es : List Extension). length es) is ∙ ap suc (length-append front (x ∷ back)) in absurd (omega arith)

-- it names no issuer's key
names_none : KeyIdsAgree plain_b limited_c
names_none = λ a s names has.
    let is = first_is (extension basic_constraints true unlimited) names.stands.extension names.stands.front names.stands.back names.stands.place in
    let e = ap (λ (x : Extension). x.identifier) is ∙ names.stands.under in
    absurd cc

linked : IsLink (vouching_for_all false) items (certificate_item plain_b) (certificate_item limited_c)
linked = (plain_b, refl, (limited_c, refl, (record { issuer = refl; vouched = tt; satisfied = satisfied }, names_none)))

-- ---- b's certificate is reached from the target, and counts

unlike : name_octets (common_name 0x62) ≡ name_octets (common_name 0x63) → ⊥
unfolding name_octets relative_name_octets attribute_octets
unlike e = let last = ap (λ (s : List ℕ). get_or s 13 0) e in omega arith

by_name : IsIssuerByName items 0 1
by_name = (lit< tt, λ d. (issued_by_b, refl, (lit< tt, λ e. (plain_b, refl, refl))))

reached : IsReached items 0 1
reached = (1, (1, by_name, ((lit< tt, λ d. (plain_b, refl, tt)), refl)))

counts : IsCounted items 1
counts = (lit< tt, λ d. (plain_b, refl, unlike))

pub held_by_the_limit : IsBound (vouching_for_all false) items 0 (at_row row) 2
held_by_the_limit = ((1, (reached, λ e. omega (arith, e)), record { leads_nowhere = refl; counts = counts; linked = (lit< tt, λ d. (lit< tt, λ e. linked)); bounded = refl }), λ e. omega (arith, e))

-- ---- from b's certificate as target nothing is held back

link_names : (c d : Certificate) → IsLink (vouching_for_all false) items (certificate_item c) (certificate_item d) → name_octets c.issuer ≡ name_octets d.subject
link_names c d h =
    let p = one_certificate (certificate c) h.0 c h.1 refl in
    let q = one_certificate (certificate d) h.2.0 d h.2.1 refl in
    sym (ap (λ (x : Certificate). name_octets x.issuer) p) ∙ h.2.2.0.issuer ∙ ap (λ (x : Certificate). name_octets x.subject) q

nobody_held : (w : ℕ) → IsFurther items 1 w → IsHeldBack (vouching_for_all false) items (at_row row) w 2 → ⊥
nobody_held zero f h = unlike (link_names issued_by_b limited_c ((h.linked.1 (certificate_item plain_b)).1 (certificate_item plain_b)))
nobody_held (suc zero) f h = f.1 refl
nobody_held (suc (suc zero)) f h = let e : UpTo 0 ≡ No = h.leads_nowhere in cc
nobody_held (suc (suc (suc w))) f h = omega (arith, h.linked.0)

pub target_not_held : IsBound (vouching_for_all false) items 1 (at_row row) 2 → ⊥
target_not_held b = nobody_held b.0.0 b.0.1 b.0.2
