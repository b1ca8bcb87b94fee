-- The path from the second of two items over the first, and what is vouched for.
use Rattle.std.proofs.Common.{◌≡◌, ◌≢◌, ◌∙◌, ap, sym, subst, refl, zero, suc, ℕ, ◌<◌, false, List, [], ◌∷◌, ◌++◌, length, length-append, get_or, arith, inl, inr, Global}
use Rattle.std.specs.Prelude.{IsTrue, Contains}
use Rattle.cert_graph.specs.declared.reach.Reach.{Reach}
use Rattle.cert_graph.specs.declared.reach.Reach.TheVariants.{No, UpTo, Any}
use Rattle.cert_graph.specs.Adequate.{HasAnchored, HasAnchoredAt, IsAdequate, IsTrueAnswer}
use Rattle.cert_graph.specs.Graph.{EndsIn, Graph, IsValidPath}
use Rattle.cert_graph.specs.Reach.{IsAtMost}
use Rattle.cert_graph.proofs.PathLaws.{path_carried}
use Rattle.cert_graph.proofs.True.{adequate_is_true}
use Rattle.cert_model.specs.Class.{certificate, list}
use Rattle.cert_model.specs.Examples.{authority_b, common_name, issued_by_b}
use Rattle.cert_model.specs.Fields.{Certificate, RevocationList}
use Rattle.cert_model.specs.Octets.{attribute_octets, name_octets, relative_name_octets}
use Rattle.cert_judge.specs.Examples.{anchor_named, certificate_item, exchanged, in_june, numbered, path_length_zero, told_apart, told_backwards, vouching_for_both}
use Rattle.cert_judge.specs.Further.{any_identifier}
use Rattle.cert_judge.specs.ItemGraph.{graph_of_items, IsAnchorLink}
use Rattle.cert_judge.specs.Items.{rules_at}
use Rattle.cert_judge.specs.Judging.{IsFitIssuer, IsProcessed}
use Rattle.cert_judge.specs.LawsOfItems.{rules_from, VouchesForMore}
use Rattle.cert_judge.specs.Revoking.{Item, JudgingContext}
use Rattle.cert_judge.proofs.Carrying.{items_carry, same_rules}
use Rattle.cert_judge.proofs.ExampleLaws.{goes_there, path_by_both}
use Rattle.cert_judge.proofs.ExampleLists.{pick}
use Rattle.cert_judge.proofs.Examples.{authority_is_fit, one}
use Rattle.cert_judge.proofs.Grouping.{one_certificate}
use Rattle.cert_judge.proofs.Linking.{fit_is_usable}
use Rattle.laws_judge.specs.Worked.{anything, by_row, first_two, numbered_list, numbered_other, under_c}

-- an authority is as fit where more extensions are processed
pub fit_by_any : IsFitIssuer any_identifier in_june authority_b
unfolding IsProcessed
fit_by_any = record {
  usable = record {
    valid = authority_is_fit.usable.valid;
    extensions = record {
      distinct = authority_is_fit.usable.extensions.distinct;
      processed = one (IsProcessed any_identifier) path_length_zero (λ c. inl (inl refl));
      constraints = authority_is_fit.usable.extensions.constraints;
      usage = authority_is_fit.usable.extensions.usage;
    };
  };
  issues = authority_is_fit.issues;
}

pub other_is_none : (octet : ℕ) (c : Certificate) → (numbered_other octet).class ≡ certificate c → ⊥
other_is_none octet c e = cc

pub list_is_none : (octet : ℕ) (c : Certificate) → (numbered_list octet).class ≡ certificate c → ⊥
list_is_none octet c e = cc

-- ---- the path in the other order

abbrev both : JudgingContext
both = rules_from in_june false (vouching_for_both 1 2)

abbrev backwards : Graph
backwards = graph_of_items both told_backwards under_c

valid : IsValidPath backwards 1 (1 ∷ 0 ∷ []) 0
valid =
    path_carried exchanged (graph_of_items both told_apart under_c) backwards (items_carry exchanged both both told_apart told_backwards under_c (same_rules both told_apart) goes_there) (fit_is_usable both told_backwards under_c) 0
    (0 ∷ 1 ∷ []) 0 path_by_both

-- names of unlike letters
unlike : (x y : ℕ) → x ≢ y → name_octets (common_name x) ≡ name_octets (common_name y) → ⊥
unfolding name_octets relative_name_octets attribute_octets
unlike x y apart e = apart (ap (λ (s : List ℕ). get_or s 13 0) e)

-- the certificate isn't issued under the anchor
not_anchored : (b : ℕ) → backwards.AnchorEdge 1 b → ⊥
not_anchored zero h =
    let link : IsAnchorLink both told_backwards (numbered 1 issued_by_b) (certificate_item (anchor_named 0x63)) = (h.1 (numbered 1 issued_by_b)).1 (certificate_item (anchor_named 0x63)) in
    let p = one_certificate (certificate issued_by_b) link.0 issued_by_b link.1 refl in
    let q = one_certificate (certificate (anchor_named 0x63)) link.2.0 (anchor_named 0x63) link.2.1 refl in
    unlike 0x62 0x63 (λ e. omega (arith, e)) (sym (ap (λ (x : Certificate). name_octets x.issuer) p) ∙ link.2.2.issuer ∙ ap (λ (x : Certificate). name_octets x.subject) q)
not_anchored (suc b) h = let lt = (h.1 (numbered 1 issued_by_b)).0 in omega (arith, lt)

at_most_any : (r : Reach) → IsAtMost r Any
at_most_any No = tt
at_most_any (UpTo n) = tt
at_most_any Any = tt

anchored : HasAnchored backwards (Any ∷ Any ∷ [])
unfolding HasAnchoredAt
anchored zero a fit edge = at_most_any (backwards.limit 0)
anchored (suc zero) a fit edge = at_most_any (backwards.limit 1)
anchored (suc (suc v)) a fit edge = let lt = fit.0 in absurd (omega (arith, lt))

-- of the two positions the second is 0
second_is : (front back : List ℕ) (v p : ℕ) → 1 ∷ 0 ∷ [] ≡ front ++ v ∷ p ∷ back → p ≡ 0
second_is [] back v p e = sym (ap (λ (s : List ℕ). get_or s 1 0) e)
second_is (x ∷ front) back v p e = let long = ap (λ (s : List ℕ). length s) e ∙ ap suc (length-append front (v ∷ p ∷ back)) in absurd (omega (arith, long))

no_smaller : EndsIn (λ v. (b : ℕ) → b < 0 → backwards.AnchorEdge v b → ⊥) (1 ∷ 0 ∷ [])
no_smaller front v e b lt edge = omega (arith, lt)

module _ (alloc : Global) where
  pub adequate : IsAdequate backwards 1 (by_row alloc)
  adequate = record {
    valid = valid;
    count = refl;
    whole = one (λ (row : List Reach). length row ≡ 2) (Any ∷ Any ∷ []) refl;
    anchored = one (HasAnchored backwards) (Any ∷ Any ∷ []) anchored;
    successors = λ k lt. absurd (omega (arith, lt));
    least_anchor = no_smaller;
    not_alone = λ some. not_anchored;
    not_shorter = λ k w e. absurd (omega (arith, e));
    not_smaller = λ front back v p w e lt. (let none = second_is front back v p e in absurd (omega (arith, lt, none)));
  }

  pub holds : IsTrueAnswer backwards 1 (by_row alloc)
  holds = adequate_is_true backwards 1 (by_row alloc) adequate

-- ---- what is vouched for

no_list_numbered : (octet : ℕ) (x : Item) (c : Certificate) (l : RevocationList) → x ≡ numbered octet c → x.class ≡ list l → ⊥
no_list_numbered octet x c l is told = let e = sym (ap (λ (i : Item). i.class) is) ∙ told in cc

pub no_list_apart : (x : Item) (l : RevocationList) → Contains told_apart x → x.class ≡ list l → ⊥
no_list_apart x l at told = elim (pick x (numbered 1 issued_by_b) (numbered 2 authority_b) at) [
  | inl is ↦ no_list_numbered 1 x issued_by_b l is told
  | inr is ↦ no_list_numbered 2 x authority_b l is told
]

pub both_vouched : (x : Item) (key : List ℕ) → Contains told_apart x → IsTrue (vouching_for_both 1 2 key x.octets)
both_vouched x key at = elim (pick x (numbered 1 issued_by_b) (numbered 2 authority_b) at) [
  | inl e ↦ subst (λ (i : Item). IsTrue (vouching_for_both 1 2 key i.octets)) (sym e) refl
  | inr e ↦ subst (λ (i : Item). IsTrue (vouching_for_both 1 2 key i.octets)) (sym e) refl
]

pub more : VouchesForMore (rules_at in_june false first_two) (rules_at in_june false anything) told_apart
more = record {
  moment = refl;
  demand = refl;
  certificates = λ x c key at is v. refl;
  lists = λ x l key at is. absurd (no_list_apart x l at is);
  processed = λ x c id at is p. p;
}
