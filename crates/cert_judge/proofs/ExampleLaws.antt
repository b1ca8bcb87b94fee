-- The premises of laws at worked cases.
use Rattle.std.proofs.Common.{◌≡◌, ◌∙◌, ap, sym, subst, refl, zero, suc, ℕ, List, [], ◌∷◌, false, arith, inl, inr, lit<}
use Rattle.std.specs.Prelude.{IsTrue}
use Rattle.std.specs.List.{Contains}
use Rattle.cert_graph.specs.Entries.{IsAt}
use Rattle.cert_graph.specs.Graph.{IsValidPath}
use Rattle.cert_graph.proofs.PathLaws.{valid_from}
use Rattle.cert_model.specs.Fields.{Number, Certificate, RevocationList}
use Rattle.cert_model.specs.Class.{list}
use Rattle.cert_model.specs.Examples.{issued_by_b, authority_b}
use Rattle.cert_judge.specs.Revoking.{Item, IsSatisfied}
use Rattle.cert_judge.specs.ItemGraph.{graph_of_items}
use Rattle.cert_judge.specs.LawsOfItems.{rules_from, VouchesForMore, Keeps}
use Rattle.cert_judge.specs.Examples.{in_june, anchor_named, certificate_item, numbered, told_apart, told_backwards, exchanged, vouching_for, vouching_for_both}
use Rattle.cert_judge.proofs.Linking.{fit_is_usable}
use Rattle.cert_judge.proofs.Examples.{authority_is_fit}
use Rattle.cert_judge.proofs.ExampleLists.{pick, target_usable, names_no_key}

no_list_numbered : (octet : ℕ) (x : Item) (c : Certificate) (l : RevocationList) → x ≡ numbered octet c → x.class ≡ list l → ⊥
no_list_numbered octet x c l is told = let e = sym (ap (λ (i : Item). i.class) is) ∙ told in cc

no_list_apart : (x : Item) (l : RevocationList) → Contains told_apart x → x.class ≡ list l → ⊥
no_list_apart x l at told = elim (pick x (numbered 1 issued_by_b) (numbered 2 authority_b) at) [
  | inl is ↦ no_list_numbered 1 x issued_by_b l is told
  | inr is ↦ no_list_numbered 2 x authority_b l is told
]

no_list_backwards : (x : Item) (l : RevocationList) → Contains told_backwards x → x.class ≡ list l → ⊥
no_list_backwards x l at told = elim (pick x (numbered 2 authority_b) (numbered 1 issued_by_b) at) [
  | inl is ↦ no_list_numbered 2 x authority_b l is told
  | inr is ↦ no_list_numbered 1 x issued_by_b l is told
]

pub one_voucher_more : VouchesForMore (rules_from in_june false (vouching_for 2)) (rules_from in_june false (vouching_for_both 1 2)) told_apart
one_voucher_more = record {
  moment = refl;
  demand = refl;
  certificates = λ x c key at is v. elim (pick x (numbered 1 issued_by_b) (numbered 2 authority_b) at) [
    | inl e ↦ subst (λ (i : Item). IsTrue (vouching_for_both 1 2 key i.octets)) (sym e) refl
    | inr e ↦ subst (λ (i : Item). IsTrue (vouching_for_both 1 2 key i.octets)) (sym e) refl
  ];
  lists = λ x l key at is. absurd (no_list_apart x l at is);
  processed = λ x c id at is p. p;
}

pub not_before : (key : List ℕ) → IsTrue (vouching_for 2 key (1 ∷ [])) → ⊥
not_before key h = cc

pub vouched_now : (key : List ℕ) → IsTrue (vouching_for_both 1 2 key (1 ∷ []))
vouched_now key = refl

no_lists : (name key : List ℕ) (serial : Number) → IsSatisfied (rules_from in_june false (vouching_for_both 1 2)) told_apart name key serial
no_lists name key serial = record { kept = λ r. no_list_apart r.0 r.1 r.2 r.3.is_list; listed = λ d. absurd cc }

pub path_by_both : IsValidPath (graph_of_items (rules_from in_june false (vouching_for_both 1 2)) told_apart (certificate_item (anchor_named 0x63) ∷ [])) 0 (0 ∷ 1 ∷ []) 0
path_by_both =
    let r = rules_from in_june false (vouching_for_both 1 2) in
    let anchors = certificate_item (anchor_named 0x63) ∷ [] in
    valid_from (graph_of_items r told_apart anchors) (fit_is_usable r told_apart anchors) 0 (1 ∷ []) 0 (
      (lit< tt, λ d. (issued_by_b, refl, target_usable)),
      (lit< tt, λ d. (lit< tt, λ e. (issued_by_b, refl, (authority_b, refl, (record { issuer = refl; vouched = refl; satisfied = no_lists _ _ _ }, names_no_key))))),
      (
        (lit< tt, λ d. (authority_b, refl, authority_is_fit)),
        omega arith,
        (lit< tt, λ d. (lit< tt, λ e. (authority_b, refl, (anchor_named 0x63, refl, record { issuer = refl; vouched = refl; satisfied = no_lists _ _ _ })))),
      ),
    )

there_at : (v : ℕ) (x : Item) → IsAt told_apart v (λ y. y ≡ x) → IsAt told_backwards (exchanged v) (λ y. y ≡ x)
there_at zero x h = (lit< tt, λ d. h.1 d)
there_at (suc zero) x h = (lit< tt, λ d. h.1 d)
there_at (suc (suc v)) x h = absurd (omega (arith, h.0))

back_at : (v : ℕ) (x : Item) → IsAt told_backwards v (λ y. y ≡ x) → IsAt told_apart (exchanged v) (λ y. y ≡ x)
back_at zero x h = (lit< tt, λ d. h.1 d)
back_at (suc zero) x h = (lit< tt, λ d. h.1 d)
back_at (suc (suc v)) x h = absurd (omega (arith, h.0))

pub goes_there : Keeps exchanged told_apart told_backwards
goes_there = record { certificates = λ v x c at is. there_at v x at; lists = λ x l is. (λ h. absurd (no_list_apart x l h is), λ h. absurd (no_list_backwards x l h is)) }

pub goes_back : Keeps exchanged told_backwards told_apart
goes_back = record { certificates = λ v x c at is. back_at v x at; lists = λ x l is. (λ h. absurd (no_list_backwards x l h is), λ h. absurd (no_list_apart x l h is)) }
