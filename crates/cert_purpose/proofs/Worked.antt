-- The premises of laws, and what the definitions say, at worked cases.
use Rattle.std.proofs.Common.{◌≡◌, ◌∙◌, ap, sym, subst, refl, zero, suc, ℕ, ◌<◌, List, [], ◌∷◌, get_or, false, arith, inl, inr, lit<}
use Rattle.std.specs.Prelude.{IsTrue, ◌↔◌}
use Rattle.std.specs.List.{Contains}
use Rattle.cert_graph.specs.Graph.{IsValidPath}
use Rattle.cert_model.specs.Fields.{Certificate, RevocationList}
use Rattle.cert_model.specs.Class.{list}
use Rattle.cert_model.specs.Examples.{issued_by_b, authority_b}
use Rattle.cert_judge.specs.Items.{rules_at}
use Rattle.cert_judge.specs.Revoking.{Item}
use Rattle.cert_judge.specs.Vouching.{Vouching, nothing, vouching_alone, processing_too}
use Rattle.cert_judge.specs.ItemGraph.{graph_of_items}
use Rattle.cert_judge.specs.LawsOfItems.{rules_from}
use Rattle.cert_judge.specs.Examples.{in_june, anchor_named, certificate_item, numbered, told_apart, vouching_for_both}
use Rattle.cert_judge.proofs.ExampleLists.{pick}
use Rattle.cert_judge.proofs.ExampleLaws.{path_by_both}
use Rattle.cert_purpose.specs.Purposes.{extended_key_usage, Allows}
use Rattle.cert_purpose.specs.Found.{AreMore}
use Rattle.cert_purpose.specs.Restricting.{restricted_by, VouchAlike, PermitsThose, IsCertificateSuch}
use Rattle.cert_purpose.specs.Examples.{server_auth, for_servers, usage, vouching_beyond}
use Rattle.cert_purpose.proofs.Alike.{restricted_paths, alike_valid}
use Rattle.cert_purpose.proofs.Ones.{without_none, more_not_none, more_not_one}

no_list_numbered : (octet : ℕ) (x : Item) (c : Certificate) (l : RevocationList) → x ≡ numbered octet c → x.class ≡ list l → ⊥
no_list_numbered octet x c l is told = let e = sym (ap (λ (i : Item). i.class) is) ∙ told in cc

no_list_apart : (x : Item) (l : RevocationList) → Contains told_apart x → x.class ≡ list l → ⊥
no_list_apart x l at told = elim (pick x (numbered 1 issued_by_b) (numbered 2 authority_b) at) [
  | inl is ↦ no_list_numbered 1 x issued_by_b l is told
  | inr is ↦ no_list_numbered 2 x authority_b l is told
]

pub alike_apart : VouchAlike (rules_from in_june false (vouching_for_both 1 2)) (rules_from in_june false vouching_beyond) told_apart
alike_apart = record {
  moment = refl;
  demand = refl;
  certificates = λ x c key at is. elim (pick x (numbered 1 issued_by_b) (numbered 2 authority_b) at) [
    | inl e ↦ subst (λ (i : Item). IsTrue (vouching_for_both 1 2 key i.octets) ↔ IsTrue (vouching_beyond key i.octets)) (sym e) (λ h. refl, λ h. refl)
    | inr e ↦ subst (λ (i : Item). IsTrue (vouching_for_both 1 2 key i.octets) ↔ IsTrue (vouching_beyond key i.octets)) (sym e) (λ h. refl, λ h. refl)
  ];
  lists = λ x l key at is. absurd (no_list_apart x l at is);
  processed = λ x c id at is. (λ p. p, λ p. p);
}

pub not_before : (key : List ℕ) → IsTrue (vouching_for_both 1 2 key (9 ∷ [])) → ⊥
not_before key h = cc

pub vouched_beyond : (key : List ℕ) → IsTrue (vouching_beyond key (9 ∷ []))
vouched_beyond key = refl

-- all items but those of one octet
abbrev AllBut : ℕ → List ℕ → Type 0
AllBut octet item = item ≡ octet ∷ [] → ⊥

all_but : (octet : ℕ) → PermitsThose (AllBut octet) (λ x c. AllBut octet x.octets) told_apart
all_but octet = record { certificates = λ x c at is. (λ h. h, λ h. h); lists = λ x l at is. absurd (no_list_apart x l at is) }

such : (k d : ℕ) → k < 2 → IsCertificateSuch (λ x c. AllBut 9 x.octets) told_apart (get_or (0 ∷ 1 ∷ []) k d)
such zero d lt = (lit< tt, λ e. (issued_by_b, refl, λ z. cc))
such (suc zero) d lt = (lit< tt, λ e. (authority_b, refl, λ z. cc))
such (suc (suc k)) d lt = absurd (omega (arith, lt))

abbrev by_both : Vouching
by_both = vouching_alone (λ key item. IsTrue (vouching_for_both 1 2 key item))

-- whoever processes nothing too processes nothing
still_nothing : VouchAlike (rules_from in_june false (vouching_for_both 1 2)) (rules_at in_june false (processing_too nothing by_both)) told_apart
still_nothing = record {
  moment = refl;
  demand = refl;
  certificates = λ x c key at is. (λ v. v, λ v. v);
  lists = λ x l key at is. (λ v. v, λ v. v);
  processed = λ x c id at is. (λ p. absurd p, λ p. elim p [ inl q ↦ q | inr q ↦ q ]);
}

pub path_stays : IsValidPath (graph_of_items (rules_at in_june false (restricted_by (λ item. item ≡ 9 ∷ [] → ⊥) nothing by_both)) told_apart (certificate_item (anchor_named 0x63) ∷ [])) 0 (0 ∷ 1 ∷ []) 0
path_stays = (restricted_paths in_june false by_both (AllBut 9) nothing (λ x c. AllBut 9 x.octets) told_apart (all_but 9) (certificate_item (anchor_named 0x63) ∷ []) 0 (0 ∷ 1 ∷ []) 0).1 (alike_valid _ _ told_apart (certificate_item (anchor_named 0x63) ∷ []) still_nothing 0 (0 ∷ 1 ∷ []) 0 path_by_both, such)

pub path_goes : IsValidPath (graph_of_items (rules_at in_june false (restricted_by (λ item. item ≡ 2 ∷ [] → ⊥) nothing by_both)) told_apart (certificate_item (anchor_named 0x63) ∷ [])) 0 (0 ∷ 1 ∷ []) 0 → ⊥
path_goes v =
    let h = (restricted_paths in_june false by_both (AllBut 2) nothing (λ x c. AllBut 2 x.octets) told_apart (all_but 2) (certificate_item (anchor_named 0x63) ∷ []) 0 (0 ∷ 1 ∷ []) 0).0 v in
    let s = h.1 1 0 (lit< tt) in
    let c = s.1 (numbered 2 authority_b) in
    c.2 refl

-- ---- purposes

pub without_allows : Allows server_auth []
without_allows = inl (without_none extended_key_usage)

two_usages : AreMore extended_key_usage (usage for_servers ∷ usage for_servers ∷ [])
two_usages = record { front = []; first = usage for_servers; middle = []; second = usage for_servers; back = []; place = refl; is_first = refl; is_second = refl }

pub two_allow_none : Allows server_auth (usage for_servers ∷ usage for_servers ∷ []) → ⊥
two_allow_none h = elim h [
  | inl w ↦ more_not_none extended_key_usage (usage for_servers ∷ usage for_servers ∷ []) two_usages w
  | inr w ↦ more_not_one extended_key_usage (usage for_servers ∷ usage for_servers ∷ []) w.0 two_usages w.1
]
