-- The definitions at worked cases: lists, and a path.
use Rattle.std.proofs.Common.{◌≡◌, ◌∙◌, ap, sym, subst, refl, zero, suc, ℕ, ◌<◌, true, false, List, [], ◌∷◌, length, length-append, arith, get_or, inl, inr, lit<, ◌⊎◌}
use Rattle.std.specs.List.{Any, Contains}
use Rattle.cert_graph.specs.Graph.{IsValidPath}
use Rattle.cert_graph.proofs.PathLaws.{valid_from}
use Rattle.cert_model.specs.Fields.{Number, Entry, Extension, Certificate, RevocationList}
use Rattle.cert_model.specs.Octets.{name_octets, key_octets, list_octets}
use Rattle.cert_model.specs.Class.{Class, certificate, list, other}
use Rattle.cert_model.specs.Examples.{key, new_year, plain, issued_by_b, authority_b, revoking}
use Rattle.cert_judge.specs.Revoking.{Item, AreUncritical, IsCurrent, IsPlain, IsSatisfied}
use Rattle.cert_judge.specs.Judging.{IsUsable}
use Rattle.cert_judge.specs.Further.{no_identifier}
use Rattle.cert_judge.specs.ItemGraph.{KeyIdsAgree, graph_of_items}
use Rattle.cert_judge.specs.Examples.{in_june, revoking_two, anchor_named, certificate_item, list_item, vouching_for_all, vouching_but_for}
use Rattle.cert_judge.proofs.Linking.{fit_is_usable}
use Rattle.cert_judge.proofs.Examples.{none, one, june_valid, no_extensions, authority_is_fit}

-- which of two items it is
pub pick : (x a b : Item) → Contains (a ∷ b ∷ []) x → (x ≡ a) ⊎ (x ≡ b)
pick x a b (zero, lt, is) = inl (sym is)
pick x a b (suc zero, lt, is) = inr (sym is)
pick x a b (suc (suc k), lt, is) = absurd (omega (arith, lt))

pub no_list : (x : Item) (c : Certificate) (l : RevocationList) → x ≡ certificate_item c → x.class ≡ list l → ⊥
no_list x c l is told = let e = sym (ap (λ (i : Item). i.class) is) ∙ told in cc

abbrev list_in : RevocationList → Class → RevocationList
list_in l (certificate c) = l
list_in l (list m) = m
list_in l other = l

current : IsCurrent in_june revoking
current = record { next = new_year 2026; told = refl; between = june_valid }

current_two : IsCurrent in_june revoking_two
current_two = record { next = new_year 2026; told = refl; between = june_valid }

plain_list : IsPlain revoking
plain_list = record { extensions = none (λ e. e.critical ≡ false); entries = one (λ (n : Entry). AreUncritical n.extensions) (record { serial = 1 ∷ []; date = new_year 2025; extensions = [] }) (none (λ e. e.critical ≡ false)) }

plain_two : IsPlain revoking_two
plain_two = record { extensions = none (λ e. e.critical ≡ false); entries = one (λ (n : Entry). AreUncritical n.extensions) (record { serial = 2 ∷ []; date = new_year 2025; extensions = [] }) (none (λ e. e.critical ≡ false)) }

pub revoked_by_list : IsSatisfied (vouching_for_all false) (certificate_item plain ∷ list_item revoking ∷ []) (name_octets []) (key_octets key) (1 ∷ []) → ⊥
revoked_by_list h =
    let entry : Entry = record { serial = 1 ∷ []; date = new_year 2025; extensions = [] } in
    h.kept (list_item revoking, revoking, (1, lit< tt, refl), record { is_list = refl; issuer = refl; vouched = tt; current = current; plain = plain_list }, (0, entry, lit< tt, refl, refl))

pub unvouched_list : IsSatisfied (vouching_but_for (list_octets revoking)) (certificate_item plain ∷ list_item revoking ∷ []) (name_octets []) (key_octets key) (1 ∷ [])
unvouched_list = record {
  kept = λ r. elim (pick r.0 (certificate_item plain) (list_item revoking) r.2) [
    | inl is ↦ no_list r.0 plain r.1 is r.3.is_list
    | inr is ↦ r.3.vouched (ap (λ (i : Item). i.octets) is)
  ];
  listed = λ d. absurd cc;
}

alone : (x : Item) (l : RevocationList) → Contains (certificate_item plain ∷ []) x → x.class ≡ list l → ⊥
alone x l (zero, lt, is) told = no_list x plain l (sym is) told
alone x l (suc k, lt, is) told = absurd (omega (arith, lt))

pub no_list_demanded : IsSatisfied (vouching_for_all true) (certificate_item plain ∷ []) (name_octets []) (key_octets key) (1 ∷ []) → ⊥
no_list_demanded h =
    let u = h.listed refl in
    alone u.0 u.1 u.2 u.3.is_list

of_two : (k : ℕ) (n : Entry) → k < 1 → get_or revoking_two.entries k n ≡ n → n.serial ≡ 1 ∷ [] → ⊥
of_two zero n lt is told = let e = ap (λ (m : Entry). get_or m.serial 0 0) is ∙ ap (λ (s : List ℕ). get_or s 0 0) told in omega arith
of_two (suc k) n lt is told = absurd (omega arith)

not_entry : (l : RevocationList) → l ≡ revoking_two → Any (λ (n : Entry). n.serial ≡ 1 ∷ []) l.entries → ⊥
not_entry l is h =
    let g : Any (λ (n : Entry). n.serial ≡ 1 ∷ []) revoking_two.entries = subst (λ (m : RevocationList). Any (λ (n : Entry). n.serial ≡ 1 ∷ []) m.entries) is h in
    of_two g.0 g.1 g.2 g.3 g.4

pub another_revoked : IsSatisfied (vouching_for_all true) (certificate_item plain ∷ list_item revoking_two ∷ []) (name_octets []) (key_octets key) (1 ∷ [])
another_revoked = record {
  kept = λ r. elim (pick r.0 (certificate_item plain) (list_item revoking_two) r.2) [
    | inl is ↦ no_list r.0 plain r.1 is r.3.is_list
    | inr is ↦ not_entry r.1 (ap (list_in r.1) (sym r.3.is_list ∙ ap (λ (i : Item). i.class) is)) r.4
  ];
  listed = λ d. (list_item revoking_two, revoking_two, (1, lit< tt, refl), record { is_list = refl; issuer = refl; vouched = tt; current = current_two; plain = plain_two });
}

abbrev bundle : List Item
bundle = certificate_item issued_by_b ∷ certificate_item authority_b ∷ []

no_lists : (name key : List ℕ) (serial : Number) → IsSatisfied (vouching_for_all false) bundle name key serial
no_lists name key serial = record {
  kept = λ r. elim (pick r.0 (certificate_item issued_by_b) (certificate_item authority_b) r.2) [
    | inl is ↦ no_list r.0 issued_by_b r.1 is r.3.is_list
    | inr is ↦ no_list r.0 authority_b r.1 is r.3.is_list
  ];
  listed = λ d. absurd cc;
}

pub names_no_key : KeyIdsAgree issued_by_b authority_b
names_no_key = λ a s names own.
    let long = ap (λ (es : List Extension). length es) names.stands.place ∙ length-append names.stands.front (names.stands.extension ∷ names.stands.back) in
    absurd (omega arith)

pub target_usable : IsUsable no_identifier in_june issued_by_b
target_usable = record { valid = june_valid; extensions = no_extensions }

pub path_of_two : IsValidPath (graph_of_items (vouching_for_all false) bundle (certificate_item (anchor_named 0x63) ∷ [])) 0 (0 ∷ 1 ∷ []) 0
path_of_two =
    let r = vouching_for_all false in
    let anchors = certificate_item (anchor_named 0x63) ∷ [] in
    valid_from (graph_of_items r bundle anchors) (fit_is_usable r bundle anchors) 0 (1 ∷ []) 0 (
      (lit< tt, λ d. (issued_by_b, refl, target_usable)),
      (lit< tt, λ d. (lit< tt, λ e. (issued_by_b, refl, (authority_b, refl, (record { issuer = refl; vouched = tt; satisfied = no_lists _ _ _ }, names_no_key))))),
      (
        (lit< tt, λ d. (authority_b, refl, authority_is_fit)),
        omega arith,
        (lit< tt, λ d. (lit< tt, λ e. (authority_b, refl, (anchor_named 0x63, refl, record { issuer = refl; vouched = tt; satisfied = no_lists _ _ _ })))),
      ),
    )
