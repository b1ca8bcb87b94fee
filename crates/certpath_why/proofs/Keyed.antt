-- The keys of a name, and whether one of them vouches for an item.
use Rattle.std.specs.Prelude.{◌↔◌, ◌⊎◌}
use Rattle.std.proofs.Common.{◌≡◌, ◌∙◌, ap, sym, subst, refl, ℕ, zero, suc, cond, List, [], ◌∷◌, ◌++◌, arith, Some, inl, inr}
use Rattle.std.specs.List.{Contains, Any}
use Rattle.std.proofs.lemmas.Bool.{cases_Bool, cond-true, cond-false, false≢true}
use Rattle.std.proofs.lemmas.List.Elements.{Contains-append_left, Contains-append_right, Contains-append_cases, Contains-push, Contains-push_cases}
use Rattle.cert_graph.specs.Entries.{IsAt}
use Rattle.cert_graph.proofs.Gathering.{E, same}
use Rattle.cert_model.specs.Class.{Class, certificate, list, other}
use Rattle.cert_model.specs.Fields.{Certificate}
use Rattle.cert_model.specs.Octets.{name_octets, key_octets}
use Rattle.cert_judge.specs.ItemGraph.{IsCertificateWith}
use Rattle.cert_judge.specs.Revoking.{Item}
use Rattle.cert_judge.proofs.Grouping.{one_certificate}
use Rattle.certpath_why.specs.Signers.{IsSignedBy, issuer_name}
use Rattle.certpath_why.specs.Why.{HasKeyHere, AreKeysOf}
use Rattle.certpath_why.proofs.Grouped.{cert_here, cert_iff}
use Rattle.certpath_why.proofs.Items.{held, no_list, no_other}

-- a list that isn't empty has an element
pub some_there : (xs : List ℕ) → (xs ≡ [] → ⊥) → (w : ℕ) × Contains xs w
some_there [] n = absurd (n refl)
some_there (x ∷ xs) n = (x, Contains-append_left (x ∷ []) xs x (Contains-push [] x))

pub none_there : (xs : List ℕ) (w : ℕ) → xs ≡ [] → Contains xs w → ⊥
none_there xs w e c = let n = subst (λ l. Contains l w) e c in omega (arith, n.1)

-- ---- the keys of a name

-- of an item with this name
abbrev own_key : Class → List ℕ → List (List ℕ)
own_key (certificate d) name = cond (E (name_octets d.subject) name) (key_octets d.key ∷ []) []
own_key (list l) name = []
own_key other name = []

abbrev pub keys_in : List Item → List ℕ → List (List ℕ)
keys_in [] name = []
keys_in (x ∷ xs) name = own_key x.class name ++ keys_in xs name

abbrev Has : List ℕ → List ℕ → Item → Type 0
Has name key x = IsCertificateWith (λ d. (name_octets d.subject ≡ name) × (key_octets d.key ≡ key)) x

none_in : {P : Type 0} (key : List ℕ) → Contains [] key → P
none_in key c = absurd (omega (arith, c.1))

own_iff : (k : Class) (octets name key : List ℕ) → Contains (own_key k name) key ↔ Has name key (record { octets = octets; class = k })
own_iff (certificate d) octets name key = elim (cases_Bool (E (name_octets d.subject) name)) [
  | inl is ↦
      let here = cond-true _ (key_octets d.key ∷ []) [] is in (
        λ c. (d, refl, ((same (name_octets d.subject) name).0 is, elim (Contains-push_cases [] (key_octets d.key) key (subst (λ l. Contains l key) here c)) [ inl n ↦ none_in key n | inr e ↦ e ])),
        λ h. subst (λ l. Contains l key) (sym here) (subst (Contains (key_octets d.key ∷ [])) (ap (λ (c : Certificate). key_octets c.key) (one_certificate (certificate d) d h.0 refl h.1) ∙ h.2.1) (Contains-push [] (key_octets d.key))),
      )
  | inr un ↦
      let here = cond-false _ (key_octets d.key ∷ []) [] un in (
        λ c. none_in key (subst (λ l. Contains l key) here c),
        λ h. absurd (false≢true (sym un ∙ (same (name_octets d.subject) name).1 (ap (λ (c : Certificate). name_octets c.subject) (one_certificate (certificate d) d h.0 refl h.1) ∙ h.2.0))),
      )
]
own_iff (list l) octets name key = (λ c. none_in key c, λ h. absurd (no_list h.1))
own_iff other octets name key = (λ c. none_in key c, λ h. absurd (no_other h.1))

keys_back : (x : Item) (xs : List Item) (name key : List ℕ) (w : ℕ) → IsAt (x ∷ xs) w (Has name key) → (HasKeyHere xs name key → Contains (keys_in xs name) key) → Contains (own_key x.class name ++ keys_in xs name) key
keys_back x xs name key zero at rest = Contains-append_left (own_key x.class name) (keys_in xs name) key ((own_iff x.class x.octets name key).1 (at.1 x))
keys_back x xs name key (suc w) at rest = Contains-append_right (own_key x.class name) (keys_in xs name) key (rest (w, (let lt = at.0 in omega arith, λ d. at.1 d)))

keys_iff : (items : List Item) (name key : List ℕ) → Contains (keys_in items name) key ↔ HasKeyHere items name key
keys_iff [] name key = (λ c. none_in key c, λ h. absurd (omega (arith, h.1.0)))
keys_iff (x ∷ xs) name key = (
  λ c. elim (Contains-append_cases (own_key x.class name) (keys_in xs name) key c) [
    | inl a ↦ (zero, (omega arith, λ d. (own_iff x.class x.octets name key).0 a))
    | inr b ↦ let r = (keys_iff xs name key).0 b in let lt = r.1.0 in (suc r.0, (omega arith, λ d. r.1.1 d))
  ],
  λ h. keys_back x xs name key h.0 h.1 (keys_iff xs name key).1,
)

abbrev pub keys_of : List Item → List Item → List ℕ → List (List ℕ)
keys_of items anchors name = keys_in items name ++ keys_in anchors name

pub keys_all : (items anchors : List Item) (name : List ℕ) → AreKeysOf items anchors name (keys_of items anchors name)
keys_all items anchors name key = (
  λ c. elim (Contains-append_cases (keys_in items name) (keys_in anchors name) key c) [ inl a ↦ inl ((keys_iff items name key).0 a) | inr b ↦ inr ((keys_iff anchors name key).0 b) ],
  λ s. elim s [
    | inl a ↦ Contains-append_left (keys_in items name) (keys_in anchors name) key ((keys_iff items name key).1 a)
    | inr b ↦ Contains-append_right (keys_in items name) (keys_in anchors name) key ((keys_iff anchors name key).1 b)
  ],
)

-- ---- whether one of them vouches

module _ (V : List ℕ → List ℕ → Type 0) (x : Item) (name : List ℕ) (is : issuer_name x.class ≡ Some name) where
  to_key : (others : List Item) (w : ℕ) → IsSignedBy V others x w → (key : List ℕ) × HasKeyHere others name key × V key x.octets
  to_key others w s =
      let z = cert_here others w (λ d. (issuer_name x.class ≡ Some (name_octets d.subject)) × V (key_octets d.key) x.octets) s in
      let key = key_octets z.1.key in
      let named : name_octets z.1.subject ≡ name = held (sym z.5.0 ∙ is) in
      (key, (w, (cert_iff others w z.0 z.1 z.2 z.3 z.4 (λ d. (name_octets d.subject ≡ name) × (key_octets d.key ≡ key))).0 (named, refl)), z.5.1)

  from_key : (others : List Item) (key : List ℕ) → HasKeyHere others name key → V key x.octets → (w : ℕ) × IsSignedBy V others x w
  from_key others key h v =
      let z = cert_here others h.0 (λ d. (name_octets d.subject ≡ name) × (key_octets d.key ≡ key)) h.1 in
      (h.0, (cert_iff others h.0 z.0 z.1 z.2 z.3 z.4 (λ d. (issuer_name x.class ≡ Some (name_octets d.subject)) × V (key_octets d.key) x.octets)).0 (is ∙ ap Some (sym z.5.0), subst (λ k. V k x.octets) (sym z.5.1) v))

  any_of : (keys : List (List ℕ)) (key : List ℕ) → Contains keys key → V key x.octets → Any (λ k. V k x.octets) keys
  any_of keys key c v = (c.0, key, c.1, c.2, v)

  pub signed_any : (items anchors : List Item) (keys : List (List ℕ)) → AreKeysOf items anchors name keys → ((w : ℕ) × (IsSignedBy V items x w ⊎ IsSignedBy V anchors x w)) ↔ Any (λ key. V key x.octets) keys
  signed_any items anchors keys are = (
    λ h. elim h.1 [
      | inl a ↦ let t = to_key items h.0 a in any_of keys t.0 ((are t.0).1 (inl t.1)) t.2
      | inr b ↦ let t = to_key anchors h.0 b in any_of keys t.0 ((are t.0).1 (inr t.1)) t.2
    ],
    λ a. elim ((are a.1).0 (a.0, a.2, a.3)) [
      | inl k ↦ let s = from_key items a.1 k a.4 in (s.0, inl s.1)
      | inr k ↦ let s = from_key anchors a.1 k a.4 in (s.0, inr s.1)
    ],
  )

-- whether one of two lists has a position, by what the lists are of
pub either_iff : (P Q A B : ℕ → Type 0) → ((w : ℕ) → P w ↔ A w) → ((w : ℕ) → Q w ↔ B w) → ((w : ℕ) × (P w ⊎ Q w)) ↔ ((w : ℕ) × (A w ⊎ B w))
either_iff P Q A B f g = (
  λ h. (h.0, elim h.1 [ inl p ↦ inl ((f h.0).0 p) | inr q ↦ inr ((g h.0).0 q) ]),
  λ h. (h.0, elim h.1 [ inl a ↦ inl ((f h.0).1 a) | inr b ↦ inr ((g h.0).1 b) ]),
)
