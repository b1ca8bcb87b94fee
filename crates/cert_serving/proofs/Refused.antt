-- Refused items, one after the other.
use Rattle.std.specs.Borrow.{Bor}
use Rattle.std.specs.Prelude.{◌↔◌, ◌⊎◌, IsTrue, slice_get}
use Rattle.std.proofs.Common.{◌≡◌, ◌∙◌, sym, subst, refl, ap, ℕ, ◌+◌, ◌<◌, Bool, true, false, cond, List, [], ◌∷◌, ◌++◌, length, take, arith, get_or, inl, inr, Some}
use Rattle.std.specs.List.{Contains, list_any}
use Rattle.std.proofs.lemmas.Bool.{false≢true}
use Rattle.std.proofs.lemmas.List.{take_more}
use Rattle.std.proofs.lemmas.List.Elements.{Contains-append_left, Contains-push, Contains-push_cases}
use Rattle.std.proofs.lemmas.Option.{get_or_from_slice_get}
use Rattle.std.specs.BTreeSet.{BTreeSet, IsEmpty, contains_by}
use Rattle.std.specs.BTreeMap.{is_at as is_key}
use Rattle.std.specs.Ordering.{nat_cmp}
use Rattle.std.specs.Cmp.Lexicographic.{slice_cmp}
use Rattle.cert_judge.proofs.Sets.{E, same}
use Rattle.cert_judge.proofs.StandingFacts.{set_cases, set_left, set_right}
use Rattle.cert_serving.specs.Demanding.{Demanded, IsPermitted, PermitsOf}
use Rattle.cert_serving.specs.Refusing.{IsIn, HasRefused}

-- whether octets are in a set, and a key of these octets
abbrev pub is_in : BTreeSet (Bor (List ℕ)) → List ℕ → Bool
is_in set octets = contains_by (λ k. slice_cmp nat_cmp octets k.now) set

abbrev pub lent : List ℕ → Bor (List ℕ)
lent octets = record { ref_ptr = (0, 0); now = octets }

none_listed : (x : List ℕ) → Contains {X = List ℕ} [] x → ⊥
none_listed x h = omega (arith, h.1)

pub none_refused : (d : Demanded) (set : BTreeSet (Bor (List ℕ))) → IsEmpty set → HasRefused d [] set
none_refused d set e = record {
  refused = λ octets i. absurd (false≢true (subst (λ ks. list_any (is_key (λ (k : Bor (List ℕ)). slice_cmp nat_cmp octets k.now)) ks ≡ true) e i));
  others = λ octets h. absurd (none_listed octets h);
}

-- an item more, which is permitted
pub more_permitted : (d : Demanded) (front : List (List ℕ)) (item : List ℕ) (set : BTreeSet (Bor (List ℕ))) → IsPermitted d item → HasRefused d front set → HasRefused d (front ++ item ∷ []) set
more_permitted d front item set p h = record {
  refused = λ octets i. let r = h.refused octets i in (Contains-append_left front (item ∷ []) octets r.0, r.1);
  others = λ octets at. elim (Contains-push_cases front item octets at) [ inl before ↦ h.others octets before | inr e ↦ inl (subst (IsPermitted d) e p) ];
}

-- an item more, which is refused
pub more_refused : (d : Demanded) (front : List (List ℕ)) (item : List ℕ) (set new : BTreeSet (Bor (List ℕ))) → ¬ IsPermitted d item
    → ((octets : List ℕ) → ((IsIn new octets) ↔ (IsIn set octets ⊎ (item ≡ octets)))) → HasRefused d front set → HasRefused d (front ++ item ∷ []) new
more_refused d front item set new n u h = record {
  refused = λ octets i. elim ((u octets).0 i) [
    | inl old ↦ let r = h.refused octets old in (Contains-append_left front (item ∷ []) octets r.0, r.1)
    | inr e ↦ (subst (Contains (front ++ item ∷ [])) e (Contains-push front item), λ p. n (subst (IsPermitted d) (sym e) p))
  ];
  others = λ octets at. elim (Contains-push_cases front item octets at) [
    | inl before ↦ elim (h.others octets before) [ inl p ↦ inl p | inr i ↦ inr ((u octets).1 (inl i)) ]
    | inr e ↦ inr ((u octets).1 (inr e))
  ];
}

-- an insertion, as the set says it
pub inserted : (item octets : List ℕ) (was is : Bool) → is ≡ cond (E item octets) true was → IsTrue is ↔ (IsTrue was ⊎ (item ≡ octets))
inserted item octets was is update =
    let d = same item octets in (
      λ i. elim (set_cases (E item octets) was (sym update ∙ i)) [ inl new ↦ inr (d.0 new) | inr old ↦ inl old ],
      λ y. update ∙ elim y [ inl old ↦ set_right (E item octets) was old | inr e ↦ set_left (E item octets) was (d.1 e) ],
    )

-- one item more of a list
pub one_more : (items : List (List ℕ)) (k : ℕ) (item : List ℕ) → k < length items → slice_get items k ≡ Some item → take (k + 1) items ≡ take k items ++ item ∷ []
one_more items k item lt at =
    let here : get_or items k item ≡ item = get_or_from_slice_get items k item item at in
    take_more items k item lt ∙ ap (λ z. take k items ++ z ∷ []) here

-- exactly those of the items are permitted
pub permits_of : (d : Demanded) (items : List (List ℕ)) (set : BTreeSet (Bor (List ℕ))) → HasRefused d items set → PermitsOf d items (λ octets. IsIn set octets → ⊥)
permits_of d items set h octets = (
  λ free at. elim (h.others octets at) [ inl p ↦ p | inr i ↦ absurd (free i) ],
  λ p i. let r = h.refused octets i in r.1 (p r.0),
)
