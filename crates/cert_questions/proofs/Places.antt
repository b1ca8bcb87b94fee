-- What the code keeps of items is what the definitions say of them.
use Rattle.std.proofs.Common.{◌≡◌, ◌∙◌, ap, sym, subst, refl, ℕ, zero, suc, ◌-◌, ◌<◌, ◌≤◌, List, [], ◌∷◌, ◌++◌, length, length-append, arith, get_or, slice_get, Option, Some, None, option_map, inl, inr}
use Rattle.std.proofs.Math.ListN.{get_or-append}
use Rattle.std.proofs.lemmas.Bool.{cases_lt}
use Rattle.std.proofs.lemmas.List.{get_or-append_right}
use Rattle.std.proofs.lemmas.Option.{slice_get-get_or, slice_get-map, slice_get_past}
use Rattle.cert_graph.specs.declared.places.Part.{Part}
use Rattle.cert_graph.specs.declared.places.Part.TheVariants.{Name, Key}
use Rattle.cert_graph.specs.Places.{shown_at, text_at}
use Rattle.cert_model.specs.Class.{Class}
use Rattle.cert_judge.specs.Revoking.{Item}
use Rattle.cert_judge.proofs.Grouping.{element}
use Rattle.cert_questions.specs.declared.names.Shown.{Shown}
use Rattle.cert_questions.specs.Shown.{at_item, issuer_of, subject_of, key_of, issuer_at, subject_at, key_at}
use Rattle.cert_questions.specs.Places.{IsShownOf, AreShown, places_of}

pub shown_none : AreShown [] []
shown_none = record { count = refl; each = λ v x s lt. absurd (omega arith) }

-- one after the other
pub shown_both : (items others : List Item) (all more : List Shown) → AreShown items all → AreShown others more → AreShown (items ++ others) (all ++ more)
shown_both items others all more h k =
    let a = length-append items others in
    let b = length-append all more in
    let one = h.count in
    let two = k.count in
    record {
      count = omega arith;
      each = λ v x s lt. elim (cases_lt v (length items)) [
        | inl less ↦
            let below : v < length all = omega arith in
            subst (λ (y : Item). IsShownOf y.class (get_or (all ++ more) v s)) (sym (get_or-append items others x v less)) (subst (IsShownOf (get_or items v x).class) (sym (get_or-append all more s v below)) (h.each v x s less))
        | inr past ↦
            let left = get_or-append_right items others (length items) v x refl past in
            let right = get_or-append_right all more (length items) v s h.count past in
            subst (λ (y : Item). IsShownOf y.class (get_or (all ++ more) v s)) (sym left) (subst (IsShownOf (get_or others (v - length items) x).class) (sym right) (k.each (v - length items) x s (omega arith)))
      ];
    }

one_shown : (x : Item) (s : Shown) (v : ℕ) (y : Item) (t : Shown) → IsShownOf x.class s → v < length (x ∷ []) → IsShownOf (get_or (x ∷ []) v y).class (get_or (s ∷ []) v t)
one_shown x s zero y t new lt = new
one_shown x s (suc v) y t new lt = absurd (omega arith)

pub shown_more : (items : List Item) (all : List Shown) (x : Item) (s : Shown) → AreShown items all → IsShownOf x.class s → AreShown (items ++ x ∷ []) (all ++ s ∷ [])
shown_more items all x s h new =
    shown_both items (x ∷ []) all (s ∷ []) h (record { count = refl; each = λ v y t lt. one_shown x s v y t new lt })

-- what is kept at a place
abbrev pub kept_at : (Shown → Option (List ℕ)) → Option Shown → Option (List ℕ)
kept_at f None = None
kept_at f (Some s) = f s

kept_same : (f : Shown → Option (List ℕ)) (g : Class → Option (List ℕ)) → ((class : Class) (s : Shown) → IsShownOf class s → f s ≡ g class)
    → (items : List Item) (all : List Shown) → AreShown items all → (v : ℕ) → kept_at f (slice_get all v) ≡ at_item g (slice_get items v)
kept_same f g same items all h v =
    let count = h.count in
    elim (cases_lt v (length items)) [
      | inl less ↦
          let x = element items v less in
          let below : v < length all = omega arith in
          let s = element all v below in
          ap (kept_at f) (slice_get-get_or all v s.0 below) ∙ same (get_or items v x.0).class (get_or all v s.0) (h.each v x.0 s.0 less) ∙ sym (ap (at_item g) (slice_get-get_or items v x.0 less))
      | inr past ↦
          let behind : length all ≤ v = omega arith in
          ap (kept_at f) (slice_get_past all v behind) ∙ sym (ap (at_item g) (slice_get_past items v past))
    ]

abbrev pub issuer_in : Shown → Option (List ℕ)
issuer_in s = option_map (λ t. t.now) s.issuer

abbrev pub text_in : Part → Shown → Option (List ℕ)
text_in part s = shown_at part (Some s.holder)

pub issuer_same : (items : List Item) (all : List Shown) → AreShown items all → (v : ℕ) → kept_at issuer_in (slice_get all v) ≡ issuer_at items v
issuer_same items all h v = kept_same issuer_in issuer_of (λ class s i. i.issuer) items all h v

text_of_place : (part : Part) (o : Option Shown) → shown_at part (option_map (λ (s : Shown). s.holder) o) ≡ kept_at (text_in part) o
text_of_place part None = refl
text_of_place part (Some s) = refl

text_kept : (part : Part) (all : List Shown) (v : ℕ) → text_at part (places_of all) v ≡ kept_at (text_in part) (slice_get all v)
text_kept part all v = ap (shown_at part) (slice_get-map (λ (s : Shown). s.holder) all v) ∙ text_of_place part (slice_get all v)

pub name_same : (items : List Item) (all : List Shown) → AreShown items all → (v : ℕ) → text_at Name (places_of all) v ≡ subject_at items v
name_same items all h v = text_kept Name all v ∙ kept_same (text_in Name) subject_of (λ class s i. i.name) items all h v

pub key_same : (items : List Item) (all : List Shown) → AreShown items all → (v : ℕ) → text_at Key (places_of all) v ≡ key_at items v
key_same items all h v = text_kept Key all v ∙ kept_same (text_in Key) key_of (λ class s i. i.key) items all h v
