-- One item more with its class, judged.
use Rattle.std.proofs.Common.{◌≡◌, ◌∙◌, ap, sym, subst, refl, ℕ, ◌+◌, ◌<◌, List, [], ◌∷◌, ◌++◌, take, length, length-append, arith, get_or, Some, inl, inr}
use Rattle.std.specs.Prelude.{slice_get}
use Rattle.std.specs.List.{All}
use Rattle.std.proofs.Math.ListN.{get_or-append}
use Rattle.std.proofs.Math.Seq.{get_or-append_seam}
use Rattle.std.proofs.lemmas.Bool.{cases_lt}
use Rattle.std.proofs.lemmas.List.{take_more, map-append}
use Rattle.std.proofs.lemmas.List.Elements.{All-cons, All-append}
use Rattle.std.proofs.lemmas.Option.{get_or_from_slice_get}
use Rattle.cert_model.specs.Fields.{CivilTime}
use Rattle.cert_model.specs.Class.{IsClassOf}
use Rattle.cert_judge.specs.declared.judged.JudgedItem.{JudgedItem}
use Rattle.cert_judge.specs.Revoking.{Item}
use Rattle.cert_judge.specs.Classed.{AreClassed}
use Rattle.cert_judge.specs.JudgedItems.{IsJudged, AreJudged}

abbrev octets_of : Item → List ℕ
octets_of x = x.octets

abbrev IsClassed : Item → Type 0
IsClassed x = IsClassOf x.octets x.class

none : {X : Type 0} (P : X → Type 0) → All P []
none P = λ k d lt. absurd (omega arith)

pub classed_none : AreClassed [] []
classed_none = record { octets_are = refl; classes = none IsClassed }

pub classed_more : (os : List (List ℕ)) (items : List Item) (p : ℕ) (octets : List ℕ) (x : Item) → p < length os → slice_get os p ≡ Some octets → AreClassed (take p os) items
    → x.octets ≡ octets → IsClassOf octets x.class → AreClassed (take (p + 1) os) (items ++ x ∷ [])
classed_more os items p octets x lt at before same class =
    let here : get_or os p octets ≡ octets = get_or_from_slice_get os p octets octets at in
    let front : take (p + 1) os ≡ take p os ++ octets ∷ [] = take_more os p octets lt ∙ ap (λ z. take p os ++ z ∷ []) here in
    subst (λ z. AreClassed z (items ++ x ∷ [])) (sym front) (record {
      octets_are = map-append octets_of items (x ∷ []) ∙ ap (λ z. z ++ octets_of x ∷ []) before.octets_are ∙ ap (λ z. take p os ++ z ∷ []) same;
      classes = All-append IsClassed items (x ∷ []) before.classes (All-cons IsClassed x [] (subst (λ z. IsClassOf z x.class) (sym same) class) (none IsClassed));
    })

pub judged_none : (moment : CivilTime) → AreJudged moment [] []
judged_none moment = record { count = refl; each = λ v x j lt. absurd (omega arith) }

pub judged_more : (moment : CivilTime) (items : List Item) (js : List JudgedItem) (x : Item) (j : JudgedItem) → AreJudged moment items js → IsJudged moment x j → AreJudged moment (items ++ x ∷ []) (js ++ j ∷ [])
judged_more moment items js x j h new =
    let a = length-append items (x ∷ []) in
    let b = length-append js (j ∷ []) in
    let count = h.count in
    record {
      count = omega arith;
      each = λ v y k lt. elim (cases_lt v (length items)) [
        | inl less ↦
            let below : v < length js = omega arith in
            subst (λ z. IsJudged moment z (get_or (js ++ j ∷ []) v k)) (sym (get_or-append items (x ∷ []) y v less)) (subst (IsJudged moment (get_or items v y)) (sym (get_or-append js (j ∷ []) k v below)) (h.each v y k less))
        | inr past ↦
            let first : v ≡ length items = omega arith in
            let second : v ≡ length js = omega arith in
            subst (λ z. IsJudged moment z (get_or (js ++ j ∷ []) v k)) (sym (ap (λ i. get_or (items ++ x ∷ []) i y) first ∙ get_or-append_seam items x [] y))
            (subst (IsJudged moment x) (sym (ap (λ i. get_or (js ++ j ∷ []) i k) second ∙ get_or-append_seam js j [] k)) new)
      ];
    }
