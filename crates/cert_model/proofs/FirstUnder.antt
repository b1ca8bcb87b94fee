-- The first extension of an identifier.
use Rattle.std.proofs.Common.{◌≡◌, ◌∙◌, ap, sym, subst, refl, ℕ, ◌+◌, ◌<◌, ◌≤◌, suc, List, [], ◌∷◌, ◌++◌, map, length, arith, get_or, take, drop, length-append, inl, inr}
use Rattle.std.specs.List.{All}
use Rattle.std.proofs.Math.Seq.{split_at, get_or-append_seam}
use Rattle.std.proofs.lemmas.Bool.{cases_lt}
use Rattle.std.proofs.lemmas.List.{get_or-map, length-map, get_or-take, length-take-le}
use Rattle.std.proofs.lemmas.List.Elements.{All-tail}
use Rattle.cert_model.specs.declared.fields.ExtField.{ExtField}
use Rattle.cert_model.specs.Fields.{Identifier, Extension}
use Rattle.cert_model.specs.View.{ext_view}
use Rattle.cert_model.specs.Extended.{IsWithout}
use Rattle.cert_model.specs.KeyIds.{IsFirstUnder}

-- none of the first k extensions has the identifier
abbrev pub NoneBefore : Identifier → List ExtField → ℕ → Type 0
NoneBefore id xs k = (j : ℕ) (e : Extension) → j < k → (get_or (map ext_view xs) j e).identifier ≡ id → ⊥

pub found_first : (id : Identifier) (xs : List ExtField) (k : ℕ) (d : ExtField) → k < length xs → (ext_view (get_or xs k d)).identifier ≡ id → NoneBefore id xs k
    → IsFirstUnder id (map ext_view xs) (ext_view (get_or xs k d)).value
unfolding IsWithout
found_first id xs k d lt under none =
    let es = map ext_view xs in
    let e = ext_view (get_or xs k d) in
    let long : length es ≡ length xs = length-map xs ext_view in
    let below : k < length es = omega arith in
    let at : get_or es k e ≡ e = get_or-map ext_view xs k d e lt in
    let count : length (take k es) ≡ k = length-take-le k es (omega arith) in
    record {
      front = take k es;
      extension = e;
      back = drop (suc k) es;
      place = subst (λ z. es ≡ take k es ++ z ∷ drop (suc k) es) at (split_at es k e below);
      under = under;
      first = λ j d' lt' is. let b : j < k = omega arith in none j d' b (ap (λ (z : Extension). z.identifier) (sym (get_or-take k es j d' b)) ∙ is);
      value_is = refl;
    }

pub none_more : (id : Identifier) (xs : List ExtField) (k : ℕ) (d : ExtField) → k < length xs → NoneBefore id xs k → ((ext_view (get_or xs k d)).identifier ≡ id → ⊥) → NoneBefore id xs (k + 1)
none_more id xs k d lt none here j e below h =
    elim (cases_lt j k) [
      | inl less ↦ none j e less h
      | inr more ↦
          let same : j ≡ k = omega arith in
          let at : get_or (map ext_view xs) k e ≡ ext_view (get_or xs k d) = get_or-map ext_view xs k d e lt in
          here (ap (λ (z : Extension). z.identifier) (sym at ∙ ap (λ z. get_or (map ext_view xs) z e) (sym same)) ∙ h)
    ]

pub none_first : (id : Identifier) (xs : List ExtField) (k : ℕ) (value : List ℕ) → length xs ≤ k → NoneBefore id xs k → IsFirstUnder id (map ext_view xs) value → ⊥
none_first id xs k value le none f =
    let es = map ext_view xs in
    let long : length es ≡ length xs = length-map xs ext_view in
    let size : length es ≡ length f.front + length (f.extension ∷ f.back) = ap length f.place ∙ length-append f.front (f.extension ∷ f.back) in
    let below : length f.front < k = omega arith in
    let at : get_or es (length f.front) f.extension ≡ f.extension = ap (λ z. get_or z (length f.front) f.extension) f.place ∙ get_or-append_seam f.front f.extension f.back f.extension in
    none (length f.front) f.extension below (ap (λ (z : Extension). z.identifier) at ∙ f.under)

tail : {X : Type 0} → List X → List X
tail [] = []
tail (x ∷ xs) = xs

one_first : (id : Identifier) (front : List Extension) (e : Extension) (back front' : List Extension) (e' : Extension) (back' : List Extension) → front ++ e ∷ back ≡ front' ++ e' ∷ back'
    → e.identifier ≡ id → e'.identifier ≡ id → All (λ (z : Extension). z.identifier ≡ id → ⊥) front → All (λ (z : Extension). z.identifier ≡ id → ⊥) front' → e ≡ e'
unfolding tail
one_first id [] e back [] e' back' same under under' first first' = ap (λ (l : List Extension). get_or l 0 e) same
one_first id [] e back (x ∷ front') e' back' same under under' first first' =
    absurd (first' 0 x (omega arith) (ap (λ (l : List Extension). (get_or l 0 e).identifier) (sym same) ∙ under))
one_first id (x ∷ front) e back [] e' back' same under under' first first' =
    absurd (first 0 x (omega arith) (ap (λ (l : List Extension). (get_or l 0 e).identifier) same ∙ under'))
one_first id (x ∷ front) e back (y ∷ front') e' back' same under under' first first' =
    one_first id front e back front' e' back' (ap tail same) under under' (All-tail (λ (z : Extension). z.identifier ≡ id → ⊥) x front first) (All-tail (λ (z : Extension). z.identifier ≡ id → ⊥) y front' first')

-- there is one first value under an identifier
pub one_value : (id : Identifier) (es : List Extension) (v w : List ℕ) → IsFirstUnder id es v → IsFirstUnder id es w → v ≡ w
unfolding IsWithout
one_value id es v w f g =
    sym f.value_is ∙ ap (λ (e : Extension). e.value) (one_first id f.front f.extension f.back g.front g.extension g.back (sym f.place ∙ g.place) f.under g.under f.first g.first) ∙ g.value_is
