-- How many extensions have an identifier.
use Rattle.std.proofs.Common.{◌≡◌, ◌≢◌, ◌∙◌, ap, sym, subst, refl, ℕ, ◌+◌, ◌<◌, suc, List, [], ◌∷◌, ◌++◌, map, length, length-append, append_assoc, arith, take, get_or, false}
use Rattle.std.proofs.lemmas.List.{map-append}
use Rattle.std.proofs.lemmas.List.Elements.{All-push, All-nil, All-tail}
use Rattle.std.proofs.Math.Seq.{take-suc, get_or-append_seam}
use Rattle.cert_model.proofs.FirstUnder.{one_value}
use Rattle.cert_model.specs.Fields.{Identifier, Extension}
use Rattle.cert_model.specs.Extended.{IsWithout}
use Rattle.cert_model.specs.KeyIds.{IsFirstUnder}
use Rattle.cert_model.specs.View.{ext_view}
use Rattle.cert_model.specs.declared.fields.ExtField.{ExtField}
use Rattle.cert_purpose.specs.Purposes.{IsOneUnder}
use Rattle.cert_purpose.specs.declared.extension.Value.{Value}
use Rattle.cert_purpose.specs.declared.extension.Value.TheVariants.{Missing, One, More}
use Rattle.cert_purpose.specs.Found.{AreMore, Tells}

pub without_none : (id : Identifier) → IsWithout id []
unfolding IsWithout
without_none id = All-nil (λ (e : Extension). e.identifier ≢ id)

pub without_push : (id : Identifier) (es : List Extension) (e : Extension) → IsWithout id es → e.identifier ≢ id → IsWithout id (es ++ e ∷ [])
unfolding IsWithout
without_push id es e h n = All-push (λ (z : Extension). z.identifier ≢ id) es e h n

pub one_first : (id : Identifier) (es : List Extension) (v : List ℕ) → IsOneUnder id es v → IsFirstUnder id es v
one_first id es v o = record { front = o.front; extension = o.extension; back = o.back; place = o.place; under = o.under; first = o.before; value_is = o.value_is }

pub one_of_one : (id : Identifier) (es : List Extension) (v w : List ℕ) → IsOneUnder id es v → IsOneUnder id es w → v ≡ w
one_of_one id es v w o p = one_value id es v w (one_first id es v o) (one_first id es w p)

pub first_one : (id : Identifier) (es : List Extension) (e : Extension) → IsWithout id es → e.identifier ≡ id → IsOneUnder id (es ++ e ∷ []) e.value
first_one id es e h u = record { front = es; extension = e; back = []; place = refl; under = u; before = h; behind = without_none id; value_is = refl }

pub one_more : (id : Identifier) (es : List Extension) (e : Extension) (v : List ℕ) → IsOneUnder id es v → e.identifier ≡ id → AreMore id (es ++ e ∷ [])
one_more id es e v o u = record { front = o.front; first = o.extension; middle = o.back; second = e; back = []; place = ap (λ z. z ++ e ∷ []) o.place; is_first = o.under; is_second = u }

pub more_push : (id : Identifier) (es : List Extension) (e : Extension) → AreMore id es → AreMore id (es ++ e ∷ [])
more_push id es e m = record { front = m.front; first = m.first; middle = m.middle; second = m.second; back = m.back ++ e ∷ []; place = ap (λ z. z ++ e ∷ []) m.place ∙ append_assoc (m.front ++ m.first ∷ m.middle) (m.second ∷ m.back) (e ∷ []); is_first = m.is_first; is_second = m.is_second }

pub one_push : (id : Identifier) (es : List Extension) (e : Extension) (v : List ℕ) → IsOneUnder id es v → e.identifier ≢ id → IsOneUnder id (es ++ e ∷ []) v
one_push id es e v o n = record { front = o.front; extension = o.extension; back = o.back ++ e ∷ []; place = ap (λ z. z ++ e ∷ []) o.place ∙ append_assoc o.front (o.extension ∷ o.back) (e ∷ []); under = o.under; before = o.before; behind = without_push id o.back e o.behind n; value_is = o.value_is }

pub tells_push : (id : Identifier) (es : List Extension) (e : Extension) (v : Value) → Tells id es v → e.identifier ≢ id → Tells id (es ++ e ∷ []) v
tells_push id es e Missing h n = without_push id es e h n
tells_push id es e (One v) h n = one_push id es e v.now h n
tells_push id es e More h n = more_push id es e h

-- the first k and the next
pub taken : (xs : List ExtField) (k : ℕ) (d : ExtField) → k < length xs → map ext_view (take (k + 1) xs) ≡ map ext_view (take k xs) ++ ext_view (get_or xs k d) ∷ []
taken xs k d lt =
    let n : k + 1 ≡ suc k = omega arith in
    ap (λ j. map ext_view (take j xs)) n ∙ ap (map ext_view) (take-suc xs k d lt) ∙ map-append ext_view (take k xs) (get_or xs k d ∷ [])

head_not : (id : Identifier) (e : Extension) (es : List Extension) → IsWithout id (e ∷ es) → e.identifier ≡ id → ⊥
unfolding IsWithout
head_not id e es h u = h 0 e (omega arith) u

in_front : (id : Identifier) (front : List Extension) (e : Extension) (back : List Extension) → IsWithout id (front ++ e ∷ back) → e.identifier ≡ id → ⊥
unfolding IsWithout
in_front id front e back h u =
    let n : length (front ++ e ∷ back) ≡ length front + length (e ∷ back) = length-append front (e ∷ back) in
    h (length front) e (omega arith) (ap (λ (z : Extension). z.identifier) (get_or-append_seam front e back e) ∙ u)

pub more_not_none : (id : Identifier) (es : List Extension) → AreMore id es → IsWithout id es → ⊥
more_not_none id es m h = in_front id (m.front ++ m.first ∷ m.middle) m.second m.back (subst (IsWithout id) m.place h) m.is_second

pub one_not_none : (id : Identifier) (es : List Extension) (v : List ℕ) → IsOneUnder id es v → IsWithout id es → ⊥
one_not_none id es v o h = in_front id o.front o.extension o.back (subst (IsWithout id) o.place h) o.under

tail : List Extension → List Extension
tail [] = []
tail (e ∷ es) = es

-- an extension of the identifier after another one is in no front
apart : (id : Identifier) (front : List Extension) (e : Extension) (back f : List Extension) (a : Extension) (m : List Extension) (b : Extension) (r : List Extension)
    → front ++ e ∷ back ≡ (f ++ a ∷ m) ++ b ∷ r → IsWithout id front → IsWithout id back → a.identifier ≡ id → b.identifier ≡ id → ⊥
unfolding tail IsWithout
apart id [] e back [] a m b r p h k u w = in_front id m b r (subst (IsWithout id) (ap tail p) k) w
apart id [] e back (x ∷ f) a m b r p h k u w = in_front id (f ++ a ∷ m) b r (subst (IsWithout id) (ap tail p) k) w
apart id (y ∷ front) e back [] a m b r p h k u w = head_not id y front h (ap (λ (z : List Extension). (get_or z 0 a).identifier) p ∙ u)
apart id (y ∷ front) e back (x ∷ f) a m b r p h k u w = apart id front e back f a m b r (ap tail p) (All-tail (λ (z : Extension). z.identifier ≢ id) y front h) k u w

pub more_not_one : (id : Identifier) (es : List Extension) (v : List ℕ) → AreMore id es → IsOneUnder id es v → ⊥
more_not_one id es v m o = apart id o.front o.extension o.back m.front m.first m.middle m.second m.back (sym o.place ∙ m.place) o.before o.behind m.is_first m.is_second

-- how goals write what is past the end
abbrev pub blank : ExtField
blank = record { identifier = record { ref_ptr = (0, 0); now = [] }; critical = false; value = record { ref_ptr = (0, 0); now = [] } }

pub told_one : (id : Identifier) (xs : List ExtField) (k : ℕ) (v w : Value) → k < length xs → v ≡ Missing → w ≡ One (get_or xs k blank).value → Tells id (map ext_view (take k xs)) v → (get_or xs k blank).identifier.now ≡ id → Tells id (map ext_view (take (k + 1) xs)) w
told_one id xs k v w lt m i h u =
    let one = first_one id (map ext_view (take k xs)) (ext_view (get_or xs k blank)) (subst (Tells id (map ext_view (take k xs))) m h) u in
    subst (Tells id (map ext_view (take (k + 1) xs))) (sym i) (subst (λ es. IsOneUnder id es (get_or xs k blank).value.now) (sym (taken xs k blank lt)) one)

more_of : (id : Identifier) (es : List Extension) (e : Extension) (v : Value) → (v ≡ Missing → ⊥) → Tells id es v → e.identifier ≡ id → AreMore id (es ++ e ∷ [])
more_of id es e Missing n h u = absurd (n refl)
more_of id es e (One v) n h u = one_more id es e v.now h u
more_of id es e More n h u = more_push id es e h

pub told_more : (id : Identifier) (xs : List ExtField) (k : ℕ) (v w : Value) → k < length xs → (v ≡ Missing → ⊥) → w ≡ More → Tells id (map ext_view (take k xs)) v → (get_or xs k blank).identifier.now ≡ id → Tells id (map ext_view (take (k + 1) xs)) w
told_more id xs k v w lt m i h u =
    let more = more_of id (map ext_view (take k xs)) (ext_view (get_or xs k blank)) v m h u in
    subst (Tells id (map ext_view (take (k + 1) xs))) (sym i) (subst (AreMore id) (sym (taken xs k blank lt)) more)

pub told_same : (id : Identifier) (xs : List ExtField) (k : ℕ) (v w : Value) → k < length xs → w ≡ v → Tells id (map ext_view (take k xs)) v → ((get_or xs k blank).identifier.now ≡ id → ⊥) → Tells id (map ext_view (take (k + 1) xs)) w
told_same id xs k v w lt i h n =
    let same = tells_push id (map ext_view (take k xs)) (ext_view (get_or xs k blank)) v h n in
    subst (Tells id (map ext_view (take (k + 1) xs))) (sym i) (subst (λ es. Tells id es v) (sym (taken xs k blank lt)) same)
