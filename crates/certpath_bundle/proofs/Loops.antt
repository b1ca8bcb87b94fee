-- One more step of a loop that goes over a list.
use Rattle.std.proofs.Common.{◌≡◌, ◌∙◌, sym, ap, refl, ℕ, ◌+◌, ◌<◌, ◌≤◌, List, [], ◌∷◌, ◌++◌, length, map, take, get_or, append_assoc}
use Rattle.std.specs.Prelude.{Bool, true, false, Result, Ok, Err, OnOk, OnErr, is_ok, is_err, if◌then◌else◌}
use Rattle.std.specs.List.{flat_map, fold}
use Rattle.std.proofs.lemmas.List.{append-nil, take_more, take_all, flat_map_more}

-- ---- texts, one right after the other

pub lines_none : {X : Type 0} (f : X → List ℕ) (xs : List X) (first : List ℕ) → first ≡ first ++ flat_map f (take 0 xs)
lines_none f xs first = sym (append-nil first)

pub lines_more : {X : Type 0} (f : X → List ℕ) (xs : List X) (k : ℕ) (d : X) (first text more : List ℕ) → k < length xs → text ≡ first ++ flat_map f (take k xs) → more ≡ text ++ f (get_or xs k d) → more ≡ first ++ flat_map f (take (k + 1) xs)
lines_more f xs k d first text more lt before is =
    is ∙ ap (λ t. t ++ f (get_or xs k d)) before ∙ flat_map_more f first (take k xs) (get_or xs k d) ∙ ap (λ l. first ++ flat_map f l) (sym (take_more xs k d lt))

pub lines_all : {X : Type 0} (f : X → List ℕ) (xs : List X) (k : ℕ) (first text : List ℕ) → length xs ≤ k → text ≡ first ++ flat_map f (take k xs) → text ≡ first ++ flat_map f xs
lines_all f xs k first text le before = before ∙ ap (λ l. first ++ flat_map f l) (take_all k xs le)

-- texts of what values hold
pub lines_of_map : {X Y : Type 0} (f : Y → List ℕ) (v : X → Y) (xs : List X) → flat_map (λ x. f (v x)) xs ≡ flat_map f (map v xs)
lines_of_map f v [] = refl
lines_of_map f v (x ∷ xs) = ap (λ z. f (v x) ++ z) (lines_of_map f v xs)

pub mapped_all : {X Y : Type 0} (f : Y → List ℕ) (v : X → Y) (xs : List X) (k : ℕ) (first text : List ℕ) → length xs ≤ k → text ≡ first ++ flat_map (λ x. f (v x)) (take k xs) → text ≡ first ++ flat_map f (map v xs)
mapped_all f v xs k first text le before = lines_all (λ x. f (v x)) xs k first text le before ∙ ap (λ l. first ++ l) (lines_of_map f v xs)

-- ---- folds

fold_append : {A X : Type 0} (f : A → X → A) (a : A) (xs : List X) (x : X) → fold f a (xs ++ x ∷ []) ≡ f (fold f a xs) x
fold_append f a [] x = refl
fold_append f a (y ∷ xs) x = fold_append f (f a y) xs x

fold_of_map : {A X Y : Type 0} (f : A → Y → A) (v : X → Y) (a : A) (xs : List X) → fold (λ a x. f a (v x)) a xs ≡ fold f a (map v xs)
fold_of_map f v a [] = refl
fold_of_map f v a (x ∷ xs) = fold_of_map f v (f a (v x)) xs

pub fold_step : {A X : Type 0} (f : A → X → A) (first : A) (xs : List X) (k : ℕ) (d : X) (held more : A) → k < length xs → held ≡ fold f first (take k xs) → more ≡ f held (get_or xs k d) → more ≡ fold f first (take (k + 1) xs)
fold_step f first xs k d held more lt before is =
    is ∙ ap (λ h. f h (get_or xs k d)) before ∙ sym (fold_append f first (take k xs) (get_or xs k d)) ∙ ap (fold f first) (sym (take_more xs k d lt))

pub fold_all : {A X Y : Type 0} (f : A → Y → A) (v : X → Y) (first : A) (xs : List X) (k : ℕ) (held : A) → length xs ≤ k → held ≡ fold (λ a x. f a (v x)) first (take k xs) → held ≡ fold f first (map v xs)
fold_all f v first xs k held le before = before ∙ ap (fold (λ a x. f a (v x)) first) (take_all k xs le) ∙ fold_of_map f v first xs

-- ---- lists that are made element by element

map_append : {X Y : Type 0} (f : X → Y) (xs : List X) (x : X) → map f (xs ++ x ∷ []) ≡ map f xs ++ f x ∷ []
map_append f [] x = refl
map_append f (y ∷ xs) x = ap (λ z. f y ∷ z) (map_append f xs x)

map_of_map : {X Y Z : Type 0} (f : Y → Z) (v : X → Y) (xs : List X) → map (λ x. f (v x)) xs ≡ map f (map v xs)
map_of_map f v [] = refl
map_of_map f v (x ∷ xs) = ap (λ z. f (v x) ∷ z) (map_of_map f v xs)

pub made_more : {X Y Z : Type 0} (g : X → Z) (h : Y → Z) (ys : List Y) (k : ℕ) (d : Y) (xs more : List X) (x : X) → k < length ys → map g xs ≡ map h (take k ys) → more ≡ xs ++ x ∷ [] → g x ≡ h (get_or ys k d) → map g more ≡ map h (take (k + 1) ys)
made_more g h ys k d xs more x lt before is one =
    ap (map g) is ∙ map_append g xs x ∙ ap (λ l. l ++ g x ∷ []) before ∙ ap (λ z. map h (take k ys) ++ z ∷ []) one
    ∙ sym (map_append h (take k ys) (get_or ys k d)) ∙ ap (map h) (sym (take_more ys k d lt))

pub made_all : {X V Y Z : Type 0} (g : X → Z) (h : V → Z) (v : Y → V) (ys : List Y) (k : ℕ) (xs : List X) → length ys ≤ k → map g xs ≡ map (λ y. h (v y)) (take k ys) → map g xs ≡ map h (map v ys)
made_all g h v ys k xs le before = before ∙ ap (map (λ y. h (v y))) (take_all k ys le) ∙ map_of_map h v ys

-- ---- texts appended by several calls

pub on_ok : {T E : Type 0} (r : Result T E) (P Q : Type 0) → OnOk r P → (P → Q) → OnOk r Q
on_ok (Ok x) P Q h f = f h
on_ok (Err e) P Q h f = tt

pub three_appended : (first a b c one two three : List ℕ) → one ≡ first ++ a → two ≡ one ++ b → three ≡ two ++ c → three ≡ first ++ (a ++ (b ++ c))
three_appended first a b c one two three e f g =
    g ∙ ap (λ z. z ++ c) f ∙ ap (λ z. (z ++ b) ++ c) e ∙ append_assoc (first ++ a) b c ∙ append_assoc first a (b ++ c)

pub five_appended : (first a b c d e one two three four five : List ℕ) → one ≡ first ++ a → two ≡ one ++ b → three ≡ two ++ c → four ≡ three ++ d → five ≡ four ++ e
    → five ≡ first ++ (a ++ (b ++ (c ++ (d ++ e))))
five_appended first a b c d e one two three four five p q r s t =
    t ∙ ap (λ z. z ++ e) s ∙ append_assoc three d e ∙ three_appended first a b (c ++ (d ++ e)) one two (three ++ (d ++ e)) p q (ap (λ z. z ++ (d ++ e)) r ∙ append_assoc two c (d ++ e))

-- what `push_str` says, if it returns `Ok`
pub on_push : {T E : Type 0} (r : Result T E) (new done left : List ℕ) → new ≡ (if is_ok r then done else left) → OnOk r (new ≡ done)
on_push (Ok x) new done left e = e
on_push (Err x) new done left e = tt

pub map_itself : {X : Type 0} (xs : List X) {ys : List X} → map (λ x. x) xs ≡ ys → xs ≡ ys
map_itself xs e = sym (itself xs) ∙ e
  where
    itself : {X : Type 0} (xs : List X) → map (λ x. x) xs ≡ xs
    itself [] = refl
    itself (x ∷ xs) = ap (λ z. x ∷ z) (itself xs)

-- what is said of an `Ok` or an `Err`, after a test for it
pub from_ok : {T E : Type 0} (r : Result T E) (b : Bool) (P : Type 0) → b ≡ false → b ≡ is_err r → OnOk r P → P
from_ok (Ok x) b P t e h = h
from_ok (Err x) b P t e h = absurd (let f : true ≡ false = sym e ∙ t in cc)

pub from_err : {T E : Type 0} (r : Result T E) (b : Bool) (P : Type 0) → b ≡ true → b ≡ is_err r → OnErr r P → P
from_err (Ok x) b P t e h = absurd (let f : true ≡ false = sym t ∙ e in cc)
from_err (Err x) b P t e h = h
