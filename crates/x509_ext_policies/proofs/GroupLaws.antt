-- Values that are added one by one are found by their identifiers.
use Rattle.std.proofs.Common.{◌≡◌, ◌∙◌, refl, sym, ap, ℕ, Bool, true, false, cond, List, [], ◌∷◌, ◌++◌, map, append_assoc, append-nil, Option, Some, None, option_map, if◌then◌else◌, bytes_eq, Vec, Global}
use Rattle.std.specs.BTreeMap.{BTreeMap, get, is_at}
use Rattle.std.specs.Cmp.Lexicographic.{slice_cmp}
use Rattle.std.specs.List.{filter}
use Rattle.std.specs.Ordering.{nat_cmp}
use Rattle.std.proofs.lemmas.List.{map-append}
use Rattle.std.proofs.lemmas.Map.Text.{is_eq-slice_cmp}
use Rattle.std.proofs.lemmas.Slice.Eq.{bytes_eq-Decides}
use Rattle.x509_ext_policies.specs.Grouping.{some_values, values_or_none, values_of, held_at}

chosen_by : {V : Type 0} (b : Bool) (w x : Option (Vec V Global))
    → option_map (λ v. v.items) (cond b w x) ≡ (if b then option_map (λ v. v.items) w else option_map (λ v. v.items) x)
chosen_by true w x = refl
chosen_by false w x = refl

-- what is held after a change at one identifier
pub put_at : {V : Type 0} (m n : BTreeMap (List ℕ) (Vec V Global)) (w : Option (Vec V Global)) (oid id : List ℕ)
    → get (slice_cmp nat_cmp) n id ≡ cond (is_at (slice_cmp nat_cmp oid) id) w (get (slice_cmp nat_cmp) m id)
    → held_at n id ≡ (if bytes_eq oid id then option_map (λ v. v.items) w else held_at m id)
put_at m n w oid id given =
    ap (option_map (λ v. v.items)) given
    ∙ ap (λ b. option_map (λ v. v.items) (cond b w (get (slice_cmp nat_cmp) m id))) (is_eq-slice_cmp oid id)
    ∙ chosen_by (bytes_eq oid id) w (get (slice_cmp nat_cmp) m id)

added_by : {V : Type 0} (b : Bool) (mid new held : Option (List V)) (x : V) (after : List V) → (b ≡ true → after ≡ values_or_none held ++ x ∷ [])
    → mid ≡ (if b then None else held) → new ≡ (if b then Some after else mid) → new ≡ (if b then Some (values_or_none held ++ x ∷ []) else held)
added_by true mid new held x after is gone put = put ∙ ap (λ l. Some l) (is refl)
added_by false mid new held x after is gone put = put ∙ gone

-- the values of an identifier are taken out, and put back with one more
pub added : {V : Type 0} (held : List ℕ → Option (List V)) (mid new : Option (List V)) (oid id : List ℕ) (x : V) (before after : List V)
    → before ≡ values_or_none (held oid) → after ≡ before ++ x ∷ []
    → mid ≡ (if bytes_eq oid id then None else held id) → new ≡ (if bytes_eq oid id then Some after else mid)
    → new ≡ (if bytes_eq oid id then Some (values_or_none (held id) ++ x ∷ []) else held id)
added held mid new oid id x before after was pushed gone put =
    added_by (bytes_eq oid id) mid new (held id) x after
    (λ is. pushed ∙ ap (λ l. l ++ x ∷ []) was ∙ ap (λ k. values_or_none (held k) ++ x ∷ []) ((bytes_eq-Decides oid id).0 is)) gone put

-- what is held, and the values that are left
abbrev pub also_values : {A : Type 0} → Option (List A) → List A → Option (List A)
also_values None xs = some_values xs
also_values (Some held) xs = Some (held ++ xs)

pub all_held : {A : Type 0} (held : Option (List A)) → also_values held [] ≡ held
all_held None = refl
all_held (Some held) = ap (λ l. Some l) (append-nil held)

-- one value goes from those that are left to those that are held
next_held : {V A : Type 0} (see : V → A) (same : Bool) (held : Option (List V)) (x : V) (xs : List A)
    → also_values (option_map (map see) (if same then Some (values_or_none held ++ x ∷ []) else held)) xs
    ≡ also_values (option_map (map see) held) (if same then see x ∷ xs else xs)
next_held see true None x xs = refl
next_held see true (Some held) x xs =
    ap (λ l. Some (l ++ xs)) (map-append see held (x ∷ [])) ∙ ap (λ l. Some l) (append_assoc (map see held) (see x ∷ []) xs)
next_held see false held x xs = refl

next_by : {A B : Type 0} (value : A → B) (same : Bool) (x : A) (xs : List A)
    → map value (if same then x ∷ xs else xs) ≡ (if same then value x ∷ map value xs else map value xs)
next_by value true x xs = refl
next_by value false x xs = refl

-- a step of a loop that groups
pub grouped : {V A B : Type 0} (see : V → B) (key : A → List ℕ) (value : A → B) (x : A) (v : V) (oid : List ℕ) (left : List A) (id : List ℕ) (old new : Option (List V))
    → value x ≡ see v → oid ≡ key x
    → new ≡ (if bytes_eq oid id then Some (values_or_none old ++ v ∷ []) else old)
    → also_values (option_map (map see) new) (values_of key value left id) ≡ also_values (option_map (map see) old) (values_of key value (x ∷ left) id)
grouped see key value x v oid left id old new seen same put =
    ap (λ h. also_values (option_map (map see) h) (values_of key value left id)) (put ∙ ap (λ k. if bytes_eq k id then Some (values_or_none old ++ v ∷ []) else old) same)
    ∙ next_held see (bytes_eq (key x) id) old v (values_of key value left id)
    ∙ ap (λ y. also_values (option_map (map see) old) (if bytes_eq (key x) id then y ∷ values_of key value left id else values_of key value left id)) (sym seen)
    ∙ ap (also_values (option_map (map see) old)) (sym (next_by value (bytes_eq (key x) id) x (filter (λ y. bytes_eq (key y) id) left)))

-- nothing is left
pub grouped_all : {A B : Type 0} (key : A → List ℕ) (value : A → B) (left : List A) (id : List ℕ) (held : Option (List B)) → left ≡ []
    → held ≡ also_values held (values_of key value left id)
grouped_all key value left id held none =
    sym (all_held held) ∙ ap (λ l. also_values held (values_of key value l id)) (sym none)
