-- A loop over the parts of a window reads what `list_at` reads of their trees.
use Rattle.std.proofs.Common.{◌≡◌, ◌∙◌, sym, ap, refl, Option, Some, None, option_map, List, [], ◌∷◌, ◌++◌, map, append_assoc}
use Rattle.std.specs.Option.{option_and_then}
use Rattle.std.proofs.lemmas.List.{map-append, append-nil}
use Rattle.der_tree.specs.Tree.{Tree, Trees, more}
use Rattle.der_tree.specs.Access.{first_at}
use Rattle.cert_model.specs.Reads.{list_at}
use Rattle.certcheck.proofs.WindowTrees.{first_more, first_none}

-- what was read, before what the parts left are
abbrev pub with_left : {A V : Type 0} → (V → A) → List V → Option (List A) → Option (List A)
with_left view items left = option_map (λ rest. map view items ++ rest) left

some_more : {A : Type 0} (a : A) (left : Option (List A)) → option_and_then (λ rest. Some (a ∷ rest)) left ≡ option_map (λ rest. a ∷ rest) left
some_more a None = refl
some_more a (Some rest) = refl

read_next : {A : Type 0} (read : Tree → Option A) (t : Tree) (us : Trees) (a : A) → Some a ≡ read t → list_at read (more t us) ≡ option_map (λ rest. a ∷ rest) (list_at read us)
read_next read t us a e = ap (option_and_then (λ x. option_and_then (λ rest. Some (x ∷ rest)) (list_at read us))) (sym e) ∙ some_more a (list_at read us)

read_refused : {A : Type 0} (read : Tree → Option A) (t : Tree) (us : Trees) → None ≡ read t → list_at read (more t us) ≡ None
read_refused read t us e = ap (option_and_then (λ x. option_and_then (λ rest. Some (x ∷ rest)) (list_at read us))) (sym e)

pushed : {A V : Type 0} (view : V → A) (items : List V) (x : V) (left : Option (List A)) →
    with_left view (items ++ x ∷ []) left ≡ with_left view items (option_map (λ rest. view x ∷ rest) left)
pushed view items x None = refl
pushed view items x (Some rest) = ap (λ z. Some (z ++ rest)) (map-append view items (x ∷ [])) ∙ ap (λ z. Some z) (append_assoc (map view items) (view x ∷ []) rest)

-- one part more was read
pub part_read : {A V : Type 0} (view : V → A) (read : Tree → Option A) (items new : List V) (x : V) (ts us : Trees) (t : Tree) (all : Option (List A)) →
    ◌≡◌ {A = Option (Tree × Trees)} (Some (t, us)) (first_at ts) → Some (view x) ≡ read t → new ≡ items ++ x ∷ [] →
    with_left view items (list_at read ts) ≡ all → with_left view new (list_at read us) ≡ all
part_read view read items new x ts us t all first e push inv =
    ap (λ z. with_left view z (list_at read us)) push ∙ pushed view items x (list_at read us)
    ∙ ap (with_left view items) (sym (read_next read t us (view x) e)) ∙ ap (λ z. with_left view items (list_at read z)) (sym (first_more ts us t first)) ∙ inv

-- no part is left
pub parts_read : {A V : Type 0} (view : V → A) (read : Tree → Option A) (items : List V) (ts : Trees) (all : Option (List A)) →
    ◌≡◌ {A = Option (Tree × Trees)} None (first_at ts) → with_left view items (list_at read ts) ≡ all → Some (map view items) ≡ all
parts_read view read items ts all first inv =
    ap (λ z. Some z) (sym (append-nil (map view items))) ∙ ap (λ z. with_left view items (list_at read z)) (sym (first_none ts first)) ∙ inv

-- a part is none that is wanted
pub part_refused : {A V : Type 0} (view : V → A) (read : Tree → Option A) (items : List V) (ts us : Trees) (t : Tree) (all : Option (List A)) →
    ◌≡◌ {A = Option (Tree × Trees)} (Some (t, us)) (first_at ts) → None ≡ read t → with_left view items (list_at read ts) ≡ all → None ≡ all
part_refused view read items ts us t all first e inv =
    ap (with_left view items) (sym (read_refused read t us e)) ∙ ap (λ z. with_left view items (list_at read z)) (sym (first_more ts us t first)) ∙ inv
