-- The numbers of the shapes so far.
use Rattle.std.proofs.Common.{◌≡◌, ◌∙◌, ℕ, ◌+◌, ◌≤◌, List, [], ◌∷◌, ◌++◌, length, drop, map, Some, sym, ap, append_assoc, slice_get}
use Rattle.std.proofs.lemmas.List.{append-nil, drop_all}
use Rattle.certpath_c.specs.Shaping.{shape_number}
use Rattle.certpath_c.proofs.Spans.{drop_from}

pub one_shape_more : (items : List (List ℕ)) (numbers : List ℕ) (k : ℕ) (item : List ℕ) (number : ℕ) → numbers ++ map shape_number (drop k items) ≡ map shape_number items → slice_get items k ≡ Some item
    → number ≡ shape_number item → (numbers ++ number ∷ []) ++ map shape_number (drop (k + 1) items) ≡ map shape_number items
one_shape_more items numbers k item number so_far e is =
    let rest = map shape_number (drop (k + 1) items) in
    append_assoc numbers (number ∷ []) rest ∙ ap (λ n. numbers ++ n ∷ rest) is ∙ ap (λ l. numbers ++ map shape_number l) (sym (drop_from items k item e)) ∙ so_far

pub all_shapes : (items : List (List ℕ)) (numbers : List ℕ) (k : ℕ) → length items ≤ k → numbers ++ map shape_number (drop k items) ≡ map shape_number items → numbers ≡ map shape_number items
all_shapes items numbers k le so_far = sym (append-nil numbers) ∙ ap (λ l. numbers ++ map shape_number l) (sym (drop_all k items le)) ∙ so_far
