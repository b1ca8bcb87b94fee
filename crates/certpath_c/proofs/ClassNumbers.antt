-- The numbers of the items so far.
use Rattle.std.proofs.Common.{◌≡◌, ℕ, ◌+◌, ◌≤◌, List, [], ◌∷◌, ◌++◌, length, drop, Some, sym, subst, append_assoc, slice_get}
use Rattle.std.proofs.lemmas.List.{append-nil, drop_all}
use Rattle.certpath_c.specs.Classing.{IsClassed}
use Rattle.certpath_c.specs.Classes.{AreNumbers}
use Rattle.certpath_c.proofs.Spans.{drop_from}

-- with the numbers of what is left they are those of all items
pub record NumbersSoFar (items : List (List ℕ)) (numbers : List ℕ) (k : ℕ) : Type 0 where
  pub all : (more : List ℕ) → AreNumbers (drop k items) more → AreNumbers items (numbers ++ more)

pub one_number_more : (items : List (List ℕ)) (numbers : List ℕ) (k : ℕ) (item : List ℕ) (number : ℕ) → NumbersSoFar items numbers k → slice_get items k ≡ Some item → IsClassed item number
    → NumbersSoFar items (numbers ++ number ∷ []) (k + 1)
one_number_more items numbers k item number so_far e one = record {
  all = λ more rest.
      let here = subst (λ left. AreNumbers left (number ∷ more)) (sym (drop_from items k item e)) (one, rest) in
      subst (AreNumbers items) (sym (append_assoc numbers (number ∷ []) more)) (so_far.all (number ∷ more) here);
}

pub all_numbers : (items : List (List ℕ)) (numbers : List ℕ) (k : ℕ) → length items ≤ k → NumbersSoFar items numbers k → AreNumbers items numbers
all_numbers items numbers k le so_far =
    let none = subst (λ left. AreNumbers left []) (sym (drop_all k items le)) tt in
    subst (AreNumbers items) (append-nil numbers) (so_far.all [] none)
