-- Pieces that are written one by one join.
use Rattle.std.proofs.Common.{◌≡◌, ℕ, true, false, List, [], ◌∷◌, ◌++◌, refl, ap, append-nil, append_assoc}
use Rattle.std.specs.List.{join_with_byte}
use Rattle.asn1_oid.specs.Joining.{joined_after}

joined_more : (separator : ℕ) (piece : List ℕ) (pieces : List (List ℕ))
    → joined_after true separator (piece ∷ pieces) ≡ separator ∷ join_with_byte separator (piece ∷ pieces)
joined_more separator piece [] = ap (λ (l : List ℕ). separator ∷ l) (append-nil piece)
joined_more separator piece (next ∷ pieces) = ap (λ (l : List ℕ). separator ∷ (piece ++ l)) (joined_more separator next pieces)

pub joined : (separator : ℕ) (pieces : List (List ℕ)) → joined_after false separator pieces ≡ join_with_byte separator pieces
joined separator [] = refl
joined separator (piece ∷ []) = append-nil piece
joined separator (piece ∷ next ∷ pieces) = ap (λ (l : List ℕ). piece ++ l) (joined_more separator next pieces)

-- what was written, a separator, a piece and the rest
pub regroup : (a b c d : List ℕ) → ((a ++ b) ++ c) ++ d ≡ a ++ (b ++ (c ++ d))
regroup a b c d = simp append_assoc
