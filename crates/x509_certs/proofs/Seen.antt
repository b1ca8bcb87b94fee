-- Calls that were seen, some after others.
use Rattle.std.proofs.Common.{sym, subst, List, [], ◌∷◌, ◌++◌}
use Rattle.std.specs.List.{FoldsTo}

-- calls that were seen, and then others
pub seen_then : {V T : Type 0} (sees : V → T → V → Type 0) (old between new : V) (front back : List T) → FoldsTo sees old front between → FoldsTo sees between back new → FoldsTo sees old (front ++ back) new
seen_then sees old between new [] back f b = subst (λ z. FoldsTo sees z back new) (sym f) b
seen_then sees old between new (x ∷ xs) back f b = (f.0, f.1, seen_then sees f.0 between new xs back f.2 b)
