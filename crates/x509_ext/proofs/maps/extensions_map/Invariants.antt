use Rattle.std.proofs.Common.{◌≡◌, ℕ, List, ◌++◌, length, option_map}
use Rattle.std.specs.Slice.Iter.{iter_rest}
use Rattle.x509_ext.specs.Maps.{held_at, those_of}
use Rattle.x509_ext.proofs.OnceLaws.{none_or_one}
use Rattle.x509_ext.proofs.maps.extensions_map.Given as goal

-- what is held, and what is left
abbrev pub invariant-loop-extension : goal.invariant-loop-extension
invariant-loop-extension l =
    (id : List ℕ)
    → none_or_one (option_map (λ e. e.now) (held_at l.by_oid id)) ++ those_of (λ e. e.oid) id (iter_rest l.rest) ≡ those_of (λ e. e.oid) id l.fn.extensions

abbrev pub decreases-loop-extension : goal.decreases-loop-extension
decreases-loop-extension l = length (iter_rest l.rest)
