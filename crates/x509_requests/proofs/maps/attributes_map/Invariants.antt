use Rattle.std.proofs.Common.{◌≡◌, ℕ, List, ◌++◌, length, option_map}
use Rattle.std.specs.Slice.Iter.{iter_rest}
use Rattle.x509_ext.specs.Maps.{held_at, those_of}
use Rattle.x509_ext.proofs.OnceLaws.{none_or_one}
use Rattle.x509_requests.proofs.maps.attributes_map.Given as goal

-- what is held, and what is left
abbrev pub invariant-loop-attribute : goal.invariant-loop-attribute
invariant-loop-attribute l =
    (id : List ℕ)
    → none_or_one (option_map (λ a. a.now) (held_at l.by_oid id)) ++ those_of (λ a. a.oid) id (iter_rest l.rest) ≡ those_of (λ a. a.oid) id l.fn.attributes

abbrev pub decreases-loop-attribute : goal.decreases-loop-attribute
decreases-loop-attribute l = length (iter_rest l.rest)
