use Rattle.std.proofs.Common.{◌≡◌, ℕ, List, length, map, option_map}
use Rattle.std.specs.Slice.Iter.{iter_rest}
use Rattle.x509_ext_policies.specs.Grouping.{held_at, some_values, values_of}
use Rattle.x509_ext_policies.proofs.GroupLaws.{also_values}
use Rattle.x509_ext_names.proofs.maps.grouped.Given as goal

-- what is held, and what is left
abbrev pub invariant-loop-description : goal.invariant-loop-description
invariant-loop-description l =
    (id : List ℕ)
    → also_values (option_map (map (λ n. n.now)) (held_at l.groups id)) (values_of (λ d. d.access_method) (λ d. d.access_location) (iter_rest l.rest) id)
    ≡ some_values (values_of (λ d. d.access_method) (λ d. d.access_location) l.fn.descriptions id)

abbrev pub decreases-loop-description : goal.decreases-loop-description
decreases-loop-description l = length (iter_rest l.rest)
