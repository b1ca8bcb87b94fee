use Rattle.std.proofs.Common.{◌≡◌, ℕ, List, length, map, option_map}
use Rattle.std.specs.Vec.Iter.{into_iter_items}
use Rattle.x509_ext_policies.specs.Grouping.{held_at, some_values, values_of}
use Rattle.x509_ext_policies.proofs.GroupLaws.{also_values}
use Rattle.x509_ext_names.proofs.maps.into_grouped.Given as goal

-- what is held, and what is left
abbrev pub invariant-loop-description : goal.invariant-loop-description
invariant-loop-description l =
    (id : List ℕ)
    → also_values (option_map (map (λ n. n)) (held_at l.groups id)) (values_of (λ d. d.access_method) (λ d. d.access_location) (into_iter_items l.rest) id)
    ≡ some_values (values_of (λ d. d.access_method) (λ d. d.access_location) l.fn.descriptions.items id)

abbrev pub decreases-loop-description : goal.decreases-loop-description
decreases-loop-description l = length (into_iter_items l.rest)
