use Rattle.std.proofs.Common.{◌≡◌, ℕ, List, length, map, option_map}
use Rattle.std.specs.Slice.Iter.{iter_rest}
use Rattle.x509_ext_policies.specs.Grouping.{held_at, some_values, values_of}
use Rattle.x509_ext_policies.proofs.GroupLaws.{also_values}
use Rattle.x509_ext_policies.proofs.mappings.PolicyMappings.as_hashmap.Given as goal

-- what is held, and what is left
abbrev pub invariant-loop-mapping : goal.invariant-loop-mapping
invariant-loop-mapping l =
    (id : List ℕ)
    → also_values (option_map (map (λ o. o.now)) (held_at l.groups id)) (values_of (λ m. m.issuer_domain_policy) (λ m. m.subject_domain_policy) (iter_rest l.rest) id)
    ≡ some_values (values_of (λ m. m.issuer_domain_policy) (λ m. m.subject_domain_policy) l.fn.self.mappings.items id)

abbrev pub decreases-loop-mapping : goal.decreases-loop-mapping
decreases-loop-mapping l = length (iter_rest l.rest)
