use Rattle.std.proofs.Common.{◌≡◌, ◌∙◌, refl, sym, ap, ◌∷◌, map, option_map, rules}
use Rattle.std.proofs.lemmas.List.{nil_from_length}
use Rattle.std.specs.Vec.Iter.{into_iter_items, into_iter_len}
use Rattle.x509_ext_policies.specs.Grouping.{held_at, values_of}
use Rattle.x509_ext_policies.proofs.GroupLaws.{also_values, grouped, grouped_all}
use Rattle.x509_ext_policies.proofs.mappings.PolicyMappings.into_hashmap.Goals as goal

pub loop-mapping-preserved : goal.loop-mapping-preserved
loop-mapping-preserved c =
    λ id.
    let e : into_iter_items c.loop-mapping.rest ≡ c.in-Some.mapping ∷ into_iter_items c.next.new.self = search rules in
    grouped (λ o. o) (λ m. m.issuer_domain_policy) (λ m. m.subject_domain_policy) c.in-Some.mapping _ _ (into_iter_items c.next.new.self) id
    (held_at c.loop-mapping.groups id) (held_at c.add_to_group.new.groups id) refl refl (c.in_ok-add_to_group.ensures id)
    ∙ ap (λ l. also_values (option_map (map (λ o. o)) (held_at c.loop-mapping.groups id)) (values_of (λ m. m.issuer_domain_policy) (λ m. m.subject_domain_policy) l id)) (sym e)
    ∙ c.loop-mapping.invariant id

pub returns : goal.returns
returns c =
    λ id.
    let short : into_iter_len c.loop-mapping.rest ≡ 0 = search rules in
    let none = nil_from_length (into_iter_items c.loop-mapping.rest) (sym c.loop-mapping.rest.rest.ok.0 ∙ short) in
    grouped_all (λ m. m.issuer_domain_policy) (λ m. m.subject_domain_policy) (into_iter_items c.loop-mapping.rest) id (option_map (map (λ o. o)) (held_at c.loop-mapping.groups id)) none
    ∙ c.loop-mapping.invariant id
