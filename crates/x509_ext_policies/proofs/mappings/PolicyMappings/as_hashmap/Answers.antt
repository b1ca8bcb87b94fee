use Rattle.std.proofs.Common.{◌≡◌, ◌∙◌, refl, sym, ap, length, ◌∷◌, map, option_map, rules}
use Rattle.std.proofs.lemmas.List.{nil_from_length}
use Rattle.std.specs.Slice.Iter.{iter_rest}
use Rattle.x509_ext_policies.specs.Grouping.{held_at, values_of}
use Rattle.x509_ext_policies.proofs.GroupLaws.{also_values, grouped, grouped_all}
use Rattle.x509_ext_policies.proofs.mappings.PolicyMappings.as_hashmap.Goals as goal

pub loop-mapping-preserved : goal.loop-mapping-preserved
loop-mapping-preserved c =
    λ id.
    let e : iter_rest c.loop-mapping.rest ≡ c.in-Some.mapping.now ∷ iter_rest c.next.new.self = search rules in
    grouped (λ o. o.now) (λ m. m.issuer_domain_policy) (λ m. m.subject_domain_policy) c.in-Some.mapping.now _ c.in_ok-issuer.issuer (iter_rest c.next.new.self) id
    (held_at c.loop-mapping.groups id) (held_at c.add_to_group.new.groups id) refl c.in_ok-issuer.ensures (c.in_ok-add_to_group.ensures id)
    ∙ ap (λ l. also_values (option_map (map (λ o. o.now)) (held_at c.loop-mapping.groups id)) (values_of (λ m. m.issuer_domain_policy) (λ m. m.subject_domain_policy) l id)) (sym e)
    ∙ c.loop-mapping.invariant id

pub returns : goal.returns
returns c =
    λ id.
    let short : length (iter_rest c.loop-mapping.rest) ≡ 0 = search rules in
    let none = nil_from_length (iter_rest c.loop-mapping.rest) short in
    grouped_all (λ m. m.issuer_domain_policy) (λ m. m.subject_domain_policy) (iter_rest c.loop-mapping.rest) id (option_map (map (λ o. o.now)) (held_at c.loop-mapping.groups id)) none
    ∙ c.loop-mapping.invariant id
