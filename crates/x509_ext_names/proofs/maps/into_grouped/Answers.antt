use Rattle.std.proofs.Common.{◌≡◌, ◌∙◌, refl, sym, ap, ◌∷◌, map, option_map, rules}
use Rattle.std.proofs.lemmas.List.{nil_from_length}
use Rattle.std.specs.Vec.Iter.{into_iter_items, into_iter_len}
use Rattle.x509_ext_policies.specs.Grouping.{held_at, values_of}
use Rattle.x509_ext_policies.proofs.GroupLaws.{also_values, grouped, grouped_all}
use Rattle.x509_ext_names.proofs.maps.into_grouped.Goals as goal

pub loop-description-preserved : goal.loop-description-preserved
loop-description-preserved c =
    λ id.
    let e : into_iter_items c.loop-description.rest ≡ c.in-Some.description ∷ into_iter_items c.next.new.self = search rules in
    grouped (λ n. n) (λ d. d.access_method) (λ d. d.access_location) c.in-Some.description _ _ (into_iter_items c.next.new.self) id
    (held_at c.loop-description.groups id) (held_at c.add_to_group.new.groups id) refl refl (c.in_ok-add_to_group.ensures id)
    ∙ ap (λ l. also_values (option_map (map (λ n. n)) (held_at c.loop-description.groups id)) (values_of (λ d. d.access_method) (λ d. d.access_location) l id)) (sym e)
    ∙ c.loop-description.invariant id

pub returns : goal.returns
returns c =
    λ id.
    let short : into_iter_len c.loop-description.rest ≡ 0 = search rules in
    let none = nil_from_length (into_iter_items c.loop-description.rest) (sym c.loop-description.rest.rest.ok.0 ∙ short) in
    grouped_all (λ d. d.access_method) (λ d. d.access_location) (into_iter_items c.loop-description.rest) id (option_map (map (λ n. n)) (held_at c.loop-description.groups id)) none
    ∙ c.loop-description.invariant id
