use Rattle.std.proofs.Common.{◌≡◌, ◌∙◌, refl, sym, ap, length, ◌∷◌, map, option_map, rules}
use Rattle.std.proofs.lemmas.List.{nil_from_length}
use Rattle.std.specs.Slice.Iter.{iter_rest}
use Rattle.x509_ext_policies.specs.Grouping.{held_at, values_of}
use Rattle.x509_ext_policies.proofs.GroupLaws.{also_values, grouped, grouped_all}
use Rattle.x509_ext_names.proofs.maps.grouped.Goals as goal

pub loop-description-preserved : goal.loop-description-preserved
loop-description-preserved c =
    λ id.
    let e : iter_rest c.loop-description.rest ≡ c.in-Some.description.now ∷ iter_rest c.next.new.self = search rules in
    grouped (λ n. n.now) (λ d. d.access_method) (λ d. d.access_location) c.in-Some.description.now _ c.in_ok-method.method (iter_rest c.next.new.self) id
    (held_at c.loop-description.groups id) (held_at c.add_to_group.new.groups id) refl c.in_ok-method.ensures (c.in_ok-add_to_group.ensures id)
    ∙ ap (λ l. also_values (option_map (map (λ n. n.now)) (held_at c.loop-description.groups id)) (values_of (λ d. d.access_method) (λ d. d.access_location) l id)) (sym e)
    ∙ c.loop-description.invariant id

pub returns : goal.returns
returns c =
    λ id.
    let short : length (iter_rest c.loop-description.rest) ≡ 0 = search rules in
    let none = nil_from_length (iter_rest c.loop-description.rest) short in
    grouped_all (λ d. d.access_method) (λ d. d.access_location) (iter_rest c.loop-description.rest) id (option_map (map (λ n. n.now)) (held_at c.loop-description.groups id)) none
    ∙ c.loop-description.invariant id
