use Rattle.std.proofs.Common.{◌∙◌, ap}
use Rattle.std.specs.List.{flat_map}
use Rattle.std.specs.Vec.{vec_items}
use Rattle.asn1_lists.proofs.Encoded.{sorted_set}
use Rattle.asn1_lists.proofs.encoding.set_content.Goals as goal

pub returns-in-Ok-join-clause-ok : goal.returns-in-Ok-join-clause-ok
returns-in-Ok-join-clause-ok g c =
    c.in-Ok-join.ensures.ok ∙ ap (flat_map vec_items) c.as_slice.ensures.value
    ∙ sorted_set g.T.ToDer.element vec_items c.args.items.now c.in-Ok.parts.items c.sort.new.self.items c.in-Ok.ensures.ok c.in-Ok-sort.ensures.permutation c.in-Ok-sort.ensures.sorted
