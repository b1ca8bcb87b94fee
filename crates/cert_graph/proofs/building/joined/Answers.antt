-- One group more is made of what stood at its place.
use Rattle.std.proofs.Common.{◌<◌, length, map, ap, ◌∙◌, refl, rules}
use Rattle.std.proofs.lemmas.List.{length-set}
use Rattle.cert_graph.specs.declared.nodes.Group.{Group}
use Rattle.cert_graph.proofs.Joined.{left_kept, moved, made_more}
use Rattle.cert_graph.proofs.building.joined.Goals as goal

pub loop-place-preserved : goal.loop-place-preserved
loop-place-preserved c =
    let p = c.loop-place.place in
    let inv = c.loop-place.invariant in
    let of_members : p < length c.args.members.items = search rules in
    let of_anchors : p < length c.args.anchors.items = search rules in
    let of_issued : p < length c.args.issued.items = search rules in
    record {
      members_count = length-set c.loop-place.members.items p c.replace-its_members.new.dest ∙ inv.members_count;
      anchors_count = length-set c.loop-place.anchors.items p c.replace-its_anchors.new.dest ∙ inv.anchors_count;
      issued_count = length-set c.loop-place.issued.items p c.replace-its_issued.new.dest ∙ inv.issued_count;
      members_left = left_kept c.loop-place.members.items c.args.members.items p c.replace-its_members.new.dest inv.members_left;
      anchors_left = left_kept c.loop-place.anchors.items c.args.anchors.items p c.replace-its_anchors.new.dest inv.anchors_left;
      issued_left = left_kept c.loop-place.issued.items c.args.issued.items p c.replace-its_issued.new.dest inv.issued_left;
      members_made = ap (map (λ (g : Group). g.members.items)) c.in_ok-push.ensures.items
          ∙ made_more (λ (g : Group). g.members.items) c.loop-place.groups.items _ c.args.members.items p c.replace-its_members.result of_members inv.members_made refl
          (moved c.loop-place.members.items c.args.members.items p c.replace-its_members.result c.index_mut.result.now inv.members_left c.replace-its_members.ensures.value c.index_mut.ensures.value);
      anchors_made = ap (map (λ (g : Group). g.anchors.items)) c.in_ok-push.ensures.items
          ∙ made_more (λ (g : Group). g.anchors.items) c.loop-place.groups.items _ c.args.anchors.items p c.replace-its_anchors.result of_anchors inv.anchors_made refl
          (moved c.loop-place.anchors.items c.args.anchors.items p c.replace-its_anchors.result c.index_mut-in-loop-place.result.now inv.anchors_left c.replace-its_anchors.ensures.value c.index_mut-in-loop-place.ensures.value);
      issued_made = ap (map (λ (g : Group). g.issued.items)) c.in_ok-push.ensures.items
          ∙ made_more (λ (g : Group). g.issued.items) c.loop-place.groups.items _ c.args.issued.items p c.replace-its_issued.result of_issued inv.issued_made refl
          (moved c.loop-place.issued.items c.args.issued.items p c.replace-its_issued.result c.index_mut-in-loop-place-2.result.now inv.issued_left c.replace-its_issued.ensures.value c.index_mut-in-loop-place-2.ensures.value);
    }
