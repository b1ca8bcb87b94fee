use Rattle.x509_ext_policies.specs.Grouping.{held_at}
use Rattle.x509_ext_policies.proofs.GroupLaws.{put_at, added}
use Rattle.x509_ext_policies.proofs.grouping.add_to_group.Goals as goal

pub returns : goal.returns
returns g c =
    λ id.
    added (held_at c.args.groups.now) (held_at c.take_group-values.new.groups id) (held_at c.insert.new.self id) c.args.oid id c.args.value
    c.take_group-values.result.items _ c.take_group-values.ensures.items c.in_ok-push.ensures.items (c.take_group-values.ensures.others id)
    (put_at c.take_group-values.new.groups c.insert.new.self _ c.args.oid id (c.in_ok-insert.ensures.updates.0 id))
