use Rattle.std.proofs.Common.{None}
use Rattle.x509_ext_policies.proofs.GroupLaws.{put_at}
use Rattle.x509_ext_policies.proofs.grouping.take_group.Goals as goal

pub returns-in-Some-clause-others : goal.returns-in-Some-clause-others
returns-in-Some-clause-others g c = λ id. put_at c.args.groups.now c.remove.new.self None c.args.oid.now id (c.in-Some.ensures.updates.0 id)
