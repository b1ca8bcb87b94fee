use Rattle.certpath_why.proofs.Spreading.{put_marked}
use Rattle.certpath_why.proofs.marks.put_mark.Goals as goal

pub returns-clause-exact : goal.returns-clause-exact
returns-clause-exact c = put_marked c.args.marks.now.items c.args.place c.requires
