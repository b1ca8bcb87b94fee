use Rattle.certpath_why.proofs.Texts.{lines_none, lines_more, lines_all}
use Rattle.certpath_why.specs.Listed.{listed_octet}
use Rattle.certpath_why.proofs.listed.push_listed_octets.Goals as goal

pub loop-octet-init : goal.loop-octet-init
loop-octet-init c = lines_none listed_octet c.args.octets.now _

pub loop-octet-preserved : goal.loop-octet-preserved
loop-octet-preserved c = lines_more listed_octet c.args.octets.now c.loop-octet.octet-index _ _ _ _ c.loop-octet-test.true c.loop-octet.invariant c.in_ok-push_listed_octet.ensures

pub returns : goal.returns
returns c = lines_all listed_octet c.args.octets.now c.loop-octet.octet-index _ _ c.loop-octet-test.false c.loop-octet.invariant
