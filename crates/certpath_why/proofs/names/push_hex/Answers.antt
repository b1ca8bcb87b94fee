use Rattle.certpath_why.proofs.Texts.{lines_none, lines_more, lines_all}
use Rattle.x509_names.specs.NameTexts.{upper_pair}
use Rattle.certpath_why.proofs.names.push_hex.Goals as goal

pub loop-octet-init : goal.loop-octet-init
loop-octet-init c = lines_none upper_pair c.args.octets.now _

pub loop-octet-preserved : goal.loop-octet-preserved
loop-octet-preserved c = lines_more upper_pair c.args.octets.now c.loop-octet.octet-index _ _ _ _ c.loop-octet-test.true c.loop-octet.invariant c.in_ok-push_pair.ensures

pub returns : goal.returns
returns c = lines_all upper_pair c.args.octets.now c.loop-octet.octet-index _ _ c.loop-octet-test.false c.loop-octet.invariant
