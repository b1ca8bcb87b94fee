use Rattle.std.proofs.Common.{◌∙◌, sym, ap}
use Rattle.cert_model.specs.Reads.{ascend}
use Rattle.certcheck.specs.Windows.{trees_in}
use Rattle.certcheck.proofs.WindowTrees.{first_more, first_none}
use Rattle.certcheck.proofs.ElementTrees.{octets_of_tree}
use Rattle.certcheck.proofs.Ascending.{ascend_first}
use Rattle.certcheck.proofs.names.ascend.Goals as goal

pub returns-in-Some : goal.returns-in-Some
returns-in-Some c =
    c.ascend_after.ensures
    ∙ ascend_first (trees_in c.args.parts.now) _ _ c.front_of.result.now (first_more (trees_in c.args.parts.now) _ _ c.in-Some.ensures.trees)
    (c.front_of.ensures _ c.in-Some.ensures.octets ∙ sym (octets_of_tree _))

pub returns-in-None : goal.returns-in-None
returns-in-None c = sym (ap ascend (first_none (trees_in c.args.parts.now) c.in-None.ensures.trees))
