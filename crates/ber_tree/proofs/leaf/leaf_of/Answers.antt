use Rattle.std.proofs.lemmas.Result.{IfErr-weaker}
use Rattle.der_tree.specs.View.{element_under}
use Rattle.ber_tree.proofs.Leaves.{leaf_universal, no_leaf_by}
use Rattle.ber_tree.proofs.leaf.leaf_of.Goals as goal

pub returns-in-None-clause-none : goal.returns-in-None-clause-none
returns-in-None-clause-none c =
    let e = element_under c.args.header c.args.content.now in
    let class = c.is_universal.ensures.0 c.if-not-is_universal.false in
    IfErr-weaker c.leaf_under.result _ _ (λ x none. (none.0, λ d p. no_leaf_by e d (λ q. none.1 d (leaf_universal e d class q)) (λ q. c.in-None.ensures.wider d q) p)) c.leaf_under.ensures.none
