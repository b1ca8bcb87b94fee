use Rattle.std.proofs.Common.{◌∙◌, sym}
use Rattle.std.proofs.lemmas.Bool.{false≢true}
use Rattle.cert_model.specs.Extended.{under_ce}
use Rattle.cert_purpose.proofs.Ones.{without_none, told_one, told_more, told_same}
use Rattle.cert_purpose.proofs.extension.value_under.Goals as goal
use Rattle.cert_purpose.proofs.extension.value_under.Goals.{then-is_ce+in-Missing, then-is_ce+in_default, else-is_ce}

pub loop-extension-init : goal.loop-extension-init
loop-extension-init c = without_none (under_ce c.args.n)

pub loop-extension-preserved : goal.loop-extension-preserved
loop-extension-preserved c =
    elim c.if-is_ce.branch [
      | then-is_ce+in-Missing w ↦ told_one (under_ce c.args.n) c.args.extensions.now c.loop-extension.extension-index c.loop-extension.value c.if-is_ce.value c.loop-extension-test.true w.in-Missing.is w.value-is c.loop-extension.invariant (c.is_ce.ensures.0 w.if-is_ce.true)
      | then-is_ce+in_default w ↦ told_more (under_ce c.args.n) c.args.extensions.now c.loop-extension.extension-index c.loop-extension.value c.if-is_ce.value c.loop-extension-test.true w.in_default.not-Missing w.value-is c.loop-extension.invariant (c.is_ce.ensures.0 w.if-is_ce.true)
      | else-is_ce w ↦ told_same (under_ce c.args.n) c.args.extensions.now c.loop-extension.extension-index c.loop-extension.value c.if-is_ce.value c.loop-extension-test.true w.value-is c.loop-extension.invariant (λ e. false≢true (sym w.if-is_ce.false ∙ c.is_ce.ensures.1 e))
    ]
