use Rattle.std.proofs.Common.{◌∙◌, sym}
use Rattle.ber_tree.proofs.TimeLaws.{generalized_found, generalized_again}
use Rattle.ber_tree.proofs.times.is_ber_generalized_time.Goals as goal

pub returns : goal.returns
returns c = (
  λ t. generalized_found c.args.content.now (sym c.is_generalized.ensures ∙ t),
  λ p. c.is_generalized.ensures ∙ generalized_again c.args.content.now p,
)
