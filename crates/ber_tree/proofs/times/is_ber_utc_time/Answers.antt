use Rattle.std.proofs.Common.{◌∙◌, sym}
use Rattle.ber_tree.proofs.TimeLaws.{utc_found, utc_again}
use Rattle.ber_tree.proofs.times.is_ber_utc_time.Goals as goal

pub returns : goal.returns
returns c = (λ t. utc_found c.args.content.now (sym c.is_utc.ensures ∙ t), λ p. c.is_utc.ensures ∙ utc_again c.args.content.now p)
