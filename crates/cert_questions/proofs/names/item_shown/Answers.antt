use Rattle.cert_judge.specs.Items.{item_of}
use Rattle.cert_questions.proofs.names.item_shown.Goals as goal

pub returns : goal.returns
returns c = (item_of c.in_ok-item.item, c.in_ok-item.ensures.0, c.in_ok-item.ensures.1, c.shown_of.ensures)
