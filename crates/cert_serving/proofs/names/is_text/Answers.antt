use Rattle.cert_serving.proofs.Choices.{ascii_decides}
use Rattle.cert_serving.proofs.names.is_text.Goals as goal

pub returns : goal.returns
returns c = ascii_decides c.is_ascii.result c.args.content.now c.is_ascii.ensures.cases
