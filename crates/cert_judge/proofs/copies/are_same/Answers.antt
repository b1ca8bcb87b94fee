use Rattle.cert_judge.proofs.Copying.{texts_same}
use Rattle.cert_judge.proofs.copies.are_same.Goals as goal

pub returns : goal.returns
returns c = texts_same c.args.one.now c.args.other.now c.eq.result c.eq.ensures
