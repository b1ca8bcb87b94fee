use Rattle.std.proofs.Common.{codes}
use Rattle.certpath_evidence.proofs.Pieces.{none_begins}
use Rattle.certpath_evidence.proofs.reading.after_header.Goals as goal

pub returns-clause-none : goal.returns-clause-none
returns-clause-none c = none_begins (λ r. r.now) c.args.text.now (codes "certpath evidence 1\n") c.after_word.result c.after_word.ensures.only
