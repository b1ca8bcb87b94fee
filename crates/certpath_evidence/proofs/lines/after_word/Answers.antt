use Rattle.certpath_evidence.proofs.Pieces.{stripped, stripped_only}
use Rattle.certpath_evidence.proofs.lines.after_word.Goals as goal

pub returns-clause-found : goal.returns-clause-found
returns-clause-found c = stripped (λ r. r.now) c.args.text.now c.args.word.now c.strip_prefix.result c.strip_prefix.ensures.cases

pub returns-clause-only : goal.returns-clause-only
returns-clause-only c = stripped_only (λ r. r.now) c.args.text.now c.args.word.now c.strip_prefix.result c.strip_prefix.ensures.cases
