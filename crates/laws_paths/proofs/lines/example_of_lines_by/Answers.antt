use Rattle.std.proofs.Common.{refl}
use Rattle.laws_paths.proofs.OfLines.{anchor_there, answered, decided, issuer_there, no_line}
use Rattle.laws_paths.proofs.lines.example_of_lines_by.Goals as goal

pub returns-clause-usable : goal.returns-clause-usable
returns-clause-usable c = (decided, no_line)

pub returns-clause-item : goal.returns-clause-item
returns-clause-item c = (decided, refl, issuer_there)

pub returns-clause-anchor : goal.returns-clause-anchor
returns-clause-anchor c = (decided, refl, anchor_there)

pub returns-clause-lines : goal.returns-clause-lines
returns-clause-lines c = decided

pub returns-clause-exactly : goal.returns-clause-exactly
returns-clause-exactly c = (decided, answered c.args.alloc)
