use Rattle.std.proofs.Common.{refl}
use Rattle.laws_paths.proofs.OfWhy.{linked, none_fails, subject}
use Rattle.laws_paths.proofs.why.example_of_links.Goals as goal

pub returns-clause-linked : goal.returns-clause-linked
returns-clause-linked c = (refl, linked)

pub returns-clause-unlinked : goal.returns-clause-unlinked
returns-clause-unlinked c = (refl, subject, none_fails)
