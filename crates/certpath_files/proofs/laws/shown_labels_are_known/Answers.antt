use Rattle.certpath_pem.specs.Blocks.{entries_of}
use Rattle.certpath_files.proofs.LawFacts.{entries_known}
use Rattle.certpath_files.proofs.laws.shown_labels_are_known.Goals as goal

pub returns : goal.returns
returns c = λ text. entries_known (entries_of text)
