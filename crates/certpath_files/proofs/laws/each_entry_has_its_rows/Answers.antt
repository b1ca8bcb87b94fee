use Rattle.certpath_files.proofs.LawFacts.{lines_at}
use Rattle.certpath_files.proofs.SomeFacts.{entry_some}
use Rattle.certpath_files.proofs.laws.each_entry_has_its_rows.Goals as goal

pub returns : goal.returns
returns c = λ entry. record { some = entry_some entry; lines = lines_at entry }
