use Rattle.std.proofs.Common.{[], ◌∷◌, ◌++◌, string_bytes}
use Rattle.certpath_evidence.specs.Evidence.{row_line}
use Rattle.certpath_evidence.proofs.Pieces.{on_ok}
use Rattle.certpath_evidence.proofs.Written.{row_written, joined_two}
use Rattle.certpath_evidence.proofs.writing.write_row.Goals as goal

pub returns : goal.returns
returns c = on_ok c.write_changes.result _ _ (λ e. joined_two (string_bytes c.args.text.now) (row_line ++ 10 ∷ []) (string_bytes c.writeln.new.self) _ (string_bytes c.write_changes.new.text) _ c.in_ok-writeln.ensures.bytes e (row_written c.args.changes.now)) c.write_changes.ensures
