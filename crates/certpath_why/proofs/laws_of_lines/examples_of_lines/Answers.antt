use Rattle.certpath_why.proofs.WorkedLines.{expired_told, issuer_told, path_shown, target_untold, usable_untold}
use Rattle.certpath_why.proofs.laws_of_lines.examples_of_lines.Goals as goal

pub returns : goal.returns
returns c = record { usable = usable_untold; expired = expired_told; issuer = issuer_told; target = target_untold; path = path_shown }
