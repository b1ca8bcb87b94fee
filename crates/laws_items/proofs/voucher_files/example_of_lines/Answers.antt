use Rattle.laws_items.proofs.OfVoucherFiles.{answer, bad, lines, pair, well}
use Rattle.laws_items.proofs.voucher_files.example_of_lines.Goals as goal

pub returns-clause-lines : goal.returns-clause-lines
returns-clause-lines c = lines

pub returns-clause-pair : goal.returns-clause-pair
returns-clause-pair c = pair

pub returns-clause-well : goal.returns-clause-well
returns-clause-well c = well

pub returns-clause-bad : goal.returns-clause-bad
returns-clause-bad c = bad

pub returns-clause-answer : goal.returns-clause-answer
returns-clause-answer c = answer
