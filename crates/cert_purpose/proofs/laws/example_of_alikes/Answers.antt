use Rattle.cert_purpose.proofs.Worked.{alike_apart, not_before, vouched_beyond}
use Rattle.cert_purpose.proofs.laws.example_of_alikes.Goals as goal

pub returns : goal.returns
returns c = record { premise = alike_apart; before = not_before; beyond = vouched_beyond }
