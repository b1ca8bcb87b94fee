use Rattle.cert_judge.proofs.ExampleLaws.{one_voucher_more, not_before, vouched_now, path_by_both}
use Rattle.cert_judge.proofs.laws.example_of_more.Goals as goal

pub returns : goal.returns
returns c = record { premise = one_voucher_more; before = not_before; more = vouched_now; path = path_by_both }
