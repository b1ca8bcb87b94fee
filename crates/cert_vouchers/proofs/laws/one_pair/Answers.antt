use Rattle.cert_vouchers.proofs.PairFacts as facts
use Rattle.cert_vouchers.proofs.laws.one_pair.Goals as goal

pub returns : goal.returns
returns c = facts.one_pair
