use Rattle.der_parser.proofs.Trees.{reads_once}
use Rattle.der_parser.proofs.laws.one_object.Goals as goal

pub returns : goal.returns
returns c = λ n octets xs ys t u p q. reads_once n octets xs ys t u p q
