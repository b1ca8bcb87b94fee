use Rattle.cert_serving.specs.Refusing.{are_permitted}
use Rattle.cert_serving.proofs.Paths.{those_permitted}
use Rattle.cert_serving.proofs.laws.permits_those.Goals as goal

pub returns : goal.returns
returns c = λ d octets items h k. those_permitted d octets items (are_permitted c.args._permits.now) h k
