use Rattle.der_parser.proofs.Strict.{object_is_read}
use Rattle.der_parser.proofs.laws.strict_object.Goals as goal

pub returns : goal.returns
returns c = object_is_read
