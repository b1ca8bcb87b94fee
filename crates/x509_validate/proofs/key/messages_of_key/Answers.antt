use Rattle.std.proofs.Common.{arith, subst}
use Rattle.std.specs.Int.Digits.{AllBelowBase}
use Rattle.asn1_core.proofs.Numbers.{octets_below}
use Rattle.x509_names.specs.View.{key_view}
use Rattle.x509_validate.proofs.KeyFacts.{are_messages}
use Rattle.x509_validate.proofs.key.messages_of_key.Goals as goal

pub returns : goal.returns
returns c = are_messages (key_view c.args.key.now) (subst (AllBelowBase 256) c.requires (octets_below c.args.octets.now (λ k. omega (arith, c.type_inv.octets k))))
