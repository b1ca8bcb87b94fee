use Rattle.std.proofs.Common.{◌∙◌}
use Rattle.asn1_traits.proofs.Digits.{whole_length}
use Rattle.asn1_traits.proofs.integer.AnyDerLeaf.leaf_len.Goals as goal

pub returns : goal.returns
returns g c = c.positive_len.ensures ∙ whole_length c.to_whole.result.negative c.to_whole.result.size (g.T.DerInteger.number c.args.self.now) c.to_whole.ensures.number
