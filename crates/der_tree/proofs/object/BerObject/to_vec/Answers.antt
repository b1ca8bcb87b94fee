use Rattle.std.proofs.Common.{◌∙◌, ap, ◌++◌}
use Rattle.der_tree.specs.Encode.{encoded}
use Rattle.der_tree.specs.View.{view}
use Rattle.der_tree.proofs.Encoded.{encoded_same}
use Rattle.der_tree.proofs.object.BerObject.to_vec.Goals as goal

pub returns-in-Ok-clause-again : goal.returns-in-Ok-clause-again
returns-in-Ok-clause-again c = λ k p.
    c.in-Ok.ensures ∙ ap (λ z. z ++ encoded (view c.args.self.now)) c.new-out.ensures.items ∙ encoded_same (view c.args.self.now) k p
