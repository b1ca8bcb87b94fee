use Rattle.std.proofs.Common.{◌∙◌, ap, [], ◌∷◌}
use Rattle.asn1_core.specs.Views.{length_of}
use Rattle.ber_tree.proofs.Told.{in_end}
use Rattle.ber_tree.proofs.read.end_of_content.Goals as goal

pub returns-in-0-clause-lengths : goal.returns-in-0-clause-lengths
returns-in-0-clause-lengths c = c.object_with.ensures.lengths ∙ ap (λ z. length_of c.new-header.result ∷ z) in_end ∙ ap (λ z. z ∷ []) c.new-header.ensures.length
