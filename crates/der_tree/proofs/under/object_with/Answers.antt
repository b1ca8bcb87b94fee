use Rattle.std.proofs.Common.{◌∙◌, ap, Bor, List, ◌∷◌, ℕ}
use Rattle.asn1_core.specs.Views.{head_of, length_of}
use Rattle.der_tree.specs.Lengths.{lengths_within}
use Rattle.der_tree.specs.Tree.{node}
use Rattle.der_tree.specs.View.{content_view}
use Rattle.der_tree.proofs.Told.{in_object}
use Rattle.der_tree.proofs.Views.{at_object}
use Rattle.der_tree.proofs.under.object_with.Goals as goal

pub returns-clause-tree : goal.returns-clause-tree
returns-clause-tree c =
    let o = c.new.result in
    at_object o ∙ ap (λ h. node h o.raw.now (content_view o.content)) (ap head_of c.new.ensures.header)
    ∙ ap (λ (s : Bor (List ℕ)). node (head_of c.args.header) s.now (content_view o.content)) c.new.ensures.raw
    ∙ ap (λ z. node (head_of c.args.header) c.args.raw.now (content_view z)) c.new.ensures.content

pub returns-clause-lengths : goal.returns-clause-lengths
returns-clause-lengths c =
    let o = c.new.result in
    in_object o ∙ ap (λ h. length_of h ∷ lengths_within o.content) c.new.ensures.header ∙ ap (λ z. length_of c.args.header ∷ lengths_within z) c.new.ensures.content
