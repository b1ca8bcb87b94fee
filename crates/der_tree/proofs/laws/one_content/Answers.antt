use Rattle.der_tree.proofs.OneTree.{same_content}
use Rattle.der_tree.proofs.laws.one_content.Goals as goal

pub returns : goal.returns
returns d = λ k j e c f p q. same_content c f k j e p q
