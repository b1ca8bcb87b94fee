-- Laws of the answers and paths over nodes.
use Rattle.std.specs.Prelude.{◌≡◌, ℕ, ◌≤◌, List, ◌++◌, length, map, ◌↔◌}
use Rattle.cert_graph.specs.declared.nodes.Node.{Node}
use Rattle.cert_graph.specs.declared.nodes.Nodes.{Nodes}
use Rattle.cert_graph.specs.declared.answer.Answer.{Answer}
use Rattle.cert_graph.specs.declared.answer.Answer.TheVariants.{Path, NoPath, NoTarget}
use Rattle.cert_graph.specs.Graph.{IsValidPath, IsFirstPath, HasNoPath}
use Rattle.cert_graph.specs.Adequate.{IsAdequate, IsTrueAnswer}
use Rattle.cert_graph.specs.Laws.{NamesNoneTwice, Carries, Agrees}
use Rattle.cert_graph.specs.Nodes.{Links, LinksToAnchor, graph_of}

abbrev pub LawAdequateIsTrue : Type 0
LawAdequateIsTrue = (nodes : Nodes) (target : ℕ) (answer : Answer) → IsAdequate (graph_of nodes) target answer → IsTrueAnswer (graph_of nodes) target answer

-- two answers agree, whatever their tables hold
abbrev pub SayTheSame : Answer → Answer → Type 0
SayTheSame (Path ps a table) (Path qs b other) = (ps.items ≡ qs.items) × (a ≡ b)
SayTheSame (Path ps a table) (NoPath other) = ⊥
SayTheSame (Path ps a table) NoTarget = ⊥
SayTheSame (NoPath table) (Path qs b other) = ⊥
SayTheSame (NoPath table) (NoPath other) = Unit {0}
SayTheSame (NoPath table) NoTarget = ⊥
SayTheSame NoTarget (Path qs b other) = ⊥
SayTheSame NoTarget (NoPath other) = ⊥
SayTheSame NoTarget NoTarget = Unit {0}

abbrev pub LawOneTrueAnswer : Type 0
LawOneTrueAnswer = (nodes : Nodes) (target : ℕ) (answer other : Answer) → IsTrueAnswer (graph_of nodes) target answer → IsTrueAnswer (graph_of nodes) target other → SayTheSame answer other

abbrev pub LawFirstNamesNoneTwice : Type 0
LawFirstNamesNoneTwice = (nodes : Nodes) (target : ℕ) (ps : List ℕ) (a : ℕ) → IsFirstPath (graph_of nodes) target ps a → NamesNoneTwice ps

-- Whatever leads from a target leads, as well and as far, from another target elsewhere.
pub record LeadsAsWell (nodes other : Nodes) (target there : ℕ) : Type 0 where
  pub none : HasNoPath (graph_of other) there → HasNoPath (graph_of nodes) target
  pub least : (ps qs : List ℕ) (a b : ℕ) → IsFirstPath (graph_of nodes) target ps a → IsFirstPath (graph_of other) there qs b → length qs ≤ length ps

-- positions that may do there all that they may here take every path along
abbrev pub LawCarriedPaths : Type 0
LawCarriedPaths = (f : ℕ → ℕ) (nodes other : Nodes) → Carries f (graph_of nodes) (graph_of other)
    → (target : ℕ) → ((ps : List ℕ) (a : ℕ) → IsValidPath (graph_of nodes) target ps a → IsValidPath (graph_of other) (f target) (map f ps) a) × LeadsAsWell nodes other target (f target)

-- Further items after the last: what was there stays, with its links to fit issuers and to anchors.
pub record HasFurther (nodes further : Nodes) : Type 0 where
  pub more : List Node
  pub items : further.items.items ≡ nodes.items.items ++ more
  pub links : (v w : ℕ) → (graph_of nodes).Fit w → Links nodes v w → Links further v w
  pub anchored : (v a : ℕ) → LinksToAnchor nodes v a → LinksToAnchor further v a

-- further certificates take no path away, and make no least path longer
abbrev pub LawFurtherNodes : Type 0
LawFurtherNodes = (nodes further : Nodes) → HasFurther nodes further
    → (target : ℕ) → ((ps : List ℕ) (a : ℕ) → IsValidPath (graph_of nodes) target ps a → IsValidPath (graph_of further) target ps a) × LeadsAsWell nodes further target target

-- nodes in another order, with the target where it went, lead as well and as far
abbrev pub LawReorderedNodes : Type 0
LawReorderedNodes = (f back : ℕ → ℕ) (nodes other : Nodes) → Carries f (graph_of nodes) (graph_of other) → Carries back (graph_of other) (graph_of nodes)
    → (target : ℕ) → back (f target) ≡ target → LeadsAsWell nodes other target (f target) × LeadsAsWell other nodes (f target) target

-- nodes that agree on each position have equal adequate answers, and equal true ones
abbrev pub LawAgreeingNodes : Type 0
LawAgreeingNodes = (nodes other : Nodes) → Agrees (graph_of nodes) (graph_of other)
    → (target : ℕ) (answer : Answer) → (IsAdequate (graph_of nodes) target answer ↔ IsAdequate (graph_of other) target answer) × (IsTrueAnswer (graph_of nodes) target answer ↔ IsTrueAnswer (graph_of other) target answer)
