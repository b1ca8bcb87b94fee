-- Answers on octets: what they say of the graph of the classed items.
use Rattle.std.specs.Prelude.{ℕ, List, All}
use Rattle.cert_graph.specs.declared.answer.Answer.{Answer}
use Rattle.cert_graph.specs.declared.answer.Answer.TheVariants.{Path, NoPath, NoTarget}
use Rattle.cert_graph.specs.Graph.{Graph}
use Rattle.cert_graph.specs.Adequate.{IsAdequate, IsTrueAnswer}
use Rattle.cert_graph.specs.Entries.{IsAt}
use Rattle.cert_model.specs.Fields.{Certificate}
use Rattle.cert_model.specs.Class.{IsCertificateItem}
use Rattle.cert_search.specs.Exact.{HasExactRows, IsShort}
use Rattle.cert_judge.specs.Revoking.{Item, JudgingContext}
use Rattle.cert_judge.specs.Classed.{AreClassed}
use Rattle.cert_judge.specs.ItemGraph.{graph_of_items}

-- the graph of these items and anchors, by their classes, has a property
abbrev pub HoldsOfItems : JudgingContext → List (List ℕ) → List (List ℕ) → (Graph → Type 0) → Type 0
HoldsOfItems r items anchors P =
    (classed classed_anchors : List Item) × AreClassed items classed × AreClassed anchors classed_anchors × P (graph_of_items r classed classed_anchors)

-- an answer that a search found: adequate, so true; its rows are exact, and its path is short
pub record IsFound (g : Graph) (target : ℕ) (answer : Answer) : Type 0 where
  pub adequate : IsAdequate g target answer
  pub holds : IsTrueAnswer g target answer
  pub exact : HasExactRows g answer
  pub short : IsShort g answer

-- each position of a path names an item that is a certificate in its one spelling
abbrev pub NamesCertificates : List (List ℕ) → Answer → Type 0
NamesCertificates items (Path ps a table) = All (λ p. IsAt items p (λ octets. (c : Certificate) × IsCertificateItem octets c)) ps.items
NamesCertificates items (NoPath table) = Unit {0}
NamesCertificates items NoTarget = Unit {0}
