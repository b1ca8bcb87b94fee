-- Laws of the tables of answers over nodes.
use Rattle.std.specs.Prelude.{◌↔◌}
use Rattle.cert_graph.specs.declared.nodes.Nodes.{Nodes}
use Rattle.cert_graph.specs.declared.answer.Answer.{Answer}
use Rattle.cert_graph.specs.Laws.{Agrees}
use Rattle.cert_graph.specs.Nodes.{graph_of}
use Rattle.cert_search.specs.Exact.{HasExactRows, IsShort}

-- nodes that agree on each position have equal answers with exact rows, and equal short ones
abbrev pub LawAgreeingTables : Type 0
LawAgreeingTables = (nodes other : Nodes) → Agrees (graph_of nodes) (graph_of other)
    → (answer : Answer) → (HasExactRows (graph_of nodes) answer ↔ HasExactRows (graph_of other) answer) × (IsShort (graph_of nodes) answer ↔ IsShort (graph_of other) answer)
