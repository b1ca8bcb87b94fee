-- Exact rows and short paths are those of each graph that agrees.
use Rattle.std.specs.Prelude.{◌↔◌}
use Rattle.std.proofs.Common.{ℕ, ◌<◌, List, length, subst}
use Rattle.cert_graph.specs.declared.reach.Reach.{Reach}
use Rattle.cert_graph.specs.declared.answer.Answer.{Answer}
use Rattle.cert_graph.specs.declared.answer.Answer.TheVariants.{Path, NoPath, NoTarget}
use Rattle.cert_graph.specs.Graph.{Graph, IsReached}
use Rattle.cert_graph.specs.Laws.{Agrees}
use Rattle.cert_graph.specs.Steps.{Tail}
use Rattle.cert_graph.specs.Adequate.{rows_of, row_of}
use Rattle.cert_graph.proofs.Tails.{tail_from_chain, chain_of_tail}
use Rattle.cert_graph.proofs.PathLaws.{tail_carried, map_same}
use Rattle.cert_graph.proofs.Agreeing.{agreed_carries, agreed_back}
use Rattle.cert_search.specs.Exact.{HoldsExactly, HoldsAll, HoldsNoElsewhere, HasExactRows, IsShort}

-- who is reached in one graph is reached in the other
pub reached_same : (g h : Graph) → Agrees g h → (n v c : ℕ) → IsReached g n v c → IsReached h n v c
reached_same g h e n v c r =
    let t = tail_carried (λ x. x) g h (agreed_carries g h e) c v r.0 r.1 (tail_from_chain g c v r.0 r.1 r.3) in
    (r.0, r.1, r.2, chain_of_tail h c v r.0 r.1 (subst (λ qs. Tail h c v qs r.1) (map_same r.0) t))

pub exact_same : (g h : Graph) → Agrees g h → (n : ℕ) (row : List Reach) → HoldsExactly g n row → HoldsExactly h n row
exact_same g h e n row k v c = (λ t. reached_same g h e n v c ((k v c).0 t), λ r. (k v c).1 (reached_same h g (agreed_back g h e) n v c r))

pub all_same : (g h : Graph) → Agrees g h → (row : List Reach) → HoldsAll g row → HoldsAll h row
all_same g h e row k v c = (
  λ t. let x = (k v c).0 t in (x.0, reached_same g h e x.0 v c x.1),
  λ r. (k v c).1 (r.0, reached_same h g (agreed_back g h e) r.0 v c r.1),
)

pub elsewhere_same : (g h : Graph) → Agrees g h → (row : List Reach) → HoldsNoElsewhere g row → HoldsNoElsewhere h row
elsewhere_same g h e row k v not = k v (λ fit. not ((e.fit v).0 fit))

pub exact_rows_same : (g h : Graph) → Agrees g h → (answer : Answer) → HasExactRows g answer → HasExactRows h answer
exact_rows_same g h e (Path ps a table) k = λ i lt. let x = k i lt in (exact_same g h e _ (row_of (rows_of table) i) x.0, elsewhere_same g h e (row_of (rows_of table) i) x.1)
exact_rows_same g h e (NoPath table) k = λ i lt. let x = k i lt in (all_same g h e (row_of (rows_of table) i) x.0, elsewhere_same g h e (row_of (rows_of table) i) x.1)
exact_rows_same g h e NoTarget k = tt

pub short_same : (g h : Graph) → Agrees g h → (answer : Answer) → IsShort g answer → IsShort h answer
short_same g h e (Path ps a table) k = (k.0, subst (λ n. length (rows_of table) < n) e.items k.1)
short_same g h e (NoPath table) k = tt
short_same g h e NoTarget k = tt

-- both ways
pub agreed_exact : (g h : Graph) → Agrees g h → (answer : Answer) → HasExactRows g answer ↔ HasExactRows h answer
agreed_exact g h e answer = (λ k. exact_rows_same g h e answer k, λ k. exact_rows_same h g (agreed_back g h e) answer k)

pub agreed_short : (g h : Graph) → Agrees g h → (answer : Answer) → IsShort g answer ↔ IsShort h answer
agreed_short g h e answer = (λ k. short_same g h e answer k, λ k. short_same h g (agreed_back g h e) answer k)
