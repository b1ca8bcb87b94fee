use Rattle.std.proofs.Common.{◌≡◌, ◌∙◌, sym, ap, inl, inr, ◌<◌, ◌++◌, List, ℕ, arith}
use Rattle.std.proofs.lemmas.Result.{IfOk-weaker, IfErr-weaker}
use Rattle.der_tree.specs.Tree.{octets}
use Rattle.der_tree.specs.View.{view}
use Rattle.der_tree.proofs.Exits.{missing_weaker, front_whole}
use Rattle.asn1_any.specs.Reading.{ber_levels_at}
use Rattle.ber_tree.proofs.Told.{levels_read, end_told}
use Rattle.ber_tree.specs.Object.{end_tree}
use Rattle.ber_tree.proofs.Fronts.{tree_element, read_only, all_begins}
use Rattle.ber_tree.proofs.OneTree.{one_tree_lem}
use Rattle.ber_tree.proofs.read.parse_ber_recursive.Goals.{then-levels-gt0+in-None, else-levels-gt0}
use Rattle.ber_tree.proofs.read.parse_ber_recursive.Goals as goal

pub returns-in-Some-clause-only : goal.returns-in-Some-clause-only
returns-in-Some-clause-only c = λ t r is split.
    let k = c.args.levels in
    let end = c.in-Some.end in
    one_tree_lem k k (view end.1) t end.0.now r (inr (c.if-levels-gt0.true, c.in-Some.ensures.end.0)) is (ap (λ z. octets z ++ end.0.now) c.in-Some.ensures.end.0 ∙ sym c.in-Some.ensures.end.1 ∙ split)

pub returns-clause-missing : goal.returns-clause-missing
returns-clause-missing c =
    IfErr-weaker c.object_of.result _ _ (λ e missing. missing_weaker e c.args.i.now _ _ (tree_element c.args.levels) missing) c.object_of.ensures.missing

pub returns-clause-only : goal.returns-clause-only
returns-clause-only c = λ t r is split.
    let k = c.args.levels in
    let i = c.args.i.now in
    let no_end : 0 < k → (x : List ℕ) → i ≡ octets end_tree ++ x → ⊥ = elim c.if-levels-gt0.branch [
      | then-levels-gt0+in-None w ↦ λ lt x e. w.in-None.ensures.end x e
      | else-levels-gt0 w ↦ λ lt x e. let never = w.if-levels-gt0.false in omega (arith, lt, never)
    ] in
    read_only k i r t c.object_of.result (IfOk-weaker c.object_of.result _ _ (λ p found. (inl found.0, found.1)) c.object_of.ensures.found)
    (all_begins k i c.object_of.result c.object_of.ensures.none no_end) is split

pub returns-in-Some-clause-front : goal.returns-in-Some-clause-front
returns-in-Some-clause-front c =
    let k = c.args.levels in
    let i = c.args.i.now in
    let read = levels_read k i c.in-Some.end.0.now c.if-levels-gt0.true c.in-Some.ensures.end.1 in
    front_whole (ber_levels_at k i) read.0 _ read.1 tt

pub returns-in-Some-clause-lengths : goal.returns-in-Some-clause-lengths
returns-in-Some-clause-lengths c = end_told c.in-Some.end.1 c.in-Some.ensures.end.0 c.in-Some.ensures.lengths
