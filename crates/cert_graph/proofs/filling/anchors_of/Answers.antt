-- One anchor more, of one group or of none.
use Rattle.std.proofs.Common.{◌≡◌, ℕ, ◌+◌, Option, length, map, get_or, Vec, Global, None, arith, sym, subst}
use Rattle.std.proofs.lemmas.List.{get_or_default}
use Rattle.cert_graph.specs.Lists.{AreFilled}
use Rattle.cert_graph.specs.Entries.{AnchorIn}
use Rattle.cert_graph.proofs.Filled.{filled_none, filled_put, filled_weaker}
use Rattle.cert_graph.proofs.EntryFacts.{some_step, none_step}
use Rattle.cert_graph.proofs.filling.anchors_of.Goals as goal
use Rattle.cert_graph.proofs.filling.anchors_of.Goals.{in-Some+in_ok-put, in_default}

pub loop-position-init : goal.loop-position-init
loop-position-init c = filled_none (AnchorIn c.args.anchors.now) c.args.groups c.in_ok-lists.lists.items c.in_ok-lists.ensures.count c.in_ok-lists.ensures.empty

pub loop-position-preserved : goal.loop-position-preserved
loop-position-preserved c =
    let anchors = c.args.anchors.now in
    let v = c.loop-position.position in
    let anchor = get_or anchors v None in
    let is = get_or_default anchors v None anchor c.loop-position-test.true in
    let old = map (λ (l : Vec ℕ Global). l.items) c.loop-position.lists.items in
    elim c.match-anchor.branch [
      | in-Some+in_ok-put w ↦
          subst (λ (ls : Vec (Vec ℕ Global) Global). AreFilled (AnchorIn anchors) c.args.groups (v + 1) (map (λ (l : Vec ℕ Global). l.items) ls.items)) (sym w.lists-is)
          (filled_put (AnchorIn anchors) (AnchorIn anchors) c.args.groups v v w.in-Some.group old (map (λ (l : Vec ℕ Global). l.items) w.put.new.lists.items) (omega arith) c.loop-position.invariant w.in_ok-put.ensures
          (λ u k small here. some_step (λ (x : Option ℕ). x) anchors v anchor w.in-Some.group c.loop-position-test.true is w.in-Some.is u k small))
      | in_default w ↦
          subst (λ (ls : Vec (Vec ℕ Global) Global). AreFilled (AnchorIn anchors) c.args.groups (v + 1) (map (λ (l : Vec ℕ Global). l.items) ls.items)) (sym w.lists-is)
          (filled_weaker (AnchorIn anchors) (AnchorIn anchors) c.args.groups v (v + 1) old (omega arith) c.loop-position.invariant
          (λ u k small here. none_step (λ (x : Option ℕ). x) anchors v anchor is w.in_default.is u k small))
    ]

pub returns : goal.returns
returns c =
    let all : c.loop-position.position ≡ length c.args.anchors.now = omega arith in
    subst (λ (n : ℕ). AreFilled (AnchorIn c.args.anchors.now) c.args.groups n (map (λ (l : Vec ℕ Global). l.items) c.loop-position.lists.items)) all c.loop-position.invariant
