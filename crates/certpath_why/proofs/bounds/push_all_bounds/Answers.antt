use Rattle.certpath_why.specs.Lines.{reach_lines}
use Rattle.certpath_why.specs.Bounds.{reach_by}
use Rattle.certpath_why.proofs.Texts.{lines_none, lines_more, lines_all}
use Rattle.certpath_why.proofs.bounds.push_all_bounds.Goals as goal

pub loop-place-init : goal.loop-place-init
loop-place-init c = lines_none (λ v. reach_lines v (reach_by c.args.answer.now v)) c.args.places.now _

pub loop-place-preserved : goal.loop-place-preserved
loop-place-preserved c = lines_more (λ v. reach_lines v (reach_by c.args.answer.now v)) c.args.places.now c.loop-place.place-index _ _ _ _ c.loop-place-test.true c.loop-place.invariant (rw c.reach_in.ensures at c.in_ok-push_reach.ensures)

pub returns : goal.returns
returns c = lines_all (λ v. reach_lines v (reach_by c.args.answer.now v)) c.args.places.now c.loop-place.place-index _ _ c.loop-place-test.false c.loop-place.invariant
