use Rattle.certpath_evidence.proofs.Written.{position_pushed, positions_pushed}
use Rattle.certpath_evidence.proofs.writing.write_positions.Goals as goal

pub loop-position-preserved : goal.loop-position-preserved
loop-position-preserved c = position_pushed c.args.positions.now c.loop-position.position-index _ _ _ _ c.loop-position-test.true c.loop-position.invariant c.in_ok-write.ensures.bytes

pub returns : goal.returns
returns c = positions_pushed c.args.positions.now c.loop-position.position-index _ _ c.loop-position-test.false c.loop-position.invariant
