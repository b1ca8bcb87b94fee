use Rattle.certpath_c.specs.Answers.{FitsReach}
use Rattle.certpath_c.proofs.EntriesSoFar.{one_more, all_of, numbers_more}
use Rattle.certpath_c.proofs.answers.push_row.Goals as goal

pub loop-reach-preserved : goal.loop-reach-preserved
loop-reach-preserved c =
    let pushed = rw c.reach_number.ensures.number at c.in_ok-push.ensures.items in
    record {
      pushed = numbers_more c.args.row.now _ c.loop-reach.entries.items _ c.loop-reach.reach-index _ c.loop-reach-test.true pushed c.loop-reach.invariant.pushed;
      fit = one_more FitsReach c.args.row.now c.loop-reach.reach-index _ c.loop-reach-test.true c.reach_number.ensures.fits c.loop-reach.invariant.fit;
    }

pub returns-clause-fits : goal.returns-clause-fits
returns-clause-fits c = all_of FitsReach c.args.row.now c.loop-reach.reach-index c.loop-reach-test.false c.loop-reach.invariant.fit
