use Rattle.std.proofs.Common.{refl}
use Rattle.certpath_why.proofs.Joined.{then_appended, then_joined}
use Rattle.certpath_why.proofs.Writing.{none_written}
use Rattle.certpath_why.proofs.why.tell_reached.Goals as goal

pub tell_target-requires-clause-written : goal.tell_target-requires-clause-written
tell_target-requires-clause-written g c = none_written g.V.Vouch c.args.question.now c.new-written.result c.new-written.ensures

pub returns : goal.returns
returns g c =
    let a = c.in_ok-tell_target.ensures.text in
    let b = c.in_ok-tell_further.ensures.text in (
      _,
      then_joined _ a.0 b.0 _ _ _ (rw c.deref.ensures.value at c.in_ok-push_all_bounds.ensures) (then_appended _ a.0 b.0 _ _ b.1 a.1),
      record {
        further = c.args.further.now;
        further_are = c.requires.further;
        own = a.0;
        own_is = a.2;
        rest = b.0;
        rest_is = b.2;
        bound = c.in_ok-bound.bound.items;
        bound_are = c.in_ok-bound.ensures;
        text_is = refl;
      },
    )

pub tell_target-requires-clause-reached : goal.tell_target-requires-clause-reached
tell_target-requires-clause-reached g c = c.requires.reached.target

pub tell_further-requires-clause-reached : goal.tell_further-requires-clause-reached
tell_further-requires-clause-reached g c = c.requires.reached.further

pub bound_among-requires-clause-reached : goal.bound_among-requires-clause-reached
bound_among-requires-clause-reached g c = c.requires.reached.further
