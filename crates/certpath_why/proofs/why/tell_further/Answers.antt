use Rattle.std.proofs.Common.{get_or}
use Rattle.std.proofs.lemmas.List.Elements.{Contains-get_or}
use Rattle.certpath_why.specs.Question.{anchors_in, items_in, rules_in}
use Rattle.certpath_why.specs.Why.{TellsAt}
use Rattle.certpath_why.proofs.Texts.{texts_none, texts_more, texts_all}
use Rattle.certpath_why.proofs.Spreading.{further_certificate}
use Rattle.certpath_why.proofs.why.tell_further.Goals as goal

pub tell_at-requires-clause-certificate : goal.tell_at-requires-clause-certificate
tell_at-requires-clause-certificate g c =
    let v = get_or c.args.further.now c.loop-place.place-index 0 in
    further_certificate (items_in c.args.question.now) c.args.question.now.target v ((c.requires.further.exact v).0 (Contains-get_or c.args.further.now c.loop-place.place-index 0 c.loop-place-test.true))

pub loop-place-init : goal.loop-place-init
loop-place-init g c = (c.requires.written, texts_none (TellsAt c.args.question.now.sought.demand.now (rules_in g.V.Vouch c.args.question.now) (items_in c.args.question.now) (anchors_in c.args.question.now) c.args.question.now.target) c.args.further.now _)

pub loop-place-preserved : goal.loop-place-preserved
loop-place-preserved g c = (c.in_ok-tell_at.ensures.written, texts_more (TellsAt c.args.question.now.sought.demand.now (rules_in g.V.Vouch c.args.question.now) (items_in c.args.question.now) (anchors_in c.args.question.now) c.args.question.now.target) c.args.further.now c.loop-place.place-index 0 _ _ _ c.loop-place-test.true c.loop-place.invariant.1 c.in_ok-tell_at.ensures.text)

pub returns-clause-written : goal.returns-clause-written
returns-clause-written g c = c.loop-place.invariant.0

pub returns-clause-text : goal.returns-clause-text
returns-clause-text g c = texts_all (TellsAt c.args.question.now.sought.demand.now (rules_in g.V.Vouch c.args.question.now) (items_in c.args.question.now) (anchors_in c.args.question.now) c.args.question.now.target) c.args.further.now c.loop-place.place-index _ _ c.loop-place-test.false c.loop-place.invariant.1

pub tell_at-requires-clause-number : goal.tell_at-requires-clause-number
tell_at-requires-clause-number g c = c.requires.reached _ (Contains-get_or c.args.further.now c.loop-place.place-index 0 c.loop-place-test.true)
