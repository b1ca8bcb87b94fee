use Rattle.cert_judge.specs.Items.{rules_by}
use Rattle.certpath_why.specs.Question.{items_in}
use Rattle.certpath_why.specs.Bounds.{reach_by}
use Rattle.certpath_why.proofs.Items.{positions_as}
use Rattle.certpath_why.proofs.Bounding.{bound_iff}
use Rattle.certpath_why.proofs.bounds.bound_among.Goals as goal

pub returns : goal.returns
returns g c =
    positions_as c.in_ok-bound.bound.items (bound_iff (rules_by c.args.question.now.policy.now.moment c.args.question.now.policy.now.demand_lists (g.S.Vouch.vouches_for c.args.search.now)) (items_in c.args.question.now) c.args.question.now.target (reach_by c.args.answer.now) c.in_ok-marks.marks.items c.args.further.now c.requires.further c.in_ok-marks.ensures)
    (rw c.deref.ensures.value at c.in_ok-bound.ensures)
