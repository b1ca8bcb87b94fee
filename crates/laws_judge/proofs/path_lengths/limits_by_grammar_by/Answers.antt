use Rattle.cert_judge.specs.Items.{rules_at}
use Rattle.laws_judge.proofs.OfPathLengths.{adequate, adequate_inventory, first, none, true_answer, true_inventory, valid}
use Rattle.laws_judge.proofs.path_lengths.limits_by_grammar_by.Goals as goal

pub returns-clause-valid : goal.returns-clause-valid
returns-clause-valid g c = λ moment demand items anchors limit are target ps a. valid (rules_at moment demand (g.V.Vouch.vouches_for c.args._vouch.now)) items anchors limit are target ps a

pub returns-clause-first : goal.returns-clause-first
returns-clause-first g c = λ moment demand items anchors limit are target ps a. first (rules_at moment demand (g.V.Vouch.vouches_for c.args._vouch.now)) items anchors limit are target ps a

pub returns-clause-none : goal.returns-clause-none
returns-clause-none g c = λ moment demand items anchors limit are target. none (rules_at moment demand (g.V.Vouch.vouches_for c.args._vouch.now)) items anchors limit are target

pub returns-clause-answers : goal.returns-clause-answers
returns-clause-answers g c = λ moment demand items anchors limit are target answer. let r = rules_at moment demand (g.V.Vouch.vouches_for c.args._vouch.now) in (
  adequate r items anchors limit are target answer,
  true_answer r items anchors limit are target answer,
)

pub returns-clause-inventories : goal.returns-clause-inventories
returns-clause-inventories g c = λ moment demand items anchors limit are inventory. let r = rules_at moment demand (g.V.Vouch.vouches_for c.args._vouch.now) in (
  adequate_inventory r items anchors limit are inventory,
  true_inventory r items anchors limit are inventory,
)
