use Rattle.std.proofs.Common.{refl, inr, lit<, option_map}
use Rattle.x509_names.specs.Reading.{algorithm_at}
use Rattle.x509_names.specs.View.{algorithm_view}
use Rattle.x509_algorithms.specs.Answers.{HasPartBelow, WantsFor}
use Rattle.x509_algorithms.proofs.AnswerLaws.{passed_on, none_wanted}
use Rattle.x509_algorithms.proofs.WantLaws.{part_or_all, part_wants}
use Rattle.x509_algorithms.proofs.pss.parts.Goals as goal

pub returns-in_err-i-clause-memory : goal.returns-in_err-i-clause-memory
returns-in_err-i-clause-memory c =
    let i = c.args.i.now in
    let e = c.in_err-i.field-0.0 in
    passed_on c.from_residual.result e (WantsFor (HasPartBelow 2 i)) c.from_residual.ensures.1 (part_wants 2 0 i i e (lit< tt) (inr refl) c.in_err-i.ensures.memory)

pub returns-in_err-i-2-clause-memory : goal.returns-in_err-i-2-clause-memory
returns-in_err-i-2-clause-memory c =
    let i = c.args.i.now in
    let e = c.in_err-i-2.field-0.0 in
    let hash = part_or_all 2 0 algorithm_at i i c.in_ok-i.i.now (option_map algorithm_view c.in_ok-i.hash_alg) (lit< tt) (inr refl) c.in_ok-i.ensures.read in
    passed_on c.from_residual-in_err-i-2.result e (WantsFor (HasPartBelow 2 i)) c.from_residual-in_err-i-2.ensures.1
    (part_wants 2 1 i c.in_ok-i.i.now e (lit< tt) hash c.in_err-i-2.ensures.memory)

pub returns-in_err-i-3-clause-memory : goal.returns-in_err-i-3-clause-memory
returns-in_err-i-3-clause-memory c =
    let i = c.args.i.now in
    let e = c.in_err-i-3.field-0.0 in
    passed_on c.from_residual-in_err-i-3.result e (WantsFor (HasPartBelow 2 i)) c.from_residual-in_err-i-3.ensures.1 (none_wanted (HasPartBelow 2 i) e c.in_err-i-3.ensures.memory)

pub returns-in_err-i-4-clause-memory : goal.returns-in_err-i-4-clause-memory
returns-in_err-i-4-clause-memory c =
    let i = c.args.i.now in
    let e = c.in_err-i-4.field-0.0 in
    passed_on c.from_residual-in_err-i-4.result e (WantsFor (HasPartBelow 2 i)) c.from_residual-in_err-i-4.ensures.1 (none_wanted (HasPartBelow 2 i) e c.in_err-i-4.ensures.memory)
