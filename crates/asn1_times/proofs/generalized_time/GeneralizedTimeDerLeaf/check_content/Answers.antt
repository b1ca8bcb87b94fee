use Rattle.std.proofs.Common.{◌≡◌, ◌∙◌, ap, ◌++◌, ◌∷◌, []}
use Rattle.asn1_times.specs.ReaderLaws.{der_check_only, der_check_short, der_check_other, der_check_none}
use Rattle.asn1_times.proofs.generalized_time.GeneralizedTimeDerLeaf.check_content.Goals.{in_default-via-in-Some+else-end-eq90, in_default-via-in_default}
use Rattle.asn1_times.proofs.generalized_time.GeneralizedTimeDerLeaf.check_content.Goals as goal
use Rattle.std.proofs.Common.{sym}

pub returns-then-front-ge14-clause-exact : goal.returns-then-front-ge14-clause-exact
returns-then-front-ge14-clause-exact c =
    let whole : c.args.octets.now ≡ c.in-Some.front.now ++ 90 ∷ [] = c.in-Some.ensures.cases.0 ∙ ap (λ x. c.in-Some.front.now ++ x ∷ []) c.if-end-eq90.true in
    sym (der_check_only c.args.octets.now (record { front = c.in-Some.front.now; seconds = c.if-front-ge14.true; octets = whole }))

pub returns-else-front-ge14-clause-exact : goal.returns-else-front-ge14-clause-exact
returns-else-front-ge14-clause-exact c =
    let whole : c.args.octets.now ≡ c.in-Some.front.now ++ 90 ∷ [] = c.in-Some.ensures.cases.0 ∙ ap (λ x. c.in-Some.front.now ++ x ∷ []) c.if-end-eq90.true in
    sym (der_check_short c.args.octets.now c.in-Some.front.now whole c.if-front-ge14.false)

pub returns-in_default-clause-exact : goal.returns-in_default-clause-exact
returns-in_default-clause-exact c = elim c.in_default.branch [
  | in_default-via-in-Some+else-end-eq90 w ↦ sym (der_check_other c.args.octets.now w.in-Some.front.now w.in-Some.end.now w.in-Some.ensures.cases.0 w.if-end-eq90.false)
  | in_default-via-in_default w ↦ sym (der_check_none c.args.octets.now w.in_default.ensures.cases)
]
