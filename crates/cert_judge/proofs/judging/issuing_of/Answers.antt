use Rattle.cert_model.specs.Extended.{SomeUnder}
use Rattle.cert_judge.proofs.judging.issuing_of.Goals as goal

pub returns-clause-found : goal.returns-clause-found
unfolding SomeUnder
returns-clause-found c =
    let s = c.in_ok-limit.ensures.found in (
      record {
        authority = (s.0, s.1, s.2, (s.3.0, s.3.1, s.3.2));
        signer = c.are_signers.ensures.0 c.if-not-are_signers.false;
        no_name_constraints = c.is_without.ensures.0 c.if-not-is_without.false;
        no_policy_constraints = c.is_without-2.ensures.0 c.if-not-is_without-2.false;
      },
      s,
    )
