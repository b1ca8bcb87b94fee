use Rattle.std.proofs.Common.{arith}
use Rattle.asn1_core.proofs.Numbers.{octets_below}
use Rattle.x509_core.proofs.Grammars.{next_reading}
use Rattle.x509_core.proofs.Public.{gives_found, gives_only}
use Rattle.x509_core.proofs.FrontLaws.{gives_reads}
use Rattle.x509_ext_flags.specs.Extensions as grammar
use Rattle.x509_core.specs.Grammar.{Holds}
use Rattle.x509_ext_flags.specs.Reading.{policy_constraints_in, policy_constraints_at}
use Rattle.x509_ext_flags.specs.View.{policy_constraints_view}
use Rattle.x509_ext_flags.proofs.Laws.{policy_constraints_meaning}
use Rattle.x509_ext_flags.proofs.policy.PolicyConstraintsFromDerX509Error.from_der.Goals as goal

pub returns-clause-reads : goal.returns-clause-reads
returns-clause-reads c =
    gives_reads (Holds 16 grammar.PolicyConstraintsParts) (policy_constraints_in) (policy_constraints_meaning) policy_constraints_view c.args.bytes.now c.constraints_at_front.result
    (octets_below c.args.bytes.now (λ k. omega (arith, c.type_inv.bytes k))) c.constraints_at_front.ensures.exact c.constraints_at_front.ensures.missing

pub returns-clause-found : goal.returns-clause-found
returns-clause-found c =
    gives_found grammar.PolicyConstraints (policy_constraints_at) (next_reading (Holds 16 grammar.PolicyConstraintsParts) (policy_constraints_in) (policy_constraints_meaning)) policy_constraints_view c.args.bytes.now c.constraints_at_front.result
    (octets_below c.args.bytes.now (λ k. omega (arith, c.type_inv.bytes k))) c.constraints_at_front.ensures.exact

pub returns-clause-only : goal.returns-clause-only
returns-clause-only c =
    gives_only grammar.PolicyConstraints (policy_constraints_at) (next_reading (Holds 16 grammar.PolicyConstraintsParts) (policy_constraints_in) (policy_constraints_meaning)) policy_constraints_view c.args.bytes.now c.constraints_at_front.result
    (octets_below c.args.bytes.now (λ k. omega (arith, c.type_inv.bytes k))) c.constraints_at_front.ensures.exact
