use Rattle.asn1_lists.proofs.Runs.{given, ends, values}
use Rattle.asn1_lists.proofs.laws.calls_to_the_end.Goals as goal

pub returns-clause-given : goal.returns-clause-given
returns-clause-given g c = λ octets rest answers run. given g.E.From.from_gives g.T.DerMeaning.der_grows g.T.DerMeaning.der_reads octets run.0 answers run.1 run.2.0

pub returns-clause-ends : goal.returns-clause-ends
returns-clause-ends g c = λ rest answer step. ends g.E.From.from_gives g.T.DerMeaning.der_grows g.T.DerMeaning.der_reads rest answer step

pub returns-clause-values : goal.returns-clause-values
returns-clause-values g c = λ octets vs answers all run. values g.E.From.from_gives g.T.DerMeaning.der_grows g.T.DerMeaning.der_reads g.T.DerMeaning.one_rest octets vs answers all run
