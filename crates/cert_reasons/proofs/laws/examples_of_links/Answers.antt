use Rattle.cert_reasons.proofs.Worked.{revoked, alone}
use Rattle.cert_reasons.proofs.WorkedKeys.{keys_differ, anchor_linked}
use Rattle.cert_reasons.proofs.laws.examples_of_links.Goals as goal

pub returns-clause-revoked : goal.returns-clause-revoked
returns-clause-revoked c = revoked

pub returns-clause-alone : goal.returns-clause-alone
returns-clause-alone c = alone

pub returns-clause-keys : goal.returns-clause-keys
returns-clause-keys c = keys_differ

pub returns-clause-anchor : goal.returns-clause-anchor
returns-clause-anchor c = anchor_linked
