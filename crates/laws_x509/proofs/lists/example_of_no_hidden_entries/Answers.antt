use Rattle.std.proofs.Common.{refl}
use Rattle.laws_x509.specs.WorkedLists as worked
use Rattle.laws_x509.proofs.Below.{below_tested}
use Rattle.laws_x509.proofs.ListItems.{list_read, ended_is, ended_counts, numbered_is, numbered_counts}
use Rattle.laws_x509.proofs.lists.example_of_no_hidden_entries.Goals as goal

pub returns-clause-ended : goal.returns-clause-ended
returns-clause-ended c = let below = below_tested worked.ended_octets refl in (below, ended_is, list_read worked.ended_octets worked.ended below ended_is)

pub returns-clause-numbered : goal.returns-clause-numbered
returns-clause-numbered c = let below = below_tested worked.numbered_octets refl in (below, numbered_is, list_read worked.numbered_octets worked.numbered below numbered_is)

pub returns-clause-nothing : goal.returns-clause-nothing
returns-clause-nothing c = ended_counts

pub returns-clause-wrapper : goal.returns-clause-wrapper
returns-clause-wrapper c = numbered_counts
