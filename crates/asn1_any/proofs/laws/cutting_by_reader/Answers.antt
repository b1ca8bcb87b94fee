use Rattle.asn1_any.proofs.Cuts.{none_cut, first_read, none_read}
use Rattle.asn1_any.proofs.laws.cutting_by_reader.Goals as goal

pub returns-clause-first : goal.returns-clause-first
returns-clause-first c = λ content piece pieces tail cutting. first_read content piece pieces tail cutting

pub returns-clause-none : goal.returns-clause-none
returns-clause-none c = λ content tail below cutting. none_read content below (none_cut content tail cutting).1

pub returns-clause-tail : goal.returns-clause-tail
returns-clause-tail c = λ content pieces tail below cutting. none_read tail below cutting.last
