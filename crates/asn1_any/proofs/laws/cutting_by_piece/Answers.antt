use Rattle.asn1_any.proofs.Cuts.{none_cut, one_cut, one_more}
use Rattle.asn1_any.proofs.laws.cutting_by_piece.Goals as goal

pub returns-clause-none : goal.returns-clause-none
returns-clause-none c = λ content tail cutting. none_cut content tail cutting

pub returns-clause-first : goal.returns-clause-first
returns-clause-first c = λ content piece pieces tail cutting. let start = one_cut content piece pieces tail cutting in (start.rest, start.whole, start.begins, start.cutting)

pub returns-clause-more : goal.returns-clause-more
returns-clause-more c = λ content rest piece pieces tail here whole cutting. one_more content rest piece pieces tail here whole cutting
