-- Two items are vouched for: what is asked has an answer, and the worked lines, subjects and answer.
use Rattle.std.proofs.Common.{refl, false, [], lit<, Global}
use Rattle.cert_graph.specs.Adequate.{IsAdequate}
use Rattle.cert_judge.specs.Examples.{anchor_named, in_june, numbered, vouching_for_both}
use Rattle.cert_judge.specs.ItemGraph.{graph_of_items}
use Rattle.cert_judge.specs.Items.{rules_at}
use Rattle.cert_judge.specs.Revoking.{JudgingContext}
use Rattle.cert_model.specs.Examples.{authority_b, issued_by_b}
use Rattle.cert_model.specs.Octets.{name_octets}
use Rattle.certpath_why.specs.LawsOfLines.{IsDecided}
use Rattle.certpath_why.specs.Reached.{HasSubject}
use Rattle.certpath_why.specs.Why.{AreUnusableLines}
use Rattle.certpath_why.proofs.DecidedRules.{tests_decide}
use Rattle.certpath_why.proofs.WorkedLines.{usable_untold}
use Rattle.laws_judge.specs.Worked.{by_row, first_two, under_c}
use Rattle.laws_judge.proofs.OfPaths.{adequate}
use Rattle.laws_paths.specs.Worked.{issuer_first, issuer_last}
use Rattle.laws_paths.proofs.OfWhy.{subject}

abbrev pub rules : JudgingContext
rules = rules_at in_june false first_two

pub decided : IsDecided rules
decided = tests_decide in_june false (vouching_for_both 1 2)

pub no_line : AreUnusableLines rules 0 (numbered 1 issued_by_b) issued_by_b []
no_line = usable_untold

pub issuer_there : HasSubject issuer_last (name_octets issued_by_b.issuer) 1
issuer_there = subject

pub anchor_there : HasSubject under_c (name_octets authority_b.issuer) 0
anchor_there = (lit< tt, λ d. (anchor_named 0x63, refl, refl))

pub answered : (alloc : Global) → IsAdequate (graph_of_items rules issuer_first under_c) 1 (by_row alloc)
answered alloc = adequate alloc
