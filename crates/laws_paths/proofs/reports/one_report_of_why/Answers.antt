use Rattle.std.proofs.Common.{None}
use Rattle.cert_judge.specs.Items.{rules_by}
use Rattle.certpath_inputs.specs.Demands.{of_purpose}
use Rattle.certpath_inputs.specs.Inputs.{VouchesBy}
use Rattle.laws_paths.proofs.OfReports.{anchor_is_right, empty_is_right}
use Rattle.laws_paths.proofs.OfTarget.{alone_is_right}
use Rattle.laws_paths.proofs.OneReport.{one_report}
use Rattle.laws_paths.proofs.reports.one_report_of_why.Goals as goal

pub returns-clause-one : goal.returns-clause-one
returns-clause-one c = λ settings items anchors pairs text another outcome other.
    let r = rules_by settings.policy.moment settings.policy.demand_lists (VouchesBy pairs) in
    one_report (of_purpose None) r r items anchors settings.target text another outcome other

pub returns-clause-example : goal.returns-clause-example
returns-clause-example c = λ settings pairs.
    let r = rules_by settings.policy.moment settings.policy.demand_lists (VouchesBy pairs) in
    empty_is_right (of_purpose None) r r settings.target

pub returns-clause-example_of_a_fault : goal.returns-clause-example_of_a_fault
returns-clause-example_of_a_fault c = λ settings pairs. anchor_is_right (rules_by settings.policy.moment settings.policy.demand_lists (VouchesBy pairs)) settings.target

pub returns-clause-example_of_a_certificate : goal.returns-clause-example_of_a_certificate
returns-clause-example_of_a_certificate c = alone_is_right
