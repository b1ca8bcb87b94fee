use Rattle.std.proofs.Common.{◌++◌, codes}
use Rattle.certpath_files.specs.FrontViews.{fault_view}
use Rattle.certpath_bundle.specs.Words.{fault_words, octets}
use Rattle.certpath_bundle.proofs.Loops.{on_ok, three_appended}
use Rattle.certpath_bundle.proofs.words.push_fault_to_end.Goals as goal

pub returns : goal.returns
returns c =
    on_ok c.push_octets.result _ _ c.push_octets.ensures
    (λ last. three_appended _ (fault_words (fault_view c.args.fault)) (codes ", ") (octets c.args.count ++ codes " to the end") _ _ _ c.in_ok-push_fault.ensures c.in_ok-push_str.ensures.bytes last)
