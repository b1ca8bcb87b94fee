use Rattle.std.proofs.Common.{codes}
use Rattle.certpath_files.specs.RowViews.{place_view, reason_view}
use Rattle.certpath_bundle.specs.Names.{shown_name}
use Rattle.certpath_bundle.specs.Words.{reason_words}
use Rattle.certpath_bundle.specs.Lines.{place_words}
use Rattle.certpath_bundle.proofs.Loops.{on_ok, on_push, five_appended}
use Rattle.certpath_bundle.proofs.lines.push_left_out.Goals as goal

pub returns : goal.returns
returns c =
    on_ok c.push_str-2.result _ _ (on_push c.push_str-2.result _ _ _ c.push_str-2.ensures.bytes)
    (
    λ last. five_appended _ (shown_name c.args.name.now) (place_words (place_view c.args.place)) (codes ": ") (reason_words (reason_view c.args.reason)) (codes "; left out\n") _ _ _ _ _
    c.in_ok-push_name.ensures c.in_ok-push_place.ensures c.in_ok-push_str.ensures.bytes c.in_ok-push_reason.ensures last
    )
