use Rattle.std.proofs.Common.{[], ◌∷◌, ◌++◌}
use Rattle.std.specs.Prelude.{codes}
use Rattle.certpath_why.specs.Lines.{link_words}
use Rattle.certpath_why.proofs.Joined.{then_appended}
use Rattle.certpath_why.proofs.links.push_reason_end.Goals as goal

pub returns : goal.returns
returns c =
    let words = link_words c.args.reason in
    then_appended _ (codes " not linked: ") (words ++ 10 ∷ []) _ _ (then_appended _ words (10 ∷ []) _ _ c.in_ok-push_str-2.ensures.bytes c.in_ok-push_link_words.ensures) c.in_ok-push_str.ensures.bytes
