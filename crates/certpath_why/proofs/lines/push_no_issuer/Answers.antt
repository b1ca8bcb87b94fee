use Rattle.std.proofs.Common.{[], ◌∷◌, ◌++◌}
use Rattle.std.specs.Prelude.{codes}
use Rattle.certpath_why.specs.Lines.{at_words, issuer_words}
use Rattle.certpath_why.proofs.Joined.{then_appended}
use Rattle.certpath_why.proofs.lines.push_no_issuer.Goals as goal

pub returns : goal.returns
returns c =
    let words = issuer_words c.args.reason in
    then_appended _ (at_words c.args.place) (codes " no issuer: " ++ (words ++ 10 ∷ [])) _ _
    (then_appended _ (codes " no issuer: ") (words ++ 10 ∷ []) _ _ (then_appended _ words (10 ∷ []) _ _ c.in_ok-push_str-2.ensures.bytes c.in_ok-push_issuer_words.ensures) c.in_ok-push_str.ensures.bytes) c.in_ok-write.ensures.bytes
