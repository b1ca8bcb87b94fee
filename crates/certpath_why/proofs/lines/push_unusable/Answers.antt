use Rattle.std.proofs.Common.{[], ◌∷◌, ◌++◌}
use Rattle.std.specs.Prelude.{codes}
use Rattle.cert_model.specs.View.{certificate_view}
use Rattle.certpath_why.specs.Lines.{at_words, unusable_words}
use Rattle.certpath_why.proofs.Joined.{then_appended}
use Rattle.certpath_why.proofs.lines.push_unusable.Goals as goal

pub returns : goal.returns
returns c =
    let words = unusable_words (certificate_view c.args.fields.now) c.args.reason in
    then_appended _ (at_words c.args.place) (codes " not usable: " ++ (words ++ 10 ∷ [])) _ _
    (then_appended _ (codes " not usable: ") (words ++ 10 ∷ []) _ _ (then_appended _ words (10 ∷ []) _ _ c.in_ok-push_str-2.ensures.bytes c.in_ok-push_unusable_words.ensures) c.in_ok-push_str.ensures.bytes) c.in_ok-write.ensures.bytes
