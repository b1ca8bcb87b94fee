use Rattle.std.specs.Prelude.{codes}
use Rattle.cert_model.specs.View.{certificate_view}
use Rattle.certpath_why.specs.Lines.{extension}
use Rattle.certpath_why.specs.Texts.{shown_identifier, shown_moment}
use Rattle.certpath_why.proofs.Joined.{then_appended, then_joined}
use Rattle.certpath_why.proofs.words.push_unusable_words.Goals as goal

pub returns-in_ok-push_moment-in-NotYetValid : goal.returns-in_ok-push_moment-in-NotYetValid
returns-in_ok-push_moment-in-NotYetValid c = rw c.in-NotYetValid.is (then_appended _ (codes "not valid before ") (shown_moment (certificate_view c.args.fields.now).not_before) _ _ c.in_ok-push_moment-in-NotYetValid.ensures c.in_ok-push_str-in-NotYetValid.ensures.bytes)

pub returns-in_ok-push_identifier-in-Unprocessed : goal.returns-in_ok-push_identifier-in-Unprocessed
returns-in_ok-push_identifier-in-Unprocessed c = rw c.in-Unprocessed.is (then_joined _ (extension c.in-Unprocessed.place) (codes " critical and not judged ") (shown_identifier (certificate_view c.args.fields.now).extensions c.in-Unprocessed.place) _ _ (rw c.deref-in-Unprocessed.ensures.value at c.in_ok-push_identifier-in-Unprocessed.ensures) c.in_ok-push_extension-in-Unprocessed.ensures)
