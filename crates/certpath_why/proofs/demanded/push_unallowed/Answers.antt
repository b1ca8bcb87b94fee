use Rattle.std.specs.Prelude.{codes}
use Rattle.std.proofs.Common.{◌∙◌, ◌∷◌, [], sym, subst, map, refl, Some, string_bytes}
use Rattle.std.proofs.lemmas.Bool.{false≢true}
use Rattle.cert_judge.specs.Items.{certificate_of}
use Rattle.cert_model.specs.View.{ext_view}
use Rattle.cert_purpose.specs.Purposes.{Allows}
use Rattle.certpath_why.specs.Demanded.{IsPurposeLine, purpose_line}
use Rattle.certpath_why.specs.Lines.{at_words}
use Rattle.certpath_why.specs.Uses.{AreUsesWords}
use Rattle.certpath_why.proofs.Unmet.{met, unmet, line_joined}
use Rattle.certpath_why.proofs.demanded.push_unallowed.Goals as goal

pub returns-then-allows : goal.returns-then-allows
returns-then-allows c =
    met (Allows c.args.purpose.now.identifier.now (certificate_of c.args.certificate.now).extensions) (IsPurposeLine c.args.place (Some c.args.purpose.now) (certificate_of c.args.certificate.now).extensions) _
    (subst (λ es. Allows c.args.purpose.now.identifier.now (map ext_view es)) c.deref.ensures.value (c.allows.ensures.0 c.if-allows.true))

pub returns : goal.returns
unfolding lib.Utf8.encode
returns c =
    let told = c.in_ok-push_uses.ensures in
    let shown = c.args.purpose.now.shown.now in
    unmet (Allows c.args.purpose.now.identifier.now (certificate_of c.args.certificate.now).extensions) (IsPurposeLine c.args.place (Some c.args.purpose.now) (certificate_of c.args.certificate.now).extensions) _ _
    (purpose_line c.args.place shown told.0)
    (λ a. false≢true (sym c.if-allows.false ∙ c.allows.ensures.1 (subst (λ es. Allows c.args.purpose.now.identifier.now (map ext_view es)) (sym c.deref.ensures.value) a)))
    (told.0, subst (λ es. AreUsesWords (map ext_view es) told.0) c.deref-2.ensures.value told.2, refl)
    (line_joined (string_bytes c.args.text.now) (at_words c.args.place) (codes " isn't for ") shown (codes ": ") told.0 (10 ∷ []) _ _ _ c.in_ok-push_not_for.ensures told.1 c.in_ok-push.ensures.bytes)
