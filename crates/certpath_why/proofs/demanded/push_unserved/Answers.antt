use Rattle.std.specs.Prelude.{codes}
use Rattle.std.proofs.Common.{◌∙◌, ◌∷◌, [], sym, subst, map, refl, Some, string_bytes}
use Rattle.std.proofs.lemmas.Bool.{false≢true}
use Rattle.cert_judge.specs.Items.{certificate_of}
use Rattle.cert_model.specs.View.{ext_view}
use Rattle.cert_serving.specs.Serving.{Serves}
use Rattle.host_names.specs.Asked.{host_view}
use Rattle.certpath_why.specs.Demanded.{IsHostLine, host_line}
use Rattle.certpath_why.specs.Lines.{at_words}
use Rattle.certpath_why.specs.Hosts.{AreHostsWords}
use Rattle.certpath_why.proofs.Unmet.{met, unmet, line_joined}
use Rattle.certpath_why.proofs.demanded.push_unserved.Goals as goal

pub returns-then-serves : goal.returns-then-serves
returns-then-serves c =
    met (Serves (host_view c.args.host.now.host) (certificate_of c.args.certificate.now).extensions) (IsHostLine c.args.place (Some c.args.host.now) (certificate_of c.args.certificate.now).extensions) _
    (subst (λ es. Serves (host_view c.args.host.now.host) (map ext_view es)) c.deref.ensures.value (c.serves.ensures.0 c.if-serves.true))

pub returns : goal.returns
unfolding lib.Utf8.encode
returns c =
    let told = c.in_ok-push_hosts.ensures in
    let shown = c.args.host.now.shown.now in
    unmet (Serves (host_view c.args.host.now.host) (certificate_of c.args.certificate.now).extensions) (IsHostLine c.args.place (Some c.args.host.now) (certificate_of c.args.certificate.now).extensions) _ _
    (host_line c.args.place shown told.0)
    (λ a. false≢true (sym c.if-serves.false ∙ c.serves.ensures.1 (subst (λ es. Serves (host_view c.args.host.now.host) (map ext_view es)) (sym c.deref.ensures.value) a)))
    (told.0, subst (λ es. AreHostsWords (map ext_view es) told.0) c.deref-2.ensures.value told.2, refl)
    (line_joined (string_bytes c.args.text.now) (at_words c.args.place) (codes " doesn't serve ") shown (codes ": ") told.0 (10 ∷ []) _ _ _ c.in_ok-push_not_serving.ensures told.1 c.in_ok-push.ensures.bytes)
