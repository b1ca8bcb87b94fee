use Rattle.std.proofs.Common.{◌≡◌, map, take, sym, subst, List}
use Rattle.std.specs.Prelude.{◌↔◌, IsTrue}
use Rattle.std.specs.List.{Any}
use Rattle.std.proofs.lemmas.List.{take-map}
use Rattle.cert_model.specs.Fields.{Extension}
use Rattle.cert_model.specs.View.{ext_view}
use Rattle.cert_reasons.proofs.Certain.{viewed_at}
use Rattle.cert_reasons.proofs.certificates.is_repeat.Goals as goal

pub returns-in-Some : goal.returns-in-Some
returns-in-Some c =
    let l = c.in-Some.ensures.lookup in
    let xs = c.args.extensions.now in
    let v = viewed_at xs c.args.place c.in-Some.extension.now l.3.0 l.1 (λ (e : Extension). Any (λ (d : Extension). d.identifier ≡ e.identifier) (take c.args.place (map ext_view xs))) in
    let h = subst (λ (es : List Extension). IsTrue c.has_named.result ↔ Any (λ (d : Extension). d.identifier ≡ (ext_view c.in-Some.extension.now).identifier) es) (sym (take-map ext_view c.args.place xs)) c.has_named.ensures in
    (λ t. v.0 (h.0 t), λ x. h.1 (v.1 x))
