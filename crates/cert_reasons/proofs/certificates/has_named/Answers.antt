use Rattle.std.proofs.Common.{◌≡◌, sym, refl, get_or}
use Rattle.std.proofs.lemmas.List.{get_or_default}
use Rattle.cert_model.specs.Fields.{Extension}
use Rattle.cert_model.specs.View.{ext_view}
use Rattle.cert_model.specs.declared.fields.ExtField.{ExtField}
use Rattle.cert_judge.proofs.Mapped.{any_to, any_from, none_any, not_both}
use Rattle.cert_reasons.proofs.certificates.has_named.Goals as goal

pub returns-then-is_named : goal.returns-then-is_named
returns-then-is_named c = (
  λ t. any_to ext_view (λ (e : Extension). e.identifier ≡ c.args.identifier.now) c.args.extensions.now
      (c.loop-extension.extension-index, get_or c.args.extensions.now c.loop-extension.extension-index _, c.loop-extension-test.true, sym (get_or_default c.args.extensions.now c.loop-extension.extension-index _ _ c.loop-extension-test.true), c.is_named.ensures.0 c.if-is_named.true),
  λ h. refl,
)

pub returns : goal.returns
returns c = (
  λ t. absurd (not_both _ t refl),
  λ h. absurd (none_any (λ (x : ExtField). (ext_view x).identifier ≡ c.args.identifier.now) c.args.extensions.now c.loop-extension.extension-index c.loop-extension-test.false c.loop-extension.invariant
      (any_from ext_view (λ (e : Extension). e.identifier ≡ c.args.identifier.now) c.args.extensions.now h)),
)
