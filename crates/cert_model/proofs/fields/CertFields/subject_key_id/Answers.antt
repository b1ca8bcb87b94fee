use Rattle.std.proofs.Common.{◌∙◌}
use Rattle.cert_model.specs.View.{certificate_view}
use Rattle.cert_model.specs.Extended.{subject_key_identifier}
use Rattle.cert_model.proofs.FirstUnder.{one_value}
use Rattle.cert_model.proofs.fields.CertFields.subject_key_id.Goals as goal

pub returns-clause-only : goal.returns-clause-only
returns-clause-only c = λ id h.
    let found = rw c.deref.ensures.value at c.in_ok-value.ensures.found in
    let same = one_value subject_key_identifier (certificate_view c.args.self.now).extensions c.in_ok-value.value.now h.value found h.stands in
    c.whole.ensures.only id (same ∙ h.spelled)
