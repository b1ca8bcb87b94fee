use Rattle.std.proofs.Common.{sym, subst}
use Rattle.der_tree.specs.Object.{IsDerObject}
use Rattle.cert_model.specs.KeyIds.{BeginsWithKeyId}
use Rattle.cert_model.specs.View.{certificate_view}
use Rattle.cert_model.specs.Extended.{authority_key_identifier}
use Rattle.cert_model.proofs.FirstUnder.{one_value}
use Rattle.cert_model.proofs.fields.CertFields.authority_key_id.Goals as goal

pub returns-then-not-is_der_object-clause-only : goal.returns-then-not-is_der_object-clause-only
returns-then-not-is_der_object-clause-only c = λ id h.
    let found = rw c.deref.ensures.value at c.in_ok-value.ensures.found in
    let same = one_value authority_key_identifier (certificate_view c.args.self.now).extensions c.in_ok-value.value.now h.value found h.stands in
    let t = c.is_der_object.ensures.1 (subst (IsDerObject 50) (sym same) h.object) in
    let f = c.if-not-is_der_object.true in cc

pub returns-clause-only : goal.returns-clause-only
returns-clause-only c = λ id h.
    let found = rw c.deref.ensures.value at c.in_ok-value.ensures.found in
    let same = one_value authority_key_identifier (certificate_view c.args.self.now).extensions c.in_ok-value.value.now h.value found h.stands in
    c.key_id_of.ensures.only id (subst (λ v. BeginsWithKeyId v id) (sym same) h.spelled)
