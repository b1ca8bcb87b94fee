use Rattle.std.proofs.Common.{subst, sym}
use Rattle.der_tree.specs.Object.{IsDerObject}
use Rattle.cert_model.specs.KeyIds.{BeginsWithKeyId, IsAuthorityKeyId}
use Rattle.cert_model.specs.View.{certificate_view}
use Rattle.cert_model.specs.Extended.{authority_key_identifier}
use Rattle.cert_model.proofs.FirstUnder.{one_value}
use Rattle.certpath_find.specs.Contents.{HasContent}
use Rattle.certpath_find.proofs.KeyIdFacts.{named_found, named_only, some_weaker, not_both}
use Rattle.certpath_find.proofs.key_ids.named_key_id.Goals as goal

pub returns-in_default-clause-only : goal.returns-in_default-clause-only
returns-in_default-clause-only c = λ id a.
    let x = c.first_value.ensures.only a.value (rw c.deref.ensures.value a.stands) in
    let y = rw c.in_default.is at x in absurd y

pub returns-then-not-is_der_object-clause-only : goal.returns-then-not-is_der_object-clause-only
returns-then-not-is_der_object-clause-only c = λ id a.
    let same = one_value authority_key_identifier _ _ _ c.in-Some.ensures.found (rw c.deref.ensures.value a.stands) in
    not_both _ (c.is_der_object.ensures.1 (subst (IsDerObject 50) (sym same) a.object)) c.if-not-is_der_object.true

pub returns-in_default-content_under-clause-only : goal.returns-in_default-content_under-clause-only
returns-in_default-content_under-clause-only c = λ id a.
    let same = one_value authority_key_identifier _ _ _ c.in-Some.ensures.found (rw c.deref.ensures.value a.stands) in
    let n = named_only c.in-Some.value.now id (subst (IsDerObject 50) (sym same) a.object) (subst (λ z. BeginsWithKeyId z id) (sym same) a.spelled) in
    let x = c.content_under.ensures.only n.0 n.1 in
    let y = rw c.in_default-content_under.is at x in absurd y

pub returns-clause-found : goal.returns-clause-found
returns-clause-found c =
    let object = c.is_der_object.ensures.0 (cc c.if-not-is_der_object.false) in
    some_weaker c.content_under-2.result (λ id. HasContent 128 c.in-Some-content_under.parts.now id.now) (λ id. IsAuthorityKeyId (certificate_view c.args.fields.now) id.now)
    (λ id h. record {
      value = c.in-Some.value.now;
      stands = rw c.deref.ensures.value at c.in-Some.ensures.found;
      object = object;
      spelled = named_found c.in-Some.value.now c.in-Some-content_under.parts.now id.now object c.in-Some-content_under.ensures.found h;
    }) c.content_under-2.ensures.found

pub returns-clause-only : goal.returns-clause-only
returns-clause-only c = λ id a.
    let same = one_value authority_key_identifier _ _ _ c.in-Some.ensures.found (rw c.deref.ensures.value a.stands) in
    let n = named_only c.in-Some.value.now id (subst (IsDerObject 50) (sym same) a.object) (subst (λ z. BeginsWithKeyId z id) (sym same) a.spelled) in
    let x = c.in-Some-content_under.ensures.only n.0 n.1 in
    c.content_under-2.ensures.only id (subst (λ z. HasContent 128 z id) (sym x) n.2)
