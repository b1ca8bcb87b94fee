use Rattle.std.proofs.Common.{ℕ, List, length, ◌≤◌, ◌∙◌, subst, sym}
use Rattle.der_tree.specs.Object.{IsDerObject}
use Rattle.cert_model.specs.KeyIds.{IsSubjectKeyId}
use Rattle.cert_model.specs.View.{certificate_view}
use Rattle.cert_model.specs.Extended.{subject_key_identifier}
use Rattle.cert_model.proofs.FirstUnder.{one_value}
use Rattle.certpath_find.specs.Contents.{HasContent}
use Rattle.certpath_find.proofs.KeyIdFacts.{own_found, own_only, first_small, some_weaker, not_both}
use Rattle.certpath_find.proofs.key_ids.own_key_id.Goals as goal

pub returns-in_default-clause-only : goal.returns-in_default-clause-only
returns-in_default-clause-only c = λ id a.
    let x = c.first_value.ensures.only a.value (rw c.deref.ensures.value a.stands) in
    let y = rw c.in_default.is at x in absurd y

pub returns-then-not-is_der_object-clause-only : goal.returns-then-not-is_der_object-clause-only
returns-then-not-is_der_object-clause-only c = λ id a.
    let same = one_value subject_key_identifier _ _ _ c.in-Some.ensures.found (rw c.deref.ensures.value a.stands) in
    let own = own_only a.value id (first_small subject_key_identifier _ a.value c.requires.small a.stands) a.spelled in
    not_both _ (c.is_der_object.ensures.1 (subst (IsDerObject 50) (sym same) own.0)) c.if-not-is_der_object.true

pub returns-clause-found : goal.returns-clause-found
returns-clause-found c =
    let object = c.is_der_object.ensures.0 (cc c.if-not-is_der_object.false) in
    some_weaker c.octets_at.result (λ id. HasContent 4 c.in-Some.value.now id.now) (λ id. IsSubjectKeyId (certificate_view c.args.fields.now) id.now)
    (λ id h. record {
      value = c.in-Some.value.now;
      stands = rw c.deref.ensures.value at c.in-Some.ensures.found;
      spelled = own_found c.in-Some.value.now id.now object h;
    }) c.octets_at.ensures.found

pub returns-clause-only : goal.returns-clause-only
returns-clause-only c = λ id a.
    let same = one_value subject_key_identifier _ _ _ c.in-Some.ensures.found (rw c.deref.ensures.value a.stands) in
    let small = first_small subject_key_identifier _ a.value c.requires.small a.stands in
    c.octets_at.ensures.only id (subst (λ (z : List ℕ). length z ≤ 4_294_967_295) (sym same) small) (same ∙ a.spelled)
