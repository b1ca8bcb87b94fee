use Rattle.std.proofs.Common.{◌∙◌}
use Rattle.cert_model.specs.Octets.{name_octets, validity_octets, key_octets}
use Rattle.cert_model.specs.View.{certificate_view}
use Rattle.cert_judge.specs.Windows.{optional_parts, tbs_content}
use Rattle.cert_judge.proofs.WindowFacts.{certificate_in_parts, signed_rest, certificate_front, from_issuer, from_validity, from_subject, from_key, certificate_front_all, certificate_front_counted, tbs_content_parted, name_part, validity_part, key_part}
use Rattle.cert_judge.proofs.windows.windows_of.Goals as goal

pub returns-in_err-tbs : goal.returns-in_err-tbs
returns-in_err-tbs c = λ e.
    let d = certificate_view c.args.fields.now in
    let t = c.tbs_of.ensures (tbs_content d) (signed_rest d.algorithm d.signature_value) (e ∙ certificate_in_parts d) in
    let z = rw c.in_err-tbs.was at t in absurd z

pub returns-in_err-from_issuer : goal.returns-in_err-from_issuer
returns-in_err-from_issuer c = λ e.
    let d = certificate_view c.args.fields.now in
    let t = c.in_ok-tbs.ensures (tbs_content d) (signed_rest d.algorithm d.signature_value) (e ∙ certificate_in_parts d) in
    let y = c.rest_after.ensures (certificate_front d) (from_issuer d) (certificate_front_all d) (certificate_front_counted d c.first_of-first.result c.first_of-first.ensures) (t ∙ tbs_content_parted d) in
    let z = rw c.in_err-from_issuer.was at y in absurd z

pub returns-in_err-issuer : goal.returns-in_err-issuer
returns-in_err-issuer c = λ e.
    let d = certificate_view c.args.fields.now in
    let t = c.in_ok-tbs.ensures (tbs_content d) (signed_rest d.algorithm d.signature_value) (e ∙ certificate_in_parts d) in
    let f = c.in_ok-from_issuer.ensures (certificate_front d) (from_issuer d) (certificate_front_all d) (certificate_front_counted d c.first_of-first.result c.first_of-first.ensures) (t ∙ tbs_content_parted d) in
    let y = c.first_part.ensures (name_octets d.issuer) (from_validity d) (name_part d.issuer) f in
    let z = rw c.in_err-issuer.was at y in absurd z

pub returns-in_err-from_subject : goal.returns-in_err-from_subject
returns-in_err-from_subject c = λ e.
    let d = certificate_view c.args.fields.now in
    let t = c.in_ok-tbs.ensures (tbs_content d) (signed_rest d.algorithm d.signature_value) (e ∙ certificate_in_parts d) in
    let f = c.in_ok-from_issuer.ensures (certificate_front d) (from_issuer d) (certificate_front_all d) (certificate_front_counted d c.first_of-first.result c.first_of-first.ensures) (t ∙ tbs_content_parted d) in
    let i = c.in_ok-issuer.ensures (name_octets d.issuer) (from_validity d) (name_part d.issuer) f in
    let y = c.first_part-2.ensures (validity_octets d.not_before d.not_after) (from_subject d) (validity_part d.not_before d.not_after) i.1 in
    let z = rw c.in_err-from_subject.was at y in absurd z

pub returns-in_err-subject : goal.returns-in_err-subject
returns-in_err-subject c = λ e.
    let d = certificate_view c.args.fields.now in
    let t = c.in_ok-tbs.ensures (tbs_content d) (signed_rest d.algorithm d.signature_value) (e ∙ certificate_in_parts d) in
    let f = c.in_ok-from_issuer.ensures (certificate_front d) (from_issuer d) (certificate_front_all d) (certificate_front_counted d c.first_of-first.result c.first_of-first.ensures) (t ∙ tbs_content_parted d) in
    let i = c.in_ok-issuer.ensures (name_octets d.issuer) (from_validity d) (name_part d.issuer) f in
    let v = c.in_ok-from_subject.ensures (validity_octets d.not_before d.not_after) (from_subject d) (validity_part d.not_before d.not_after) i.1 in
    let y = c.first_part-3.ensures (name_octets d.subject) (from_key d) (name_part d.subject) v.1 in
    let z = rw c.in_err-subject.was at y in absurd z

pub returns-in_err-key : goal.returns-in_err-key
returns-in_err-key c = λ e.
    let d = certificate_view c.args.fields.now in
    let t = c.in_ok-tbs.ensures (tbs_content d) (signed_rest d.algorithm d.signature_value) (e ∙ certificate_in_parts d) in
    let f = c.in_ok-from_issuer.ensures (certificate_front d) (from_issuer d) (certificate_front_all d) (certificate_front_counted d c.first_of-first.result c.first_of-first.ensures) (t ∙ tbs_content_parted d) in
    let i = c.in_ok-issuer.ensures (name_octets d.issuer) (from_validity d) (name_part d.issuer) f in
    let v = c.in_ok-from_subject.ensures (validity_octets d.not_before d.not_after) (from_subject d) (validity_part d.not_before d.not_after) i.1 in
    let s = c.in_ok-subject.ensures (name_octets d.subject) (from_key d) (name_part d.subject) v.1 in
    let y = c.first_part-4.ensures (key_octets d.key) (optional_parts d) (key_part d.key) s.1 in
    let z = rw c.in_err-key.was at y in absurd z

pub returns : goal.returns
returns c = λ e.
    let d = certificate_view c.args.fields.now in
    let t = c.in_ok-tbs.ensures (tbs_content d) (signed_rest d.algorithm d.signature_value) (e ∙ certificate_in_parts d) in
    let f = c.in_ok-from_issuer.ensures (certificate_front d) (from_issuer d) (certificate_front_all d) (certificate_front_counted d c.first_of-first.result c.first_of-first.ensures) (t ∙ tbs_content_parted d) in
    let i = c.in_ok-issuer.ensures (name_octets d.issuer) (from_validity d) (name_part d.issuer) f in
    let v = c.in_ok-from_subject.ensures (validity_octets d.not_before d.not_after) (from_subject d) (validity_part d.not_before d.not_after) i.1 in
    let s = c.in_ok-subject.ensures (name_octets d.subject) (from_key d) (name_part d.subject) v.1 in
    let k = c.in_ok-key.ensures (key_octets d.key) (optional_parts d) (key_part d.key) s.1 in
    (i.0, s.0, k.0)
