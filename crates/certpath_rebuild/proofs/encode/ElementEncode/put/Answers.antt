use Rattle.std.proofs.Common.{◌∙◌, ap}
use Rattle.asn1_core.specs.Strict.{strict_header}
use Rattle.asn1_core.specs.Views.{class_number}
use Rattle.certpath_rebuild.proofs.Writing.{stopped, one_more, same_octets}
use Rattle.certpath_rebuild.proofs.encode.ElementEncode.put.Goals as goal

pub returns-in_err-write_octets-in-Some-clause-octets : goal.returns-in_err-write_octets-in-Some-clause-octets
returns-in_err-write_octets-in-Some-clause-octets g c =
    let e = c.args.self.now in
    let is = c.as_slice.ensures.octets ∙ c.header.ensures ∙ ap (λ n. strict_header (record { class = class_number e.class; constructed = e.constructed; tag = e.tag.0; size = n })) c.in-Some.ensures in
    stopped _ _ _ _ _ (g.C.Encode.octets e.content) _ _ c.from_residual.ensures.1
    (same_octets _ _ _ _ _ _ _ is (record { ok = tt; err = c.in_err-write_octets-in-Some.ensures.err; failures = c.in_err-write_octets-in-Some.ensures.failures }))

pub returns-clause-octets : goal.returns-clause-octets
returns-clause-octets g c =
    let e = c.args.self.now in
    let is = c.as_slice.ensures.octets ∙ c.header.ensures ∙ ap (λ n. strict_header (record { class = class_number e.class; constructed = e.constructed; tag = e.tag.0; size = n })) c.in-Some.ensures in
    one_more _ _ _ _ _ _ _ (g.C.Encode.octets e.content) _
    (same_octets _ _ _ _ _ _ _ is (record { ok = c.in_ok-write_octets-in-Some.ensures.ok; err = tt; failures = c.in_ok-write_octets-in-Some.ensures.failures })) c.put.ensures.octets
