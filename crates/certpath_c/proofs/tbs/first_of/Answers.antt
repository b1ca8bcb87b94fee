use Rattle.std.proofs.Common.{◌∙◌, ◌++◌}
use Rattle.cert_model.specs.Octets.{tbs_certificate_octets}
use Rattle.cert_judge.proofs.WindowFacts.{signed_rest}
use Rattle.certpath_c.proofs.TbsParts.{tbs_first, tbs_part}
use Rattle.certpath_c.proofs.tbs.first_of.Goals as goal

pub returns-in_err-content : goal.returns-in_err-content
returns-in_err-content c = λ d e.
    let x = c.whole.ensures.only (tbs_certificate_octets d ++ signed_rest d.algorithm d.signature_value) (e ∙ tbs_first d) in
    let y = rw c.in_err-content.was at x in absurd y

pub returns-in_err-first : goal.returns-in_err-first
returns-in_err-first c = λ d e.
    let x = c.in_ok-content.ensures.only (tbs_certificate_octets d ++ signed_rest d.algorithm d.signature_value) (e ∙ tbs_first d) in
    let y = c.first_part.ensures (tbs_certificate_octets d) (signed_rest d.algorithm d.signature_value) (tbs_part d) x in
    let z = rw c.in_err-first.was at y in absurd z

pub returns : goal.returns
returns c = λ d e.
    let x = c.in_ok-content.ensures.only (tbs_certificate_octets d ++ signed_rest d.algorithm d.signature_value) (e ∙ tbs_first d) in
    let y = c.in_ok-first.ensures (tbs_certificate_octets d) (signed_rest d.algorithm d.signature_value) (tbs_part d) x in
    y.0
