use Rattle.std.proofs.Common.{◌∙◌, ◌++◌}
use Rattle.cert_model.specs.Octets.{name_octets}
use Rattle.cert_model.specs.View.{list_view}
use Rattle.cert_judge.specs.Windows.{list_front, list_back, tbs_list_content}
use Rattle.cert_judge.proofs.WindowFacts.{list_in_parts, signed_rest, list_front_all, list_front_counted, name_part}
use Rattle.cert_judge.proofs.windows.list_issuer_of.Goals as goal

pub returns-in_err-tbs : goal.returns-in_err-tbs
returns-in_err-tbs c = λ e.
    let l = list_view c.args.fields.now in
    let t = c.tbs_of.ensures (tbs_list_content l) (signed_rest l.algorithm l.signature_value) (e ∙ list_in_parts l) in
    let z = rw c.in_err-tbs.was at t in absurd z

pub returns-in_err-from_issuer : goal.returns-in_err-from_issuer
returns-in_err-from_issuer c = λ e.
    let l = list_view c.args.fields.now in
    let t = c.in_ok-tbs.ensures (tbs_list_content l) (signed_rest l.algorithm l.signature_value) (e ∙ list_in_parts l) in
    let n = list_front_counted l c.issuer_place.result c.issuer_place.ensures in
    let y = c.rest_after.ensures (list_front l) (name_octets l.issuer ++ list_back l) (list_front_all l) n t in
    let z = rw c.in_err-from_issuer.was at y in absurd z

pub returns-in_err-issuer : goal.returns-in_err-issuer
returns-in_err-issuer c = λ e.
    let l = list_view c.args.fields.now in
    let t = c.in_ok-tbs.ensures (tbs_list_content l) (signed_rest l.algorithm l.signature_value) (e ∙ list_in_parts l) in
    let n = list_front_counted l c.issuer_place.result c.issuer_place.ensures in
    let f = c.in_ok-from_issuer.ensures (list_front l) (name_octets l.issuer ++ list_back l) (list_front_all l) n t in
    let y = c.first_part.ensures (name_octets l.issuer) (list_back l) (name_part l.issuer) f in
    let z = rw c.in_err-issuer.was at y in absurd z

pub returns : goal.returns
returns c = λ e.
    let l = list_view c.args.fields.now in
    let t = c.in_ok-tbs.ensures (tbs_list_content l) (signed_rest l.algorithm l.signature_value) (e ∙ list_in_parts l) in
    let n = list_front_counted l c.issuer_place.result c.issuer_place.ensures in
    let f = c.in_ok-from_issuer.ensures (list_front l) (name_octets l.issuer ++ list_back l) (list_front_all l) n t in
    let y = c.in_ok-issuer.ensures (name_octets l.issuer) (list_back l) (name_part l.issuer) f in
    y.0
