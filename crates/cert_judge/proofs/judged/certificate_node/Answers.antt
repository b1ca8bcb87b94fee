use Rattle.std.proofs.Common.{refl, sym}
use Rattle.cert_model.specs.View.{time_view}
use Rattle.cert_judge.specs.Items.{certificate_of, certificate_item}
use Rattle.cert_judge.specs.Judging.{IsUsable, IsFitIssuer}
use Rattle.cert_judge.specs.Further.{any_identifier}
use Rattle.cert_judge.proofs.PathLimits.{limit_is}
use Rattle.cert_judge.proofs.Linking.{with_iff}
use Rattle.cert_judge.proofs.judged.certificate_node.Goals as goal

pub returns : goal.returns
returns c =
    let m = time_view c.args.moment.now in
    let x = certificate_item c.args.item.now in
    let d = certificate_of c.args.item.now in
    let j = c.in_ok-judged.ensures in
    let usable = with_iff (IsUsable any_identifier m) x d refl in
    let fit = with_iff (IsFitIssuer any_identifier m) x d refl in
    record {
      certificate = (λ t. (d, refl, tt), λ h. refl);
      usable = (λ t. usable.1 (j.usable.0 t), λ h. j.usable.1 (usable.0 h));
      fit = (λ t. fit.1 (j.fit.0 t), λ h. j.fit.1 (fit.0 h));
      self_issued = sym c.is_self_issued-self_issued.ensures;
      limit = λ t. limit_is m d c.in_ok-judged.judged.limit (j.fit.0 t) (j.limit t);
    }
