use Rattle.std.proofs.Common.{◌≡◌, ◌∙◌, sym, subst, string_bytes, option_map}
use Rattle.std.proofs.lemmas.Bool.{false≢true}
use Rattle.cert_serving.specs.Demanding.{ServesIt}
use Rattle.certpath_inputs.specs.Demands.{demanded}
use Rattle.cert_judge.specs.Items.{certificate_of}
use Rattle.cert_model.specs.Range.{IfThere}
use Rattle.cert_serving.specs.Serving.{Serves}
use Rattle.certpath_inputs.specs.declared.demand.AskedHost.{AskedHost}
use Rattle.certpath_why.specs.Appended.{Appends}
use Rattle.certpath_why.specs.Demanded.{IsLineUnless, IsHostLine}
use Rattle.certpath_why.proofs.Unmet.{met, of_target}
use Rattle.host_names.specs.Asked.{host_view}
use Rattle.certpath_why.proofs.demanded.push_unmet_host.Goals as goal

pub returns-then-is_target : goal.returns-then-is_target
returns-then-is_target c =
    let es = (certificate_of c.args.certificate.now).extensions in
    of_target (c.args.certificate.now.octets.now ≡ c.args.sought.now.target.now) _ _ _ _ (c.is_target.ensures.0 c.if-is_target.true)
    (subst (λ o. Appends (IsLineUnless (IfThere (λ h. Serves h es) (option_map (λ (q : AskedHost). host_view q.host) o)) (IsHostLine c.args.place o es)) (string_bytes c.args.text.now) (string_bytes c.push_unserved.new.text))
    (sym c.in-Some.is) c.in_ok-push_unserved.ensures)

pub returns : goal.returns
returns c =
    let sought = c.args.sought.now in
    let es = (certificate_of c.args.certificate.now).extensions in
    met (c.args.certificate.now.octets.now ≡ sought.target.now → ServesIt (demanded sought.demand.now sought.target.now) es) (IsHostLine c.args.place sought.demand.now.host es) (string_bytes c.args.text.now)
    (λ same. absurd (false≢true (sym c.if-is_target.false ∙ c.is_target.ensures.1 same)))
