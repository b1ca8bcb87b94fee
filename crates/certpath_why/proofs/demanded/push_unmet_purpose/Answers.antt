use Rattle.std.proofs.Common.{sym, subst, string_bytes, option_map}
use Rattle.cert_judge.specs.Items.{certificate_of}
use Rattle.cert_model.specs.Range.{IfThere}
use Rattle.cert_purpose.specs.Purposes.{Allows}
use Rattle.certpath_inputs.specs.declared.demand.AskedPurpose.{AskedPurpose}
use Rattle.certpath_why.specs.Appended.{Appends}
use Rattle.certpath_why.specs.Demanded.{IsLineUnless, IsPurposeLine}
use Rattle.certpath_why.proofs.demanded.push_unmet_purpose.Goals as goal

pub returns : goal.returns
returns c =
    let es = (certificate_of c.args.certificate.now).extensions in
    subst (λ o. Appends (IsLineUnless (IfThere (λ p. Allows p es) (option_map (λ (q : AskedPurpose). q.identifier.now) o)) (IsPurposeLine c.args.place o es)) (string_bytes c.args.text.now) (string_bytes c.push_unallowed.new.text))
    (sym c.in-Some.is) c.in_ok-push_unallowed.ensures
