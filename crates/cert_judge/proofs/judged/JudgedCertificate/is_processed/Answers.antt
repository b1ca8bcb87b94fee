use Rattle.std.specs.Prelude.{◌↔◌, IsTrue, All}
use Rattle.std.proofs.Common.{rules}
use Rattle.cert_judge.proofs.Mapped.{all_mapped}
use Rattle.cert_judge.proofs.judged.JudgedCertificate.is_processed.Goals as goal

pub returns : goal.returns
returns g c =
    let P = (g.V.Vouch.vouches_for c.args.vouch.now).Processes c.args.self.now.octets.now in
    let h : IsTrue c.all.result ↔ All (λ s. P s.now) c.args.self.now.further.items = search rules in
    all_mapped (λ s. s.now) P c.args.self.now.further.items c.all.result h
