use Rattle.std.proofs.Common.{subst, List, ℕ, Option, Bor, option_map}
use Rattle.cert_judge.specs.Items.{certificate_of}
use Rattle.cert_judge.specs.Named.{NamesKeyId}
use Rattle.cert_reasons.proofs.Marks.{none_named}
use Rattle.cert_reasons.proofs.linking.Linking.names_key.Goals as goal

pub returns-in-None : goal.returns-in-None
returns-in-None c = λ e d.
    let x = c.args.self.now.certificate.now in
    none_named (certificate_of x) d (subst (λ (o : Option (Bor (List ℕ))). NamesKeyId (certificate_of x) (option_map (λ (s : Bor (List ℕ)). s.now) o)) c.in-None.is x.authority_is)
