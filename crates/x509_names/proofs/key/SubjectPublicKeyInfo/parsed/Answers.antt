use Rattle.std.proofs.Common.{◌∙◌, sym, subst, ℕ, List}
use Rattle.x509_names.specs.PublicKeys.{IsKeyValue}
use Rattle.x509_names.proofs.key.SubjectPublicKeyInfo.parsed.Goals as goal

pub returns-in-Some-clause-only : goal.returns-in-Some-clause-only
returns-in-Some-clause-only c = λ v is.
    let octets = c.args.self.now.subject_public_key.content.now in
    let same = c.as_bytes-identifier.ensures ∙ c.oid.ensures in
    c.in-Some.ensures.only v (subst (λ (z : List ℕ). IsKeyValue z octets v) (sym same) is)

pub returns-in-None-clause-only : goal.returns-in-None-clause-only
returns-in-None-clause-only c = λ v is.
    let octets = c.args.self.now.subject_public_key.content.now in
    let same = c.as_bytes-identifier.ensures ∙ c.oid.ensures in
    c.in-None.ensures.only v (subst (λ (z : List ℕ). IsKeyValue z octets v) (sym same) is)
