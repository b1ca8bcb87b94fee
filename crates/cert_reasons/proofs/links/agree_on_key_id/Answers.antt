use Rattle.std.proofs.Common.{refl, subst, List, ℕ, Option, Bor, option_map}
use Rattle.cert_judge.specs.Items.{certificate_of}
use Rattle.cert_judge.specs.Named.{NamesKeyId, HasKeyId}
use Rattle.cert_reasons.proofs.Marks.{both_named, none_named, none_own}
use Rattle.cert_reasons.proofs.links.agree_on_key_id.Goals as goal

pub returns-in-None : goal.returns-in-None
returns-in-None c =
    let x = c.args.certificate.now in
    let names = subst (λ (o : Option (Bor (List ℕ))). NamesKeyId (certificate_of x) (option_map (λ (s : Bor (List ℕ)). s.now) o)) c.in-None.is x.authority_is in
    (λ t. none_named (certificate_of x) (certificate_of c.args.issuer.now) names, λ h. refl)

pub returns-in-None-subject_key_id : goal.returns-in-None-subject_key_id
returns-in-None-subject_key_id c =
    let y = c.args.issuer.now in
    let has = subst (λ (o : Option (Bor (List ℕ))). HasKeyId (certificate_of y) (option_map (λ (s : Bor (List ℕ)). s.now) o)) c.in-None-subject_key_id.is y.own_is in
    (λ t. none_own (certificate_of c.args.certificate.now) (certificate_of y) has, λ h. refl)

pub returns-in-Some-subject_key_id : goal.returns-in-Some-subject_key_id
returns-in-Some-subject_key_id c =
    let x = c.args.certificate.now in
    let y = c.args.issuer.now in
    let names = subst (λ (o : Option (Bor (List ℕ))). NamesKeyId (certificate_of x) (option_map (λ (s : Bor (List ℕ)). s.now) o)) c.in-Some.is x.authority_is in
    let has = subst (λ (o : Option (Bor (List ℕ))). HasKeyId (certificate_of y) (option_map (λ (s : Bor (List ℕ)). s.now) o)) c.in-Some-subject_key_id.is y.own_is in
    let b = both_named (certificate_of x) (certificate_of y) c.in-Some.named.now c.in-Some-subject_key_id.own.now names has in
    (λ t. b.0 (c.are_equal.ensures.0 t), λ h. c.are_equal.ensures.1 (b.1 h))
