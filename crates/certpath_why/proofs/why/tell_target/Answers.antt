use Rattle.std.proofs.Common.{[], sym, append-nil, refl, inl, inr}
use Rattle.cert_judge.proofs.Mapped.{not_both}
use Rattle.certpath_why.proofs.why.tell_target.Goals as goal

pub tell_at-requires-clause-certificate : goal.tell_at-requires-clause-certificate
tell_at-requires-clause-certificate g c = c.is_certificate.ensures.0 c.if-is_certificate.true

pub returns-then-is_certificate-clause-text : goal.returns-then-is_certificate-clause-text
returns-then-is_certificate-clause-text g c = let t = c.in_ok-tell_at.ensures.text in (t.0, t.1, inl t.2)

pub returns-clause-text : goal.returns-clause-text
returns-clause-text g c = ([], sym (append-nil _), inr (λ h. not_both _ (c.is_certificate.ensures.1 h) c.if-is_certificate.false, refl))

pub tell_at-requires-clause-number : goal.tell_at-requires-clause-number
tell_at-requires-clause-number g c = c.requires.reached (c.is_certificate.ensures.0 c.if-is_certificate.true)
