use Rattle.std.proofs.Common.{refl}
use Rattle.cert_judge.proofs.Mapped.{not_both}
use Rattle.cert_judge.proofs.FurtherFacts.{node_if, node_unless}
use Rattle.cert_judge.proofs.judged.JudgedCertificate.node_by.Goals as goal

pub returns-then-is_processed : goal.returns-then-is_processed
returns-then-is_processed g c = λ moment x h. node_if (g.V.Vouch.vouches_for c.args.vouch.now).Processes moment x c.args.self.now h (c.is_processed.ensures.0 c.if-is_processed.true)

pub returns : goal.returns
returns g c = λ moment x h.
    node_unless (g.V.Vouch.vouches_for c.args.vouch.now).Processes moment x c.args.self.now h _ refl refl refl refl (λ all. not_both _ (c.is_processed.ensures.1 all) c.if-is_processed.false)
