use Rattle.std.specs.Prelude.{IfSome}
use Rattle.std.proofs.Common.{subst}
use Rattle.cert_judge.specs.Serials.{IsSetOf}
use Rattle.cert_judge.proofs.SerialFacts.{list_asked}
use Rattle.cert_judge.proofs.serials.add_list.Goals as goal

pub returns-in-Some : goal.returns-in-Some
returns-in-Some c =
    let serials = c.args.serials.now in
    let known = subst (λ o. IfSome o (λ set. IsSetOf serials set.now)) c.in-Some.is c.requires in
    list_asked c.add_asked.result c.args.revoked.now c.add_asked.new.revoked c.in-Some.set.now serials c.args.asked.now known c.add_asked.ensures
