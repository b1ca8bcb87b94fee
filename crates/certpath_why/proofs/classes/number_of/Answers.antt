use Rattle.std.proofs.Common.{◌∙◌, sym}
use Rattle.certpath_why.proofs.Classing.{known_more}
use Rattle.certpath_why.proofs.classes.number_of.Goals as goal

pub returns-in-Some-clause-number : goal.returns-in-Some-clause-number
returns-in-Some-clause-number c = c.requires c.args.text c.in-Some.number (sym c.in-Some.ensures)

pub returns-clause-known : goal.returns-clause-known
returns-clause-known c =
    rw c.in_ok-push.ensures.items (known_more c.args.texts.now.items c.len-number.result c.args.text c.args.known.now c.insert.new.self (c.len-number.ensures ∙ c.args.texts.now.ok.0) c.requires (λ q e. c.in_ok-insert.ensures.own q e) c.in_ok-insert.ensures.others)
