use Rattle.std.proofs.Common.{refl}
use Rattle.certpath_why.specs.Question.{anchors_in, rules_in}
use Rattle.certpath_why.proofs.Items.{none_read}
use Rattle.certpath_why.proofs.Telling.{tells_at}
use Rattle.certpath_why.proofs.certificates.tell_at.Goals as goal

pub returns-in_default : goal.returns-in_default
returns-in_default g c = absurd (none_read c.args.question.now.found.now.items.now c.args.place (c.in_default.ensures.only refl) c.requires.certificate)

pub returns-clause-text : goal.returns-clause-text
returns-clause-text g c = tells_at c.args.question.now.sought.demand.now (rules_in g.V.Vouch c.args.question.now) c.args.question.now.found.now.items.now (anchors_in c.args.question.now) c.args.question.now.target c.args.place c.in-Some.certificate.now _ _ c.in-Some.ensures.found c.in_ok-tell_certificate.ensures.text
