use Rattle.certpath_why.specs.Question.{anchors_in, items_in, rules_in}
use Rattle.certpath_why.proofs.Telling.{tells_certificate}
use Rattle.certpath_why.proofs.certificates.tell_certificate.Goals as goal

pub returns-clause-text : goal.returns-clause-text
returns-clause-text g c =
    let x = c.args.certificate.now in
    tells_certificate c.args.question.now.sought.demand.now (rules_in g.V.Vouch c.args.question.now) (items_in c.args.question.now) (anchors_in c.args.question.now) _ c.args.question.now.target c.args.place x _ _ _ _ _ _
    c.requires.target c.in_ok-push_subject.ensures c.in_ok-tell_unusable.ensures c.in_ok-push_unmet.ensures c.in_ok-tell_no_issuer.ensures c.in_ok-tell_all_links.ensures.text
