use Rattle.std.proofs.Common.{refl}
use Rattle.certpath_why.specs.Question.{anchors_in, items_in, rules_in}
use Rattle.certpath_why.proofs.Telling.{tells_links}
use Rattle.certpath_why.proofs.certificates.tell_all_links.Goals as goal

pub returns-clause-written : goal.returns-clause-written
returns-clause-written g c = record { items = c.in_ok-tell_links.ensures.written; anchors = c.in_ok-tell_anchors.ensures.written }

pub returns-clause-text : goal.returns-clause-text
returns-clause-text g c =
    let x = c.args.certificate.now in
    tells_links (rules_in g.V.Vouch c.args.question.now) (items_in c.args.question.now) (anchors_in c.args.question.now) c.args.place x c.issuers-issuers.result.now c.roots-roots.result.now _ _ _ _
    c.issuers-issuers.ensures c.roots-roots.ensures c.in_ok-tell_links.ensures.text c.in_ok-tell_anchors.ensures.text c.in_ok-tell_missing.ensures

pub of-requires-clause-firsts : goal.of-requires-clause-firsts
of-requires-clause-firsts g c = c.requires.rows.firsts

pub of-requires-clause-within : goal.of-requires-clause-within
of-requires-clause-within g c = λ p n is. (c.requires.rows.numbered p n is).0

pub returns-in_default-clause-text : goal.returns-in_default-clause-text
returns-in_default-clause-text g c = absurd (c.in_default.ensures.only refl c.requires.number)

pub tell_links-requires-clause-revokers : goal.tell_links-requires-clause-revokers
tell_links-requires-clause-revokers g c =
    let q = c.args.question.now in
    c.in-Some.ensures.found q.found.now.items.now q.policy.now.moment c.args.certificate.now c.requires.rows.numbered c.requires.at

pub tell_anchors-requires-clause-revokers : goal.tell_anchors-requires-clause-revokers
tell_anchors-requires-clause-revokers g c =
    let q = c.args.question.now in
    c.in-Some.ensures.found q.found.now.items.now q.policy.now.moment c.args.certificate.now c.requires.rows.numbered c.requires.at
