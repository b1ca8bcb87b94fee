use Rattle.std.specs.List.{Contains}
use Rattle.certpath_why.specs.Question.{items_in}
use Rattle.certpath_why.specs.Reached.{HasSubject}
use Rattle.certpath_why.proofs.Naming.{gathered_as}
use Rattle.certpath_why.proofs.certificates.tails_to_items.Goals as goal

pub tails_among-requires-clause-side : goal.tails_among-requires-clause-side
tails_among-requires-clause-side g c = record {
  signed = c.requires.signed.issuers;
  firsts = rw c.deref.ensures.value c.requires.signed.issuer_firsts;
  named = c.in-Some.ensures c.args.question.now.found.now.items.now c.requires.named.issuers;
  first = c.requires.first;
}

pub new-requires : goal.new-requires
new-requires g c = c.requires.issuers.ascends

pub tails_among-requires-2-clause-side : goal.tails_among-requires-2-clause-side
tails_among-requires-2-clause-side g c =
    let q = c.args.question.now in record {
      signed = c.requires.signed.issuers;
      firsts = rw c.deref-2.ensures.value c.requires.signed.issuer_firsts;
      named = gathered_as q.found.now.items.now (Contains c.args.issuers.now) (HasSubject (items_in q) c.args.certificate.now.issuer.now) c.in_ok-named.named c.requires.issuers.exact c.in_ok-named.ensures;
      first = c.requires.first;
    }
