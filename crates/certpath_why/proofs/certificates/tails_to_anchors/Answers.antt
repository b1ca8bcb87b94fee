use Rattle.std.specs.List.{Contains}
use Rattle.certpath_why.specs.Question.{anchors_in}
use Rattle.certpath_why.specs.Reached.{HasSubject}
use Rattle.certpath_why.proofs.Naming.{gathered_as}
use Rattle.certpath_why.proofs.certificates.tails_to_anchors.Goals as goal

pub root_tails_among-requires-clause-side : goal.root_tails_among-requires-clause-side
root_tails_among-requires-clause-side g c = record {
  signed = c.requires.signed.roots;
  firsts = rw c.deref.ensures.value c.requires.signed.root_firsts;
  named = c.in-Some.ensures c.args.question.now.found.now.anchors.now c.requires.named.roots;
  first = c.requires.first;
}

pub new-requires : goal.new-requires
new-requires g c = c.requires.roots.ascends

pub root_tails_among-requires-2-clause-side : goal.root_tails_among-requires-2-clause-side
root_tails_among-requires-2-clause-side g c =
    let q = c.args.question.now in record {
      signed = c.requires.signed.roots;
      firsts = rw c.deref-2.ensures.value c.requires.signed.root_firsts;
      named = gathered_as q.found.now.anchors.now (Contains c.args.roots.now) (HasSubject (anchors_in q) c.args.certificate.now.issuer.now) c.in_ok-named.named c.requires.roots.exact c.in_ok-named.ensures;
      first = c.requires.first;
    }
