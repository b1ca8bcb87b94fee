use Rattle.std.proofs.Common.{◌≡◌, ◌∙◌, sym, subst, Ok, Err}
use Rattle.asn1_any.specs.CutViews.{piece_of}
use Rattle.x509_core.specs.Answers.{unnamed}
use Rattle.x509_core.specs.Parts.{Left, ahead_of}
use Rattle.x509_core.specs.Reading.{piece_at}
use Rattle.x509_core.proofs.InOrder.{before_front}
use Rattle.x509_core.proofs.Pieces.{at_end, at_front}
use Rattle.x509_core.proofs.parts.Parts.next.Goals as goal

pub returns-in_default-clause-read : goal.returns-in_default-clause-read
returns-in_default-clause-read c = (
  λ e. cc,
  subst (λ (p : Left). piece_at p.octets ≡ Err unnamed) c.self.view_is
      (at_end c.self.inside.left.now (ahead_of c.self.inside.ahead) c.self.invariant c.in_default.ensures.none),
)

pub returns-clause-read : goal.returns-clause-read
returns-clause-read c =
    let e = c.in-Some.element in
    let some = c.in-Some.ensures.some in
    let here = before_front _ (ahead_of c.pass.new.self) some.0 e some.1 (c.pass.ensures e some.0 some.1) in
    subst (λ (p : Left). piece_at p.octets ≡ Ok (piece_of e, c.split_at.result.1.now)) c.self.view_is
    (at_front c.self.inside.left.now c.split_at.result.1.now (ahead_of c.self.inside.ahead) (ahead_of c.pass.new.self) e c.self.invariant here c.split_at.ensures.back).read

pub invariant_of-self : goal.invariant_of-self
invariant_of-self c =
    let e = c.in-Some.element in
    let some = c.in-Some.ensures.some in
    let here = before_front _ (ahead_of c.pass.new.self) some.0 e some.1 (c.pass.ensures e some.0 some.1) in
    (at_front c.self.inside.left.now c.split_at.result.1.now (ahead_of c.self.inside.ahead) (ahead_of c.pass.new.self) e c.self.invariant here c.split_at.ensures.back).cut

pub returns-clause-counted : goal.returns-clause-counted
returns-clause-counted c =
    let e = c.in-Some.element in
    let some = c.in-Some.ensures.some in
    let here = before_front _ (ahead_of c.pass.new.self) some.0 e some.1 (c.pass.ensures e some.0 some.1) in
    (at_front c.self.inside.left.now c.split_at.result.1.now (ahead_of c.self.inside.ahead) (ahead_of c.pass.new.self) e c.self.invariant here c.split_at.ensures.back).counted
