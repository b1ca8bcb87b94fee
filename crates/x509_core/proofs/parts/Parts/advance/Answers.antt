use Rattle.std.proofs.Common.{◌≡◌, ◌∙◌, ◌+◌, sym, subst, Some, Ok, length}
use Rattle.asn1_any.specs.Cutting.{Piece}
use Rattle.x509_core.specs.Parts.{Left, ahead_of}
use Rattle.x509_core.specs.Reading.{piece_at, first_piece}
use Rattle.x509_core.proofs.InOrder.{before_front}
use Rattle.x509_core.proofs.Pieces.{at_front, passed}
use Rattle.x509_core.proofs.parts.Parts.advance.Goals as goal

pub returns-clause-read : goal.returns-clause-read
returns-clause-read c =
    let e = c.in-Some.element in
    let some = c.in-Some.ensures.some in
    let here = before_front _ (ahead_of c.pass.new.self) some.0 e some.1 (c.pass.ensures e some.0 some.1) in
    let front = at_front c.self.inside.left.now c.split_at.result.1.now (ahead_of c.self.inside.ahead) (ahead_of c.pass.new.self) e c.self.invariant here c.split_at.ensures.back in
    subst (λ (p : Left). (x : Piece) → first_piece p.octets ≡ Some x → piece_at p.octets ≡ Ok (x, c.split_at.result.1.now)) c.self.view_is
    (λ x told. (passed _ _ _ _ front x told).read)

pub returns-clause-shorter : goal.returns-clause-shorter
returns-clause-shorter c =
    let e = c.in-Some.element in
    let some = c.in-Some.ensures.some in
    let here = before_front _ (ahead_of c.pass.new.self) some.0 e some.1 (c.pass.ensures e some.0 some.1) in
    let front = at_front c.self.inside.left.now c.split_at.result.1.now (ahead_of c.self.inside.ahead) (ahead_of c.pass.new.self) e c.self.invariant here c.split_at.ensures.back in
    subst (λ (p : Left). (x : Piece) → first_piece p.octets ≡ Some x → length x.octets + length c.split_at.result.1.now ≡ length p.octets) c.self.view_is
    (λ x told. (passed _ _ _ _ front x told).shorter)

pub invariant_of-self : goal.invariant_of-self
invariant_of-self c =
    let e = c.in-Some.element in
    let some = c.in-Some.ensures.some in
    let here = before_front _ (ahead_of c.pass.new.self) some.0 e some.1 (c.pass.ensures e some.0 some.1) in
    (at_front c.self.inside.left.now c.split_at.result.1.now (ahead_of c.self.inside.ahead) (ahead_of c.pass.new.self) e c.self.invariant here c.split_at.ensures.back).cut
