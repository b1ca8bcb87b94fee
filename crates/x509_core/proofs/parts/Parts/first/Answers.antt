use Rattle.std.proofs.Common.{◌≡◌, sym, ap, subst, Some, None, option_map, drop, length, refl}
use Rattle.std.specs.Result.{result_ok}
use Rattle.asn1_any.specs.CutViews.{piece_of}
use Rattle.x509_core.specs.Parts.{Left, ahead_of}
use Rattle.x509_core.specs.Reading.{first_piece}
use Rattle.x509_core.proofs.Pieces.{at_end, at_front}
use Rattle.x509_core.proofs.parts.Parts.first.Goals as goal

pub returns-in-None-clause-read : goal.returns-in-None-clause-read
returns-in-None-clause-read c =
    let none = at_end c.self.inside.left.now (ahead_of c.self.inside.ahead) c.self.invariant c.in-None.ensures.none in
    subst (λ (p : Left). ◌≡◌ {A = _} None (first_piece p.octets)) c.self.view_is
    (sym (ap (λ z. option_map (λ p. p.0) (result_ok z)) none))

pub returns-in-Some-clause-read : goal.returns-in-Some-clause-read
returns-in-Some-clause-read c =
    let e = c.in-Some.element in
    let some = c.in-Some.ensures.some in
    let left = c.self.inside.left.now in
    let front = at_front left (drop (length e.octets.now) left) (ahead_of c.self.inside.ahead) some.0 e c.self.invariant some.1 refl in
    subst (λ (p : Left). Some (piece_of e) ≡ first_piece p.octets) c.self.view_is
    (sym (ap (λ z. option_map (λ p. p.0) (result_ok z)) front.read))

pub returns-in-Some-clause-counted : goal.returns-in-Some-clause-counted
returns-in-Some-clause-counted c =
    let e = c.in-Some.element in
    let some = c.in-Some.ensures.some in
    let left = c.self.inside.left.now in
    (at_front left (drop (length e.octets.now) left) (ahead_of c.self.inside.ahead) some.0 e c.self.invariant some.1 refl).counted
