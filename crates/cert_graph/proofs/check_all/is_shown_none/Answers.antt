-- The last row shows it.
use Rattle.std.proofs.Common.{◌≡◌, ◌-◌, ◌+◌, ◌<◌, length, true, arith, refl}
use Rattle.cert_graph.specs.Adequate.{row_of}
use Rattle.cert_graph.proofs.Sharing.{pathless_iff, no_row_left}
use Rattle.cert_graph.proofs.TableFacts.{refuted}
use Rattle.cert_graph.proofs.check_all.is_shown_none.Goals as goal

pub returns-then-not-is_certificate : goal.returns-then-not-is_certificate
returns-then-not-is_certificate c = λ rows look table stands many. refuted (λ h. let yes : c.is_certificate.result ≡ true = c.is_certificate.ensures.1 h.certificate in cc)

pub returns-then-count-eq0 : goal.returns-then-count-eq0
returns-then-count-eq0 c = λ rows look table stands many.
    let none : length rows ≡ 0 = omega (arith, c.if-count-eq0.true) in
    refuted (λ h. no_row_left rows h.row none h.one)

pub returns : goal.returns
returns c = λ rows look table stands many.
    let nodes = c.args.nodes.now in
    let other : c.args.count ≡ 0 → ⊥ = c.if-count-eq0.false in
    let k = c.args.count - 1 in
    let within : k < length rows = omega arith in
    let last : k + 1 ≡ length rows = omega arith in
    pathless_iff nodes c.args.target rows (row_of rows k) k (c.is_certificate.ensures.0 c.if-not-is_certificate.false) last refl table stands
    (c.is_closed.ensures rows look within)
