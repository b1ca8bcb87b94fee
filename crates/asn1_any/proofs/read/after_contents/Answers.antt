-- Each way through the loop is a step of the walk.
use Rattle.std.proofs.Common.{ap, sym, arith, ◌<◌}
use Rattle.std.proofs.lemmas.Result.{err_from_is_err_and}
use Rattle.asn1_core.specs.Views.{ber_head_of, definite_size}
use Rattle.asn1_core.proofs.Numbers.{octets_below}
use Rattle.asn1_any.proofs.Walks.{starts, done, closed, refused, too_deep, cut, past, into}
use Rattle.asn1_any.proofs.read.after_contents.Goals as goal

pub loop-nested-init : goal.loop-nested-init
loop-nested-init c = starts c.args.within c.args.octets.now (octets_below c.args.octets.now (λ k. omega (arith, c.type_inv.octets k)))

pub loop-nested-preserved-in-Some : goal.loop-nested-preserved-in-Some
loop-nested-preserved-in-Some c =
    closed c.args.within c.args.octets.now c.loop-nested.rest.now c.loop-nested.levels c.loop-nested.nested c.loop-nested.invariant c.in-Some.after.now c.loop-nested-test.true (sym c.in-Some.ensures)

pub returns-in_err-after-in-None : goal.returns-in_err-after-in-None
returns-in_err-after-in-None c =
    let p = err_from_is_err_and c.from_residual.result c.from_residual.ensures.1 in
    let none = sym c.in-None.ensures in
    let all = refused c.args.within c.args.octets.now c.loop-nested.rest.now c.loop-nested.levels c.loop-nested.nested c.loop-nested.invariant c.in_err-after-in-None.field-0.0 c.loop-nested-test.true none
    c.in_err-after-in-None.ensures.exact in
    rw (p.1, p.2) all

pub returns-then-levels-eq0 : goal.returns-then-levels-eq0
returns-then-levels-eq0 c =
    let none = sym c.in-None.ensures in
    too_deep c.args.within c.args.octets.now c.loop-nested.rest.now c.loop-nested.levels c.loop-nested.nested c.loop-nested.invariant (ber_head_of c.in_ok-after-in-None.header) c.in_ok-after-in-None.after.now
    c.loop-nested-test.true none c.in_ok-after-in-None.ensures.exact c.if-levels-eq0.true

pub returns-in_err-behind-in-Definite : goal.returns-in_err-behind-in-Definite
returns-in_err-behind-in-Definite c =
    let p = err_from_is_err_and c.from_residual-in_err-behind-in-Definite.result c.from_residual-in_err-behind-in-Definite.ensures.1 in
    let none = sym c.in-None.ensures in
    let size = ap definite_size (sym c.in-Definite.ensures) in
    let left : 0 < c.loop-nested.levels = omega arith in
    let all = cut c.args.within c.args.octets.now c.loop-nested.rest.now c.loop-nested.levels c.loop-nested.nested c.loop-nested.invariant (ber_head_of c.in_ok-after-in-None.header) c.in_ok-after-in-None.after.now
    c.in-Definite.n c.in_err-behind-in-Definite.field-0.0 c.loop-nested-test.true none c.in_ok-after-in-None.ensures.exact left size c.in_err-behind-in-Definite.ensures in
    rw (p.1, p.2) all

pub loop-nested-smaller-in-Definite : goal.loop-nested-smaller-in-Definite
loop-nested-smaller-in-Definite c =
    let none = sym c.in-None.ensures in
    let size = ap definite_size (sym c.in-Definite.ensures) in
    let left : 0 < c.loop-nested.levels = omega arith in
    (past c.args.within c.args.octets.now c.loop-nested.rest.now c.loop-nested.levels c.loop-nested.nested c.loop-nested.invariant (ber_head_of c.in_ok-after-in-None.header) c.in_ok-after-in-None.after.now
    c.in-Definite.n c.in_ok-behind-in-Definite.field-0-1.now c.in_ok-behind-in-Definite.behind.now c.loop-nested-test.true none c.in_ok-after-in-None.ensures.exact left size
    c.in_ok-behind-in-Definite.ensures).1

pub loop-nested-preserved-in-Definite : goal.loop-nested-preserved-in-Definite
loop-nested-preserved-in-Definite c =
    let none = sym c.in-None.ensures in
    let size = ap definite_size (sym c.in-Definite.ensures) in
    let left : 0 < c.loop-nested.levels = omega arith in
    (past c.args.within c.args.octets.now c.loop-nested.rest.now c.loop-nested.levels c.loop-nested.nested c.loop-nested.invariant (ber_head_of c.in_ok-after-in-None.header) c.in_ok-after-in-None.after.now
    c.in-Definite.n c.in_ok-behind-in-Definite.field-0-1.now c.in_ok-behind-in-Definite.behind.now c.loop-nested-test.true none c.in_ok-after-in-None.ensures.exact left size
    c.in_ok-behind-in-Definite.ensures).0

pub loop-nested-smaller : goal.loop-nested-smaller
loop-nested-smaller c =
    let none = sym c.in-None.ensures in
    let size = ap definite_size (sym c.in-Indefinite.ensures) in
    let left : 0 < c.loop-nested.levels = omega arith in
    (into c.args.within c.args.octets.now c.loop-nested.rest.now c.loop-nested.levels c.loop-nested.nested c.loop-nested.invariant (ber_head_of c.in_ok-after-in-None.header) c.in_ok-after-in-None.after.now
    c.loop-nested-test.true none c.in_ok-after-in-None.ensures.exact left size).1

pub loop-nested-preserved : goal.loop-nested-preserved
loop-nested-preserved c =
    let none = sym c.in-None.ensures in
    let size = ap definite_size (sym c.in-Indefinite.ensures) in
    let left : 0 < c.loop-nested.levels = omega arith in
    (into c.args.within c.args.octets.now c.loop-nested.rest.now c.loop-nested.levels c.loop-nested.nested c.loop-nested.invariant (ber_head_of c.in_ok-after-in-None.header) c.in_ok-after-in-None.after.now
    c.loop-nested-test.true none c.in_ok-after-in-None.ensures.exact left size).0

pub returns : goal.returns
returns c = done c.args.within c.args.octets.now c.loop-nested.rest.now c.loop-nested.levels c.loop-nested.nested c.loop-nested.invariant (omega arith)
