use Rattle.std.proofs.Common.{◌++◌}
use Rattle.std.specs.List.{concat}
use Rattle.cert_judge.proofs.PlacedParts.{after_none, first_of_parts}
use Rattle.cert_judge.proofs.windows.+rest_after.Goals as goal

pub returns-then-count-eq0 : goal.returns-then-count-eq0
returns-then-count-eq0 t c = λ parts rest all l e. after_none parts rest c.args.octets.now c.args.count l c.if-count-eq0.true e

pub returns-in_err-rest : goal.returns-in_err-rest
returns-in_err-rest t c = λ parts rest all l e.
    let f = first_of_parts parts rest c.args.octets.now c.args.count all l c.if-count-eq0.false e in
    let x = c.first_part.ensures f.0 (concat f.1 ++ rest) f.2 f.5 in
    let y = rw c.in_err-rest.was at x in absurd y

pub returns-in_ok-rest : goal.returns-in_ok-rest
returns-in_ok-rest t c = λ parts rest all l e.
    let f = first_of_parts parts rest c.args.octets.now c.args.count all l c.if-count-eq0.false e in
    let x = c.in_ok-rest.ensures f.0 (concat f.1 ++ rest) f.2 f.5 in
    c.rest_after.ensures f.1 rest f.3 f.4 x.1
