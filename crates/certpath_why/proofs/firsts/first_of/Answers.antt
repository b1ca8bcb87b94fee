use Rattle.std.proofs.Common.{sym}
use Rattle.certpath_why.proofs.Firsting.{known_same, first_same, known_more, first_new}
use Rattle.certpath_why.proofs.firsts.first_of.Goals as goal

pub returns-in-Some-clause-known : goal.returns-in-Some-clause-known
returns-in-Some-clause-known c = known_same c.args.rows.now c.args.number c.row_at-row.result c.requires.number c.row_at-row.ensures c.args.known.now c.requires.known c.in-Some.first.now (sym c.in-Some.ensures.value)

pub returns-in-Some-clause-first : goal.returns-in-Some-clause-first
returns-in-Some-clause-first c = first_same c.args.rows.now c.args.number c.row_at-row.result c.requires.number c.row_at-row.ensures c.args.known.now c.requires.known c.in-Some.first.now (sym c.in-Some.ensures.value)

pub returns-clause-known : goal.returns-clause-known
returns-clause-known c = known_more c.args.rows.now c.args.number c.row_at-row.result c.requires.number c.row_at-row.ensures c.args.known.now c.requires.known c.insert.new.self (sym c.in_default.ensures.value) (λ q. c.in_ok-insert.ensures.updates.0 q)

pub returns-clause-first : goal.returns-clause-first
returns-clause-first c = first_new c.args.rows.now c.args.number c.row_at-row.result c.requires.number c.row_at-row.ensures c.args.known.now c.requires.known (sym c.in_default.ensures.value)
