-- Nothing open below the number of items is nothing open.
use Rattle.std.proofs.Common.{◌≡◌, ℕ, length, true, rules, subst}
use Rattle.std.specs.Prelude.{◌↔◌, Any}
use Rattle.cert_graph.specs.Groups.{HasOpenBelow}
use Rattle.cert_graph.proofs.TableFacts.{shut_iff}
use Rattle.cert_graph.proofs.tables.is_shut.Goals as goal

pub returns : goal.returns
returns c =
    let nodes = c.args.nodes.now in
    let same : c.len.result ≡ length nodes.items.items = search rules in
    shut_iff nodes c.args.row.now c.args.certificate c.may_take_below.result
    (subst (λ (n : ℕ). (c.may_take_below.result ≡ true) ↔ Any (HasOpenBelow nodes c.args.row.now c.args.certificate 0 n) nodes.groups.items) same c.may_take_below.ensures)
