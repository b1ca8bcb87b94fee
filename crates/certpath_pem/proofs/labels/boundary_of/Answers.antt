use Rattle.std.proofs.Common.{◌≡◌, ◌∙◌, sym, false}
use Rattle.certpath_pem.specs.Labels.{dashes, holds}
use Rattle.certpath_pem.proofs.HoldFacts.{has_dash, no_dash_is_text, no_dashes_is_text}
use Rattle.certpath_pem.proofs.labels.boundary_of.Goals as goal

pub returns-then-not-contains : goal.returns-then-not-contains
returns-then-not-contains c =
    let none : has_dash c.args.line.now ≡ false = sym c.contains.ensures.value ∙ c.if-not-contains.true in
    sym (no_dash_is_text c.args.line.now none)

pub returns-then-not-holds : goal.returns-then-not-holds
returns-then-not-holds c =
    let none : holds dashes c.args.line.now ≡ false = sym c.holds.ensures ∙ c.if-not-holds.true in
    sym (no_dashes_is_text c.args.line.now none)
