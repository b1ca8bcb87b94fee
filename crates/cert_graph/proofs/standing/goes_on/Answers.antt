-- The groups of what rose last, if nothing falls.
use Rattle.std.proofs.Common.{◌≡◌, ℕ, ◌+◌, ◌-◌, ◌<◌, ◌∙◌, [], List, get_or, length, map, Vec, Global, ap, arith, sym}
use Rattle.cert_graph.specs.declared.changes.Change.{Change}
use Rattle.cert_graph.specs.Adequate.{changed}
use Rattle.cert_graph.proofs.Changing.{items_by}
use Rattle.cert_graph.proofs.Following.{goes_on_iff, step_items}
use Rattle.cert_graph.proofs.Touching.{memberships_within}
use Rattle.cert_graph.proofs.standing.goes_on.Goals as goal

pub follows_some-requires : goal.follows_some-requires
follows_some-requires c = memberships_within c.args.nodes.now c.args.places.now c.requires.places

pub returns : goal.returns
returns c = λ made limits follows.
    let nodes = c.args.nodes.now in
    let steps = c.args.steps.now in
    let before = c.args.before.now in
    let number = c.args.number in
    let k = number - 1 in
    let some : 0 < number = omega (arith, c.if-number-eq0.false) in
    let at : k + 1 ≡ number = omega (arith, some) in
    let within : number < length steps = c.requires.within in
    let inside : k < length steps = omega (arith, within) in
    let step : c.deref.result.now ≡ get_or (items_by steps) number [] = c.deref.ensures.value ∙ step_items steps number c.index-steps-number.result within c.index-steps-number.is in
    let last : c.deref-3.result.now ≡ get_or (items_by steps) k [] = c.deref-3.ensures.value ∙ step_items steps k c.index-steps-number-2.result inside c.index-steps-number-2.is in
    let known = follows k at in
    goes_on_iff nodes (map (λ (l : Vec ℕ Global). l.items) c.args.places.now) c.deref-3.result.now c.deref.result.now known.0 before c.args.row.now c.requires.places
    (known.1 ∙ ap (λ (xs : List Change). changed known.0 xs) (sym last)) (made ∙ ap (λ (xs : List Change). changed before xs) (sym step))
    (c.rises.ensures.0 c.if-not-rises.false) (limits some) known.2 c.follows_some.ensures
