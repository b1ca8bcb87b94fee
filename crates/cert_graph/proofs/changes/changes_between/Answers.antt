-- One place more.
use Rattle.std.proofs.Common.{◌≡◌, ◌∙◌, ◌<◌, ◌++◌, ◌∷◌, [], ap, arith, get_or, length, Vec, Global}
use Rattle.cert_graph.specs.declared.reach.Reach.TheVariants.{No}
use Rattle.cert_graph.specs.declared.changes.Change.{Change}
use Rattle.cert_graph.specs.Adequate.{changed}
use Rattle.cert_graph.proofs.Changing.{change_noted, same_passed}
use Rattle.cert_graph.proofs.changes.changes_between.Goals as goal
use Rattle.cert_graph.proofs.changes.changes_between.Goals.{then-not-is_same+in_ok-push, else-not-is_same}

pub loop-position-preserved : goal.loop-position-preserved
loop-position-preserved c =
    let before = c.args.before.now in
    let row = c.args.row.now in
    let p = c.loop-position.position in
    let here : p < length row = omega arith in
    elim c.if-not-is_same.branch [
      | then-not-is_same+in_ok-push w ↦
          let pushed : c.if-not-is_same.changes.items ≡ c.loop-position.changes.items ++ record { position = p; reach = get_or row p No } ∷ [] = ap (λ (xs : Vec Change Global). xs.items) w.changes-is ∙ w.in_ok-push.ensures.items in
          change_noted before row c.loop-position.changes.items c.if-not-is_same.changes.items p c.requires here pushed c.loop-position.invariant
      | else-not-is_same w ↦
          let same : get_or before p No ≡ get_or row p No = c.is_same.ensures.0 w.if-not-is_same.false in
          ap (λ (xs : Vec Change Global). changed before xs.items) w.changes-is ∙ same_passed before row c.loop-position.changes.items p c.requires here same c.loop-position.invariant
    ]
