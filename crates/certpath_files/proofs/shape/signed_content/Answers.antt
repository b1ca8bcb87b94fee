use Rattle.std.proofs.Common.{◌≡◌, sym, ◌∙◌, None}
use Rattle.certpath_files.specs.Shapes.{of_three}
use Rattle.certpath_files.specs.PartViews.{part_view}
use Rattle.certpath_files.proofs.ShapeFacts.{signed_is, other_signed, other_algorithm, other_signature, more_behind}
use Rattle.certpath_files.proofs.shape.signed_content.Goals as goal
use Rattle.certpath_files.proofs.shape.signed_content.Goals.{else-signed-eq48-via-then-signed-eq48+then-algorithm-eq48+then-signature-eq3+else-is_empty, else-signed-eq48-via-then-signed-eq48+then-algorithm-eq48+else-signature-eq3, else-signed-eq48-via-then-signed-eq48+else-algorithm-eq48, else-signed-eq48-via-else-signed-eq48}

pub returns-else-signed-eq48 : goal.returns-else-signed-eq48
returns-else-signed-eq48 c =
    let s = part_view c.in_ok-signed.signed in
    let a = part_view c.in_ok-algorithm.algorithm in
    let g = part_view c.in_ok-signature.signature in
    let none : of_three s a g ≡ None =
    elim c.else-signed-eq48.branch [
      | else-signed-eq48-via-then-signed-eq48+then-algorithm-eq48+then-signature-eq3+else-is_empty w ↦ more_behind s a g (sym w.is_empty.ensures ∙ w.if-is_empty.false)
      | else-signed-eq48-via-then-signed-eq48+then-algorithm-eq48+else-signature-eq3 w ↦ other_signature s a g w.if-signature-eq3.false
      | else-signed-eq48-via-then-signed-eq48+else-algorithm-eq48 w ↦ other_algorithm s a g w.if-algorithm-eq48.false
      | else-signed-eq48-via-else-signed-eq48 w ↦ other_signed s a g w.if-signed-eq48.false
    ] in
    sym
    (
    signed_is c.args.octets.now (part_view c.in_ok-whole.whole) s a g c.in_ok-whole.ensures.value c.in_ok-signed.ensures.value c.in_ok-algorithm.ensures.value c.in_ok-signature.ensures.value ∙ none
    )
