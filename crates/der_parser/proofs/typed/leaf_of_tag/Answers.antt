use Rattle.asn1_core.specs.Views.{head_of}
use Rattle.der_tree.specs.View.{element_under, view, content_view}
use Rattle.der_parser.specs.Typed.{HoldsByTag, ReadsDer}
use Rattle.der_parser.proofs.Trees.{reads_made, reads_held, reads_refused, no_element, line_of_leaf, leaf_of_line}
use Rattle.der_parser.proofs.typed.leaf_of_tag.Goals as goal

pub returns-in_err-rest-clause-read : goal.returns-in_err-rest-clause-read
returns-in_err-rest-clause-read c =
    let e = c.in_err-rest.ensures in
    reads_refused view (ReadsDer c.args.tag.0) c.args.i.now c.from_residual.result c.in_err-rest.field-0.0 c.from_residual.ensures.1
    (no_element c.args.tag.0 (HoldsByTag 49) c.args.i.now c.in_err-rest.field-0.0 (λ p. e.only p.2 p.0 p.1 p.3 p.4) e.missing e.memory)

pub returns-in-Ok-clause-read : goal.returns-in-Ok-clause-read
returns-in-Ok-clause-read c =
    let found = c.in_ok-rest.element in
    let e = element_under found.header found.content.now in
    reads_made c.args.tag.0 (HoldsByTag 49) c.args.i.now found.raw.now c.in_ok-rest.rest.now (head_of found.header) e (content_view c.in-Ok.content) (view c.object_with.result) c.in_ok-rest.ensures.found
    (line_of_leaf 49 e (content_view c.in-Ok.content) c.in-Ok.ensures.found) c.object_with.ensures.tree

pub returns-in-Err-clause-read : goal.returns-in-Err-clause-read
returns-in-Err-clause-read c =
    let found = c.in_ok-rest.element in
    let e = element_under found.header found.content.now in
    let is = c.in_ok-rest.ensures.found in (
      λ p.
          let held = reads_held c.args.tag.0 (HoldsByTag 49) c.args.i.now found.raw.now c.in_ok-rest.rest.now (head_of found.header) e is p in
          c.in-Err.ensures.none.1 held.0 (leaf_of_line 49 c.args.tag.0 e held.0 is.0.tag_is c.requires.sequence c.requires.set held.1),
      tt,
      c.in-Err.ensures.none.0,
    )
