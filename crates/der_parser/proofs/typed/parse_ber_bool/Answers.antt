use Rattle.asn1_core.specs.Views.{head_of}
use Rattle.der_tree.specs.View.{element_under, view, content_view}
use Rattle.der_parser.specs.Typed.{HoldsBerBoolean, ReadsTagged}
use Rattle.der_parser.proofs.Trees.{reads_made, reads_held, reads_refused, no_element}
use Rattle.der_parser.proofs.typed.parse_ber_bool.Goals as goal

pub returns-in_err-rest-clause-read : goal.returns-in_err-rest-clause-read
returns-in_err-rest-clause-read c =
    let e = c.in_err-rest.ensures in
    reads_refused view (ReadsTagged 1 HoldsBerBoolean) c.args.i.now c.from_residual.result c.in_err-rest.field-0.0 c.from_residual.ensures.1
    (no_element 1 HoldsBerBoolean c.args.i.now c.in_err-rest.field-0.0 (λ p. e.only p.2 p.0 p.1 p.3 p.4) e.missing e.memory)

pub returns-in-Ok-clause-read : goal.returns-in-Ok-clause-read
returns-in-Ok-clause-read c =
    let found = c.in_ok-rest.element in
    let e = element_under found.header found.content.now in
    reads_made 1 HoldsBerBoolean c.args.i.now found.raw.now c.in_ok-rest.rest.now (head_of found.header) e (content_view c.in-Ok.content) (view c.object_with.result) c.in_ok-rest.ensures.found
    c.in-Ok.ensures.found c.object_with.ensures.tree

pub returns-in-Err-clause-read : goal.returns-in-Err-clause-read
returns-in-Err-clause-read c =
    let found = c.in_ok-rest.element in
    let e = element_under found.header found.content.now in (
      λ p.
          let held = reads_held 1 HoldsBerBoolean c.args.i.now found.raw.now c.in_ok-rest.rest.now (head_of found.header) e c.in_ok-rest.ensures.found p in
          c.in-Err.ensures.none.1 held.0 held.1,
      tt,
      c.in-Err.ensures.none.0,
    )
