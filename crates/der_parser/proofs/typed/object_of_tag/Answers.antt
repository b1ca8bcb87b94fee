use Rattle.asn1_core.specs.Views.{head_of}
use Rattle.der_tree.specs.View.{element_under, view}
use Rattle.der_tree.proofs.Exits.{weaker, refused}
use Rattle.der_parser.specs.Outcome.{Begins}
use Rattle.der_parser.specs.Typed.{HoldsByTag, ReadsDer}
use Rattle.der_parser.proofs.Trees.{reads_held, wants_refused, no_element, not_missing}
use Rattle.der_parser.proofs.typed.object_of_tag.Goals as goal

pub returns-in_err-rest-clause-read : goal.returns-in_err-rest-clause-read
returns-in_err-rest-clause-read c =
    let e = c.in_err-rest.ensures in
    let none = no_element c.args.tag.0 (HoldsByTag 49) c.args.i.now c.in_err-rest.field-0.0 (λ p. e.only p.2 p.0 p.1 p.3 p.4) e.missing e.memory in
    wants_refused view (ReadsDer c.args.tag.0) c.args.i.now c.from_residual.result c.in_err-rest.field-0.0 c.from_residual.ensures.1
    (refused c.in_err-rest.field-0.0 _ e.memory none.0, none.1)

pub returns-in_err-content-clause-read : goal.returns-in_err-content-clause-read
returns-in_err-content-clause-read c =
    let found = c.in_ok-rest.element in
    let e = element_under found.header found.content.now in
    let i = c.args.i.now in
    let why = c.in_err-content.ensures in
    wants_refused view (ReadsDer c.args.tag.0) i c.from_residual-in_err-content.result c.in_err-content.field-0.0 c.from_residual-in_err-content.ensures.1 (
      weaker c.in_err-content.field-0.0 _ _ (λ none p.
          let held = reads_held c.args.tag.0 (HoldsByTag 49) i found.raw.now c.in_ok-rest.rest.now (head_of found.header) e c.in_ok-rest.ensures.found p in
          none held.0 held.1) why.none,
      not_missing (Begins (ReadsDer c.args.tag.0)) i c.in_err-content.field-0.0 why.whole,
    )
