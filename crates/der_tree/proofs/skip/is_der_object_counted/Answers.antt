use Rattle.std.proofs.Common.{◌∙◌, sym, ap, ◌+◌, []}
use Rattle.std.proofs.lemmas.List.{append-nil}
use Rattle.asn1_core.specs.Counts.{attempts}
use Rattle.der_tree.specs.Tree.{element_count}
use Rattle.der_tree.proofs.Skipped.{alone, none_begins, same_alone}
use Rattle.der_tree.proofs.skip.is_der_object_counted.Goals as goal

pub returns-in-Some-clause-object : goal.returns-in-Some-clause-object
returns-in-Some-clause-object c =
    let found = c.in-Some.ensures.skipped in
    alone c.args.levels c.args.i.now c.in-Some.rest.now found.0 c.is_empty.result found.1 found.2 c.is_empty.ensures

pub returns-in-Some-clause-each : goal.returns-in-Some-clause-each
returns-in-Some-clause-each c = λ t is same.
    let found = c.in-Some.ensures.skipped in
    found.3 ∙ ap (λ z. attempts c.args.count.now + element_count z) (same_alone c.args.levels c.args.i.now c.in-Some.rest.now found.0 t found.1 found.2 is same)

pub returns-in-None-clause-object : goal.returns-in-None-clause-object
returns-in-None-clause-object c = (λ yes. cc, λ object. absurd (none_begins c.args.levels c.args.i.now c.in-None.ensures.skipped object))

pub returns-in-None-clause-each : goal.returns-in-None-clause-each
returns-in-None-clause-each c = λ t is same. absurd (c.in-None.ensures.skipped (t, [], is, sym same ∙ sym (append-nil _)))
