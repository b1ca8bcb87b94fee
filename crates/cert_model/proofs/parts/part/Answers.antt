use Rattle.std.proofs.Common.{arith, ap, ◌∙◌, ◌++◌}
use Rattle.asn1_core.specs.Strict.{Head}
use Rattle.cert_model.proofs.PartFacts.{element_head, content_at}
use Rattle.cert_model.proofs.parts.part.Goals as goal

pub returns-in_default-clause-only : goal.returns-in_default-clause-only
returns-in_default-clause-only c = λ content rest e.
    let h = element_head c.args.class c.args.constructed c.args.tag content rest c.args.octets.now (omega arith) (omega arith) e in
    let x = c.strict.ensures.only _ (content ++ rest) h.0 h.1 in rw c.in_default.is at x

pub returns-then-not-has_identifier-clause-only : goal.returns-then-not-has_identifier-clause-only
returns-then-not-has_identifier-clause-only c = λ content rest e.
    let h = element_head c.args.class c.args.constructed c.args.tag content rest c.args.octets.now (omega arith) (omega arith) e in
    let x = c.in-Ok.ensures.only _ (content ++ rest) h.0 h.1 in
    let t = c.has_identifier.ensures.1 (ap (λ (h : Head). h.class) x.0, ap (λ (h : Head). h.constructed) x.0, ap (λ (h : Head). h.tag) x.0) in
    cc

pub returns-then-size-after-clause-only : goal.returns-then-size-after-clause-only
returns-then-size-after-clause-only c = λ content rest e.
    let h = element_head c.args.class c.args.constructed c.args.tag content rest c.args.octets.now (omega arith) (omega arith) e in
    let x = c.in-Ok.ensures.only _ (content ++ rest) h.0 h.1 in
    let n = c.size_of-size.ensures ∙ ap (λ (h : Head). h.size) x.0 in
    let y = content_at c.size_of-size.result c.in-Ok.after.now content rest n x.1 in
    omega arith

pub returns-clause-only : goal.returns-clause-only
returns-clause-only c = λ content rest e.
    let h = element_head c.args.class c.args.constructed c.args.tag content rest c.args.octets.now (omega arith) (omega arith) e in
    let x = c.in-Ok.ensures.only _ (content ++ rest) h.0 h.1 in
    let n = c.size_of-size.ensures ∙ ap (λ (h : Head). h.size) x.0 in
    let y = content_at c.size_of-size.result c.in-Ok.after.now content rest n x.1 in
    (y.1, y.2)
