use Rattle.std.proofs.Common.{arith, refl, ap, ◌∙◌, ◌-◌, ◌++◌, length}
use Rattle.asn1_core.specs.Strict.{Head}
use Rattle.cert_model.proofs.PartFacts.{part_head, content_at, front_at}
use Rattle.cert_model.proofs.parts.first_part.Goals as goal

pub returns-in_default : goal.returns-in_default
returns-in_default c = λ part rest p e.
    let h = part_head p.0 rest c.args.octets.now p.1 p.2 (omega arith) (e ∙ ap (λ z. z ++ rest) p.3) in
    let x = c.strict.ensures.only _ (p.0.content ++ rest) h.0 h.1 in rw c.in_default.is at x

pub returns-then-size-after : goal.returns-then-size-after
returns-then-size-after c = λ part rest p e.
    let h = part_head p.0 rest c.args.octets.now p.1 p.2 (omega arith) (e ∙ ap (λ z. z ++ rest) p.3) in
    let x = c.in-Ok.ensures.only _ (p.0.content ++ rest) h.0 h.1 in
    let n = c.size_of-size.ensures ∙ ap (λ (h : Head). h.size) x.0 in
    let y = content_at c.size_of-size.result c.in-Ok.after.now p.0.content rest n x.1 in
    omega arith

pub returns : goal.returns
returns c = λ part rest p e.
    let h = part_head p.0 rest c.args.octets.now p.1 p.2 (omega arith) (e ∙ ap (λ z. z ++ rest) p.3) in
    let x = c.in-Ok.ensures.only _ (p.0.content ++ rest) h.0 h.1 in
    let n = c.size_of-size.ensures ∙ ap (λ (h : Head). h.size) x.0 in
    let y = content_at c.size_of-size.result c.in-Ok.after.now p.0.content rest n x.1 in
    (rw y.2 (front_at c.args.octets.now part rest (length c.args.octets.now - length rest) e refl), y.2)
