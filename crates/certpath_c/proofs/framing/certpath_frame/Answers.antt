use Rattle.std.proofs.Common.{refl, subst, ap, ◌∙◌, true, false, List, length, inl, inr}
use Rattle.certpath_c.specs.Writing.{Puts}
use Rattle.certpath_c.specs.declared.framing.Span.{Span}
use Rattle.certpath_c.specs.Framing.{end_number, end_place}
use Rattle.certpath_c.proofs.framing.certpath_frame.Goals as goal

pub returns-then-put : goal.returns-then-put
returns-then-put c =
    let found = c.in-Ok-spans_of.ensures in
    inl (
      refl,
      record {
        items = c.in-Ok.items.items;
        end = c.in-Ok.items.end;
        framing = c.in-Ok.ensures;
        count = c.len.ensures.len;
        at = c.end_place.ensures ∙ ap (end_place (length c.args.octets.now)) c.end.ensures;
        end_is = c.end_number.ensures ∙ ap end_number c.end-2.ensures;
        written = subst (λ (v : List Span). Puts c.args.spans.now c.put.new.buffer v true) (c.deref.ensures.value ∙ found) c.if-put.ensures;
      },
    )

pub returns : goal.returns
returns c =
    let found = c.in-Ok-spans_of.ensures in
    inr (inl (
      refl,
      record {
        items = c.in-Ok.items.items;
        end = c.in-Ok.items.end;
        framing = c.in-Ok.ensures;
        count = c.len.ensures.len;
        at = c.end_place.ensures ∙ ap (end_place (length c.args.octets.now)) c.end.ensures;
        end_is = c.end_number.ensures ∙ ap end_number c.end-2.ensures;
        written = subst (λ (v : List Span). Puts c.args.spans.now c.put.new.buffer v false) (c.deref.ensures.value ∙ found) c.if-put.ensures;
      },
    ))
