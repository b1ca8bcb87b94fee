use Rattle.std.proofs.Common.{rules, ◌≡◌, ◌∙◌, refl, subst, ap, inl, inr, true, false, List, map, length}
use Rattle.certpath_c.specs.declared.asking.QuestionRow.{QuestionRow}
use Rattle.certpath_c.specs.Asking.{row_of}
use Rattle.certpath_c.specs.Writing.{Puts}
use Rattle.certpath_c.proofs.asking.certpath_questions.Goals as goal

pub returns-then-put : goal.returns-then-put
returns-then-put c =
    let h = c.in-Ok-questions.ensures in
    let asked = c.in-Ok-questions.asked.items in
    let rows = c.in-Ok-rows_of.ensures ∙ ap (map row_of) c.deref.ensures.value in
    let count : c.len.result ≡ length asked = search rules in
    inl (
      refl,
      record {
        classed = h.0;
        classed_anchors = h.1;
        items_cut = record { items = c.in-Ok.items.items; end = c.in-Ok.items.end; framing = c.in-Ok.ensures; are_classed = h.2 };
        anchors_cut = record { items = c.in-Ok-items_of.anchor_items.items; end = c.in-Ok-items_of.anchor_items.end; framing = c.in-Ok-items_of.ensures; are_classed = h.3 };
        questions = asked;
        are_questions = h.4;
        count_is = count;
        written = subst (λ (v : List QuestionRow). Puts c.args.rows.now c.put.new.buffer v true) (c.deref-2.ensures.value ∙ rows) c.if-put.ensures;
      },
    )

pub returns : goal.returns
returns c =
    let h = c.in-Ok-questions.ensures in
    let asked = c.in-Ok-questions.asked.items in
    let rows = c.in-Ok-rows_of.ensures ∙ ap (map row_of) c.deref.ensures.value in
    let count : c.len.result ≡ length asked = search rules in
    inr (inl (
      refl,
      record {
        classed = h.0;
        classed_anchors = h.1;
        items_cut = record { items = c.in-Ok.items.items; end = c.in-Ok.items.end; framing = c.in-Ok.ensures; are_classed = h.2 };
        anchors_cut = record { items = c.in-Ok-items_of.anchor_items.items; end = c.in-Ok-items_of.anchor_items.end; framing = c.in-Ok-items_of.ensures; are_classed = h.3 };
        questions = asked;
        are_questions = h.4;
        count_is = count;
        written = subst (λ (v : List QuestionRow). Puts c.args.rows.now c.put.new.buffer v false) (c.deref-2.ensures.value ∙ rows) c.if-put.ensures;
      },
    ))
