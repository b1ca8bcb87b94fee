use Rattle.std.proofs.Common.{rules, ◌≡◌, ◌∙◌, refl, sym, subst, ap, inl, inr, true, false, ℕ, List, length, map}
use Rattle.std.specs.List.{list_any, count_by}
use Rattle.certpath_pem.specs.Sources.{source_of}
use Rattle.certpath_files.specs.RowViews.{row_view}
use Rattle.certpath_files.specs.ReportViews.{held_in}
use Rattle.certpath_c.specs.declared.loading.LeftOut.{LeftOut}
use Rattle.certpath_c.specs.Loading.{left_rows, is_item, is_signed, form_number}
use Rattle.certpath_c.specs.Writing.{PutsBoth}
use Rattle.certpath_c.proofs.LeftRows.{any_map, count_map}
use Rattle.certpath_c.proofs.loading.certpath_load.Goals as goal

pub returns-then-put_both : goal.returns-then-put_both
returns-then-put_both c =
    let rows = c.in-Ok.report.rows.items in
    let source = source_of c.args.octets.now in
    let left = c.in-Ok-left_rows.ensures ∙ ap (λ l. left_rows 0 (map row_view l)) c.deref.ensures.value in
    let size : c.len.result ≡ length c.in-Ok.report.octets.items = search rules in
    let count : c.len-2.result ≡ length c.in-Ok-left_rows.rows.items = search rules in
    let puts : List ℕ → List LeftOut → Type 0 = λ octets out. PutsBoth c.args.items.now c.put_both.new.buffer octets c.args.left.now c.put_both.new.other out true in
    let octets = subst (λ o. puts o c.deref-5.result.now) c.deref-4.ensures.value c.if-put_both.ensures in
    inl (
      refl,
      record {
        report = held_in c.in-Ok.report;
        report_is = c.in-Ok.ensures;
        form = c.form_number.ensures ∙ ap (λ s. form_number s (list_any (λ r. is_signed (row_view r)) c.deref-2.result.now)) c.source_of.ensures
            ∙ ap (λ l. form_number source (list_any (λ r. is_signed (row_view r)) l)) c.deref-2.ensures.value ∙ ap (form_number source) (sym (any_map is_signed row_view rows));
        length_is = size;
        count = c.item_count.ensures ∙ ap (count_by (λ r. is_item (row_view r))) c.deref-3.ensures.value ∙ sym (count_map is_item row_view rows);
        left_is = count ∙ ap length left;
        written = subst (puts c.in-Ok.report.octets.items) (c.deref-5.ensures.value ∙ left) octets;
      },
    )

pub returns : goal.returns
returns c =
    let rows = c.in-Ok.report.rows.items in
    let source = source_of c.args.octets.now in
    let left = c.in-Ok-left_rows.ensures ∙ ap (λ l. left_rows 0 (map row_view l)) c.deref.ensures.value in
    let size : c.len.result ≡ length c.in-Ok.report.octets.items = search rules in
    let count : c.len-2.result ≡ length c.in-Ok-left_rows.rows.items = search rules in
    let puts : List ℕ → List LeftOut → Type 0 = λ octets out. PutsBoth c.args.items.now c.put_both.new.buffer octets c.args.left.now c.put_both.new.other out false in
    let octets = subst (λ o. puts o c.deref-5.result.now) c.deref-4.ensures.value c.if-put_both.ensures in
    inr (inl (
      refl,
      record {
        report = held_in c.in-Ok.report;
        report_is = c.in-Ok.ensures;
        form = c.form_number.ensures ∙ ap (λ s. form_number s (list_any (λ r. is_signed (row_view r)) c.deref-2.result.now)) c.source_of.ensures
            ∙ ap (λ l. form_number source (list_any (λ r. is_signed (row_view r)) l)) c.deref-2.ensures.value ∙ ap (form_number source) (sym (any_map is_signed row_view rows));
        length_is = size;
        count = c.item_count.ensures ∙ ap (count_by (λ r. is_item (row_view r))) c.deref-3.ensures.value ∙ sym (count_map is_item row_view rows);
        left_is = count ∙ ap length left;
        written = subst (puts c.in-Ok.report.octets.items) (c.deref-5.ensures.value ∙ left) octets;
      },
    ))
