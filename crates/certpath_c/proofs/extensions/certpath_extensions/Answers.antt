use Rattle.std.proofs.Common.{rules, ◌≡◌, ◌∙◌, refl, subst, ap, inl, inr, true, false, ℕ, List, length, map}
use Rattle.std.specs.List.{flat_map}
use Rattle.std.proofs.lemmas.List.{length-map}
use Rattle.cert_model.specs.View.{ext_view}
use Rattle.certpath_c.specs.declared.extensions.ExtensionRow.{ExtensionRow}
use Rattle.certpath_c.specs.Extensions.{row_of, extension_octets}
use Rattle.certpath_c.specs.Writing.{PutsBoth}
use Rattle.certpath_c.proofs.Gathered.{gathered_view, mapped_view}
use Rattle.certpath_c.proofs.extensions.certpath_extensions.Goals as goal

pub returns-then-put_both : goal.returns-then-put_both
returns-then-put_both c =
    let h = rw c.in-Some.is at c.in-Ok.ensures in
    let items = c.in-Some.extensions.items in
    let es = map ext_view items in
    let parts = c.in-Ok-octets_of.ensures ∙ ap (flat_map (λ e. extension_octets (ext_view e))) c.deref.ensures.value ∙ gathered_view extension_octets ext_view items in
    let all = c.in-Ok-rows_of.ensures ∙ ap (map (λ e. row_of (ext_view e))) c.deref-2.ensures.value ∙ mapped_view row_of ext_view items in
    let count : c.len.result ≡ length c.in-Ok-rows_of.all.items = search rules in
    let size : c.len-2.result ≡ length c.in-Ok-octets_of.parts.items = search rules in
    let puts : List ℕ → List ExtensionRow → Type 0 = λ o r. PutsBoth c.args.octets.now c.put_both.new.buffer o c.args.rows.now c.put_both.new.other r true in
    let first = subst (λ o. puts o c.deref-4.result.now) (c.deref-3.ensures.value ∙ parts) c.if-put_both.ensures in
    inl (
      refl,
      record {
        class = h.0;
        is_class = h.1;
        extensions = es;
        are_in = h.2;
        count = count ∙ ap length all ∙ length-map es row_of;
        length_is = size ∙ ap length parts;
        written = subst (puts (flat_map extension_octets es)) (c.deref-4.ensures.value ∙ all) first;
      },
    )

pub returns : goal.returns
returns c =
    let h = rw c.in-Some.is at c.in-Ok.ensures in
    let items = c.in-Some.extensions.items in
    let es = map ext_view items in
    let parts = c.in-Ok-octets_of.ensures ∙ ap (flat_map (λ e. extension_octets (ext_view e))) c.deref.ensures.value ∙ gathered_view extension_octets ext_view items in
    let all = c.in-Ok-rows_of.ensures ∙ ap (map (λ e. row_of (ext_view e))) c.deref-2.ensures.value ∙ mapped_view row_of ext_view items in
    let count : c.len.result ≡ length c.in-Ok-rows_of.all.items = search rules in
    let size : c.len-2.result ≡ length c.in-Ok-octets_of.parts.items = search rules in
    let puts : List ℕ → List ExtensionRow → Type 0 = λ o r. PutsBoth c.args.octets.now c.put_both.new.buffer o c.args.rows.now c.put_both.new.other r false in
    let first = subst (λ o. puts o c.deref-4.result.now) (c.deref-3.ensures.value ∙ parts) c.if-put_both.ensures in
    inr (inl (
      refl,
      record {
        class = h.0;
        is_class = h.1;
        extensions = es;
        are_in = h.2;
        count = count ∙ ap length all ∙ length-map es row_of;
        length_is = size ∙ ap length parts;
        written = subst (puts (flat_map extension_octets es)) (c.deref-4.ensures.value ∙ all) first;
      },
    ))
