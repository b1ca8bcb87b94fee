use Rattle.std.proofs.Common.{rules, ◌≡◌, ◌∙◌, refl, sym, subst, ap, inl, inr, true, false, ℕ, List, length}
use Rattle.certpath_c.specs.Contents.{found_view, HasTimes}
use Rattle.certpath_c.specs.Writing.{Puts}
use Rattle.certpath_c.proofs.contents.certpath_item.Goals as goal

pub returns-then-put : goal.returns-then-put
returns-then-put c =
    let h = c.in-Ok.ensures in
    let read = c.in-Ok.read in
    let found = found_view read.found in
    let octets = c.deref.ensures.value ∙ c.in-Ok-joined.ensures in
    let size : c.len.result ≡ length c.in-Ok-joined.fields.items = search rules in
    let put = c.contents_of.ensures in
    inl (
      refl,
      record {
        class = h.0;
        is_class = h.1;
        class_is = put.class ∙ h.2.class_is;
        times = subst (HasTimes h.0) (sym put.validity) h.2.times;
        fields = found;
        are_fields = h.2.fields;
        extents = put.extents;
        length_is = put.length_is ∙ size ∙ ap length c.in-Ok-joined.ensures;
        item_digest = put.item_digest;
        key_digest = put.key_digest;
        written = subst (λ (v : List ℕ). Puts c.args.octets.now c.put.new.buffer v true) octets c.if-put.ensures;
      },
    )

pub returns : goal.returns
returns c =
    let h = c.in-Ok.ensures in
    let read = c.in-Ok.read in
    let found = found_view read.found in
    let octets = c.deref.ensures.value ∙ c.in-Ok-joined.ensures in
    let size : c.len.result ≡ length c.in-Ok-joined.fields.items = search rules in
    let put = c.contents_of.ensures in
    inr (inl (
      refl,
      record {
        class = h.0;
        is_class = h.1;
        class_is = put.class ∙ h.2.class_is;
        times = subst (HasTimes h.0) (sym put.validity) h.2.times;
        fields = found;
        are_fields = h.2.fields;
        extents = put.extents;
        length_is = put.length_is ∙ size ∙ ap length c.in-Ok-joined.ensures;
        item_digest = put.item_digest;
        key_digest = put.key_digest;
        written = subst (λ (v : List ℕ). Puts c.args.octets.now c.put.new.buffer v false) octets c.if-put.ensures;
      },
    ))
