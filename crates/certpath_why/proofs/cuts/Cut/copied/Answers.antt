use Rattle.std.proofs.Common.{◌∙◌}
use Rattle.certpath_why.proofs.cuts.Cut.copied.Goals as goal

pub returns : goal.returns
returns c = λ rs h. record {
  shown_is = (rw (c.new-shown.ensures.items, c.deref.ensures.value) at c.in_ok-extend_from_slice.ensures.items) ∙ h.shown_is;
  count_is = h.count_is;
}
