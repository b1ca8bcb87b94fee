use Rattle.certpath_why.proofs.positions.in_order.Goals as goal

pub returns : goal.returns
returns c = record {
  ascends = c.in_ok-put_in_order.ensures.ascend;
  exact = rw (c.in_ok-extend_from_slice.ensures.items, c.new-found.ensures.items) at c.in_ok-put_in_order.ensures.kept;
}
