use Rattle.certpath_why.proofs.directory.Directory.new.Goals as goal

pub returns : goal.returns
returns c = record {
  chosen = c.in_ok-chosen.chosen.items;
  chosen_are = c.in_ok-chosen.ensures.exact;
  buckets_are = rw c.deref.ensures.value at c.in_ok-buckets.ensures;
}
