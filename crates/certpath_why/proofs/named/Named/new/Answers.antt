use Rattle.certpath_why.proofs.Naming.{held_none}
use Rattle.certpath_why.proofs.named.Named.new.Goals as goal

pub add_at-requires-clause-before : goal.add_at-requires-clause-before
add_at-requires-clause-before c = record {
  issuers = held_none c.args.found.now.items.now c.new.result c.new.ensures.empty;
  roots = held_none c.args.found.now.anchors.now c.new-2.result c.new-2.ensures.empty;
}
