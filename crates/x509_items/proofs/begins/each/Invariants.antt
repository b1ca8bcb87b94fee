use Rattle.std.proofs.Common.{◌≡◌, map, length}
use Rattle.std.specs.Prelude.{All}
use Rattle.x509_core.specs.Reading.{many_of}
use Rattle.x509_core.proofs.Many.{with_front}
use Rattle.x509_items.proofs.begins.each.Given as goal

abbrev pub invariant-loop-values : goal.invariant-loop-values
invariant-loop-values g l = record {
  read : with_front (map g.T.Begins.stands_for l.values.items) (many_of g.T.Begins.reader l.left) ≡ many_of g.T.Begins.reader l.fn.i;
  counted : All g.T.Begins.IsCounted l.values.items;
}

abbrev pub decreases-loop-values : goal.decreases-loop-values
decreases-loop-values g l = length l.left
