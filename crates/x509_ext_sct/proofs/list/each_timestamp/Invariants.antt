use Rattle.std.proofs.Common.{◌≡◌, map, length}
use Rattle.x509_core.specs.Reading.{many_of}
use Rattle.x509_core.proofs.Many.{with_front}
use Rattle.x509_ext_sct.specs.Reading.{timestamp_at}
use Rattle.x509_ext_sct.specs.View.{timestamp_view}
use Rattle.x509_ext_sct.proofs.list.each_timestamp.Given as goal

abbrev pub invariant-loop-rest : goal.invariant-loop-rest
invariant-loop-rest l = with_front (map timestamp_view l.timestamps.items) (many_of timestamp_at l.left) ≡ many_of timestamp_at l.fn.i

abbrev pub decreases-loop-rest : goal.decreases-loop-rest
decreases-loop-rest l = length l.left
