use Rattle.std.proofs.Common.{◌≡◌, ◌+◌, ◌*◌, ◌≤◌, map, length}
use Rattle.std.specs.Prelude.{All}
use Rattle.asn1_core.specs.Counts.{attempts}
use Rattle.x509_core.specs.Reading.{many_of}
use Rattle.x509_core.proofs.Many.{with_front}
use Rattle.x509_lists.specs.Reading.{entry_at}
use Rattle.x509_ext.specs.Fields.{reading_of}
use Rattle.x509_lists.specs.View.{entry_view, HasSerial, IsCountedEntry, EntryWantsNoMemory}
use Rattle.x509_lists.proofs.entries.each_entry.Given as goal

abbrev pub invariant-loop-element : goal.invariant-loop-element
invariant-loop-element l = record {
  read : with_front (map entry_view l.entries.items) (many_of (entry_at (reading_of l.fn.deep)) l.parts.octets) ≡ many_of (entry_at (reading_of l.fn.deep)) l.fn.parts.octets;
  serials : All HasSerial l.entries.items;
  counted : All IsCountedEntry l.entries.items;
  memory : All EntryWantsNoMemory l.entries.items;
  grows : attempts l.fn.count ≤ attempts l.count;
  shorter : length l.parts.octets ≤ length l.fn.parts.octets;
  most : attempts l.count + 3 * length l.parts.octets ≤ attempts l.fn.count + 3 * length l.fn.parts.octets;
}

abbrev pub decreases-loop-element : goal.decreases-loop-element
decreases-loop-element l = l.parts.elements
