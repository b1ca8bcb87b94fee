use Rattle.std.proofs.Common.{◌≡◌, ◌+◌, ◌≤◌, map, length}
use Rattle.std.specs.Prelude.{All}
use Rattle.asn1_core.specs.Counts.{attempts}
use Rattle.x509_core.specs.Reading.{many_of}
use Rattle.x509_core.proofs.Many.{with_front}
use Rattle.x509_ext.specs.Reading.{extension_at}
use Rattle.x509_ext.specs.Fields.{reading_of}
use Rattle.x509_ext.specs.View.{extension_view, IsCountedExtension, WantsNoMemory}
use Rattle.x509_ext.proofs.list.each_extension.Given as goal

abbrev pub invariant-loop-element : goal.invariant-loop-element
invariant-loop-element l = record {
  read : with_front (map extension_view l.extensions.items) (many_of (extension_at (reading_of l.fn.deep)) l.parts.octets) ≡ many_of (extension_at (reading_of l.fn.deep)) l.fn.parts.octets;
  counted : All IsCountedExtension l.extensions.items;
  memory : All WantsNoMemory l.extensions.items;
  grows : attempts l.fn.count ≤ attempts l.count;
  shorter : length l.parts.octets ≤ length l.fn.parts.octets;
  most : attempts l.count + length l.parts.octets ≤ attempts l.fn.count + length l.fn.parts.octets;
}

abbrev pub decreases-loop-element : goal.decreases-loop-element
decreases-loop-element l = l.parts.elements
