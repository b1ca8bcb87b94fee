use Rattle.std.proofs.Common.{◌≡◌, ◌+◌, ◌≤◌, map, length}
use Rattle.std.specs.Prelude.{All}
use Rattle.asn1_core.specs.Counts.{attempts}
use Rattle.x509_core.specs.Reading.{many_of}
use Rattle.x509_core.proofs.Many.{with_front}
use Rattle.x509_names.specs.Reading.{attribute_at}
use Rattle.x509_names.specs.View.{HasCountedValue, attribute_view}
use Rattle.x509_names.proofs.relative.attributes_of.Given as goal

abbrev pub invariant-loop-element : goal.invariant-loop-element
invariant-loop-element l = record {
  read : with_front (map attribute_view l.attributes.items) (many_of attribute_at l.parts.octets) ≡ many_of attribute_at l.fn.parts.octets;
  counted : All HasCountedValue l.attributes.items;
  grows : attempts l.fn.count ≤ attempts l.count;
  shorter : length l.parts.octets ≤ length l.fn.parts.octets;
  most : attempts l.count + length l.parts.octets ≤ attempts l.fn.count + length l.fn.parts.octets;
}

abbrev pub decreases-loop-element : goal.decreases-loop-element
decreases-loop-element l = l.parts.elements
