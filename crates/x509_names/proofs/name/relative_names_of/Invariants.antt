use Rattle.std.proofs.Common.{◌≡◌, ◌+◌, ◌*◌, ◌≤◌, map, length}
use Rattle.std.specs.Prelude.{All}
use Rattle.asn1_core.specs.Counts.{attempts}
use Rattle.x509_core.specs.Reading.{many_of}
use Rattle.x509_core.proofs.Many.{with_front}
use Rattle.x509_names.specs.Reading.{relative_name_at}
use Rattle.x509_names.specs.View.{HasCountedValues, set_view}
use Rattle.x509_names.proofs.name.relative_names_of.Given as goal

abbrev pub invariant-loop-element : goal.invariant-loop-element
invariant-loop-element l = record {
  read : with_front (map set_view l.sets.items) (many_of relative_name_at l.parts.octets) ≡ many_of relative_name_at l.fn.parts.octets;
  counted : All HasCountedValues l.sets.items;
  grows : attempts l.fn.count ≤ attempts l.count;
  shorter : length l.parts.octets ≤ length l.fn.parts.octets;
  most : attempts l.count + 2 * length l.parts.octets ≤ attempts l.fn.count + 2 * length l.fn.parts.octets;
}

abbrev pub decreases-loop-element : goal.decreases-loop-element
decreases-loop-element l = l.parts.elements
