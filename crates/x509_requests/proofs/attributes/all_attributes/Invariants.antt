use Rattle.std.proofs.Common.{◌≡◌, map, length}
use Rattle.std.specs.Prelude.{All}
use Rattle.x509_core.specs.Reading.{many_of}
use Rattle.x509_core.proofs.Many.{with_front}
use Rattle.x509_ext.specs.Values.{deeply}
use Rattle.x509_requests.specs.Reading.{attribute_at}
use Rattle.x509_requests.specs.View.{attribute_view, IsCountedAttribute, AttributeWantsNoMemory}
use Rattle.x509_requests.proofs.attributes.all_attributes.Given as goal

-- what was read, and what is read of what is left
abbrev pub invariant-loop-left : goal.invariant-loop-left
invariant-loop-left l = record {
  read : with_front (map attribute_view l.attributes.items) (many_of (attribute_at deeply) l.left) ≡ many_of (attribute_at deeply) l.fn.octets;
  counted : All IsCountedAttribute l.attributes.items;
  memory : All AttributeWantsNoMemory l.attributes.items;
}

abbrev pub decreases-loop-left : goal.decreases-loop-left
decreases-loop-left l = length l.left
