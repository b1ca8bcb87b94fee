-- What was read so far is the content up to the tail, by an attempt for each element.
use Rattle.std.proofs.Common.{◌≡◌, ◌+◌, ◌≤◌, length}
use Rattle.std.specs.Prelude.{All}
use Rattle.std.specs.Int.Digits.{AllBelowBase}
use Rattle.asn1_core.specs.Counts.{attempts}
use Rattle.asn1_any.specs.CutViews.{HasCountedContent, IsLongerThanContent, pieces_of}
use Rattle.asn1_any.proofs.Cuts.{IsCutTo}
use Rattle.asn1_any.proofs.cut.cut_elements_counted.Given as goal

abbrev pub invariant-elements : goal.invariant-elements
invariant-elements l = record {
  cut : IsCutTo l.content (pieces_of l.items.items) l.tail;
  lengths : All HasCountedContent l.items.items;
  longer : All IsLongerThanContent l.items.items;
  below : AllBelowBase 256 l.tail;
  counted : attempts l.count ≡ attempts l.fn.count + length l.items.items;
  most : attempts l.count + length l.tail ≤ attempts l.fn.count + length l.content;
}

abbrev pub decreases-elements : goal.decreases-elements
decreases-elements l = length l.tail
