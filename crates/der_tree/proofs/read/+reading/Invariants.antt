use Rattle.std.proofs.Common.{◌≡◌, ◌+◌, ◌*◌, ◌≤◌, ◌++◌, length}
use Rattle.asn1_core.specs.Counts.{attempts}
use Rattle.der_tree.specs.Tree.{Trees, all_octets, all_count}
use Rattle.der_tree.specs.Lengths.{lengths_of_all, all_lengths, definite_length}
use Rattle.der_tree.specs.Shape.{AreObjects}
use Rattle.der_tree.specs.View.{views}
use Rattle.der_tree.proofs.read.+reading.Given as goal

abbrev pub decreases-content_of : goal.decreases-content_of
decreases-content_of l = 3 * l.levels + 2

abbrev pub decreases-objects_of : goal.decreases-objects_of
decreases-objects_of l = 3 * l.levels + 1

abbrev pub decreases-parse_der_recursive_counted : goal.decreases-parse_der_recursive_counted
decreases-parse_der_recursive_counted l = 3 * l.levels

-- What was read are objects, and whatever the content is, the rest is the rest of it.
abbrev pub invariant-objects_of-loop-rest : goal.invariant-objects_of-loop-rest
invariant-objects_of-loop-rest l = record {
  objects : AreObjects l.levels (views l.objects.items);
  lengths : lengths_of_all l.objects.items ≡ all_lengths definite_length (views l.objects.items);
  each : attempts l.count ≡ attempts l.fn.count + all_count (views l.objects.items);
  at_most : attempts l.count + length l.rest ≤ attempts l.fn.count + length l.content;
  so_far : l.content ≡ all_octets (views l.objects.items) ++ l.rest;
  others : (ts : Trees) → AreObjects l.levels ts → l.content ≡ all_octets ts → (us : Trees) × AreObjects l.levels us × (l.rest ≡ all_octets us);
}

abbrev pub decreases-objects_of-loop-rest : goal.decreases-objects_of-loop-rest
decreases-objects_of-loop-rest l = length l.rest
