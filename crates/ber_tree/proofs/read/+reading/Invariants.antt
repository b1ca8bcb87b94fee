use Rattle.std.proofs.Common.{◌≡◌, ◌+◌, ◌*◌, ◌++◌, length}
use Rattle.der_tree.specs.Tree.{Trees, all_octets}
use Rattle.der_tree.specs.Lengths.{lengths_of_all, all_lengths}
use Rattle.der_tree.specs.View.{views}
use Rattle.ber_tree.specs.Lengths.{ber_length}
use Rattle.ber_tree.specs.Object.{AreBerObjects}
use Rattle.ber_tree.proofs.read.+reading.Given as goal

abbrev pub decreases-content_of : goal.decreases-content_of
decreases-content_of l = 3 * l.levels + 2

abbrev pub decreases-objects_of : goal.decreases-objects_of
decreases-objects_of l = 3 * l.levels + 1

abbrev pub decreases-object_of : goal.decreases-object_of
decreases-object_of l = 3 * l.levels

-- What was read are objects, and whatever the content is, the rest is the rest of it.
abbrev pub invariant-objects_of-loop-rest : goal.invariant-objects_of-loop-rest
invariant-objects_of-loop-rest l = record {
  objects : AreBerObjects l.levels (views l.objects.items);
  lengths : lengths_of_all l.objects.items ≡ all_lengths ber_length (views l.objects.items);
  so_far : l.content ≡ all_octets (views l.objects.items) ++ l.rest;
  others : (ts : Trees) → AreBerObjects l.levels ts → l.content ≡ all_octets ts → (us : Trees) × AreBerObjects l.levels us × (l.rest ≡ all_octets us);
}

abbrev pub decreases-objects_of-loop-rest : goal.decreases-objects_of-loop-rest
decreases-objects_of-loop-rest l = length l.rest
