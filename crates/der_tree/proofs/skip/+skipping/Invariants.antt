use Rattle.std.proofs.Common.{◌≡◌, ◌+◌, ◌*◌, ◌≤◌, length}
use Rattle.asn1_core.specs.Counts.{attempts}
use Rattle.der_tree.specs.Tree.{Trees, all_octets, all_count}
use Rattle.der_tree.specs.Shape.{AreObjects}
use Rattle.der_tree.proofs.skip.+skipping.Given as goal

abbrev pub decreases-is_content : goal.decreases-is_content
decreases-is_content l = 5 * l.levels + 4

abbrev pub decreases-are_objects : goal.decreases-are_objects
decreases-are_objects l = 5 * l.levels + 3

abbrev pub decreases-skip_object_counted : goal.decreases-skip_object_counted
decreases-skip_object_counted l = 5 * l.levels + 2

abbrev pub decreases-skip_long : goal.decreases-skip_long
decreases-skip_long l = 5 * l.levels + 1

abbrev pub decreases-skip_element : goal.decreases-skip_element
decreases-skip_element l = 5 * l.levels

-- Objects to the end of the rest make objects to the end of the content, and the other way round.
abbrev pub invariant-are_objects-loop-rest : goal.invariant-are_objects-loop-rest
invariant-are_objects-loop-rest l = record {
  at_most : attempts l.count + length l.rest ≤ attempts l.fn.count + length l.content;
  grows : attempts l.fn.count ≤ attempts l.count;
  so_far : (us : Trees) → AreObjects l.levels us → l.rest ≡ all_octets us →
      (ts : Trees) × AreObjects l.levels ts × (l.content ≡ all_octets ts) × (attempts l.count + all_count us ≡ attempts l.fn.count + all_count ts);
  others : (ts : Trees) → AreObjects l.levels ts → l.content ≡ all_octets ts → (us : Trees) × AreObjects l.levels us × (l.rest ≡ all_octets us);
}

abbrev pub decreases-are_objects-loop-rest : goal.decreases-are_objects-loop-rest
decreases-are_objects-loop-rest l = length l.rest
