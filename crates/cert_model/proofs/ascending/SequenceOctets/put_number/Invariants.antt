use Rattle.std.proofs.Common.{◌≡◌, ◌+◌, ◌≤◌, ◌++◌, length}
use Rattle.std.specs.Int.Digits.{digits_of}
use Rattle.cert_model.proofs.ascending.SequenceOctets.put_number.Given as goal

-- the digits of what is left, before those that are written, are all of them
abbrev pub invariant-loop-left : goal.invariant-loop-left
invariant-loop-left l = record {
  room : length (digits_of 256 l.left) + length l.self ≤ 18;
  whole : digits_of 256 l.number ++ l.fn.self ≡ digits_of 256 l.left ++ l.self;
}

abbrev pub decreases-loop-left : goal.decreases-loop-left
decreases-loop-left l = l.left
