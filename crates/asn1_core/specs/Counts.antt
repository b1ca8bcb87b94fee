-- How many header attempts a count holds. One call of a header reader is one attempt.
use Rattle.std.specs.Prelude.{ℕ}
use Rattle.asn1_core.specs.declared.count.HeaderCount.{HeaderCount}

abbrev pub attempts : HeaderCount → ℕ
attempts count = count.raised
