-- Vectors of elements that are written out.
use Rattle.std.specs.Prelude.{◌<◌, ◌^◌, List, length}
use Rattle.std.specs.Global.{Vec, Global}
use Rattle.std.proofs.Common.{refl}
use Rattle.std.proofs.Math.Nat.{le_refl}
use denote.RawPtr.{null_ptr}

-- the vector of these elements, with no room for more, in an allocator's memory
abbrev pub vec_of : Global → {X : Type 0} (xs : List X) → length xs < 2 ^ 63 → Vec X
vec_of alloc xs small = record { ptr = null_ptr; len = length xs; cap = length xs; alloc = alloc; items = xs; ok = (refl, le_refl _); small = small }
