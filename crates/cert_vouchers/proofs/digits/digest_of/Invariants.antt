use Rattle.std.proofs.Common.{◌≡◌, ◌*◌, length, take, drop}
use Rattle.hex.specs.Hex.{decode_pairs}
use Rattle.hex.proofs.Pairs.{prepend}
use Rattle.cert_vouchers.proofs.digits.digest_of.Given as goal

abbrev pub invariant-loop-place : goal.invariant-loop-place
invariant-loop-place l = (length l.digest ≡ 32)
    × (decode_pairs 0 l.digits ≡ prepend (take l.place l.digest) (decode_pairs (2 * l.place) (drop (2 * l.place) l.digits)))
