-- What pairs vouch for.
use Rattle.std.specs.Prelude.{◌≡◌, ℕ, List, Any}
use Rattle.rows_check.specs.declared.vouching.VouchedPair.{VouchedPair}

-- a pair of this key and item
abbrev pub IsVouched : List ℕ → List ℕ → VouchedPair → Type 0
IsVouched key item p = (p.key.items ≡ key) × (p.item.items ≡ item)

-- one of the pairs is
abbrev pub AreVouched : List ℕ → List ℕ → List VouchedPair → Type 0
AreVouched key item pairs = Any (IsVouched key item) pairs
