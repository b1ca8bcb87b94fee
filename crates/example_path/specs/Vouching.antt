-- What verified signatures vouch for.
use Rattle.std.specs.Prelude.{◌≡◌, ℕ, List, Any}
use Rattle.example_path.specs.declared.verified.Signature.{Signature}

-- the signature is of this key and this item
abbrev pub IsVouched : List ℕ → List ℕ → Signature → Type 0
IsVouched key item s = (s.key.items ≡ key) × (s.item.items ≡ item)

-- one of the signatures is
abbrev pub AreVouched : List ℕ → List ℕ → List Signature → Type 0
AreVouched key item signatures = Any (IsVouched key item) signatures
