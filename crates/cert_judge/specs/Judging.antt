-- What may be in a path at a moment, and what may issue (RFC 5280, 6.1.3 and 6.1.4, as far as this
-- profile goes).
use Rattle.std.specs.Prelude.{◌≡◌, true, List, ℕ, All, ◌⊎◌, Option, option_map}
use Rattle.cert_model.specs.Fields.{Identifier, CivilTime, Bits, Extension, Certificate}
use Rattle.cert_judge.specs.Moments.{IsBetween}
use Rattle.cert_judge.specs.Constraints.{BasicConstraints, IsBasicConstraints, value_of}
use Rattle.cert_judge.specs.Usage.{IsKeyUsage, MaySignCertificates}
use Rattle.cert_model.specs.Extended.{basic_constraints, key_usage, name_constraints, policy_constraints, AreDistinct, EachUnder, SomeUnder, IsWithout}

-- the value is well written
abbrev pub HasConstraints : List ℕ → Type 0
HasConstraints value = (b : BasicConstraints) × IsBasicConstraints value b

abbrev pub HasUsage : List ℕ → Type 0
HasUsage value = (b : Bits) × IsKeyUsage value b

-- an extension of this identifier is judged here
abbrev pub IsJudgedHere : Identifier → Type 0
IsJudgedHere identifier = (identifier ≡ basic_constraints) ⊎ (identifier ≡ key_usage)

-- a critical extension is judged here, or processed by the caller (RFC 5280, 6.1.4, o)
unfoldable pub IsProcessed : (Identifier → Type 0) → Extension → Type 0
IsProcessed P e = e.critical ≡ true → (IsJudgedHere e.identifier ⊎ P e.identifier)

-- Extensions of a certificate that may be in a path. The caller processes some identifiers' own.
pub record AreUsable (P : Identifier → Type 0) (es : List Extension) : Type 0 where
  -- RFC 5280, 4.2
  pub distinct : AreDistinct es
  -- RFC 5280, 6.1.4, o, and 6.1.5, f
  pub processed : All (IsProcessed P) es
  -- RFC 5280, 4.2.1.9
  pub constraints : EachUnder basic_constraints HasConstraints es
  -- RFC 5280, 4.2.1.3
  pub usage : EachUnder key_usage HasUsage es

-- A certificate may be in a path.
pub record IsUsable (P : Identifier → Type 0) (moment : CivilTime) (c : Certificate) : Type 0 where
  -- RFC 5280, 6.1.3, a 2
  pub valid : IsBetween c.not_before moment c.not_after
  pub extensions : AreUsable P c.extensions

-- the value says that the subject may issue certificates
abbrev pub IsAuthority : List ℕ → Type 0
IsAuthority value = (b : BasicConstraints) × IsBasicConstraints value b × (b.ca ≡ true)

-- the path length constraint of an authority, or none (RFC 5280, 4.2.1.9)
abbrev pub HasPathLen : Option ℕ → List ℕ → Type 0
HasPathLen n value = (b : BasicConstraints) × IsBasicConstraints value b × (b.ca ≡ true) × (option_map value_of b.path_len ≡ n)

-- an extension whose value says that the subject may issue certificates (RFC 5280, 4.2.1.9)
unfoldable pub IsAuthorityExtension : Extension → Type 0
IsAuthorityExtension e = (e.identifier ≡ basic_constraints) × IsAuthority e.value

unfoldable pub IsPathLenExtension : Option ℕ → Extension → Type 0
IsPathLenExtension n e = (e.identifier ≡ basic_constraints) × HasPathLen n e.value

-- the value has keyCertSign
abbrev pub IsSigner : List ℕ → Type 0
IsSigner value = (b : Bits) × IsKeyUsage value b × MaySignCertificates b

-- Extensions that let a usable certificate issue others.
pub record MayIssue (es : List Extension) : Type 0 where
  -- RFC 5280, 6.1.4, k
  pub authority : SomeUnder basic_constraints IsAuthority es
  -- RFC 5280, 6.1.4, n
  pub signer : EachUnder key_usage IsSigner es
  -- name and policy constraints are not processed, so none may be there
  pub no_name_constraints : IsWithout name_constraints es
  pub no_policy_constraints : IsWithout policy_constraints es

-- A certificate may issue others.
pub record IsFitIssuer (P : Identifier → Type 0) (moment : CivilTime) (c : Certificate) : Type 0 where
  pub usable : IsUsable P moment c
  pub issues : MayIssue c.extensions
