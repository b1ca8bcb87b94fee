-- Purposes of a key, as they are read leniently (RFC 5280, 4.2.1.12). An identifier is given as its
-- content octets.
use Rattle.std.specs.Prelude.{◌≡◌, ◌⊎◌, ℕ, Bool, true, false, List, [], ◌∷◌}
use Rattle.x509_core.specs.asn1_traits.specs.Lists.{OneIs}
use Rattle.x509_core.specs.Grammar.{Grammar, One, ToEnd}
use Rattle.x509_core.specs.Leaves.{IsOid}
use Rattle.x509_items.specs.Grammar.{Sequence}
use Rattle.x509_ext_policies.specs.Values as values

-- anyExtendedKeyUsage, 2.5.29.37.0
abbrev pub any_extended_key_usage : List ℕ
any_extended_key_usage = 0x55 ∷ 0x1d ∷ 0x25 ∷ 0x00 ∷ []

-- id-kp, 1.3.6.1.5.5.7.3, and one arc more
abbrev pub id_kp : ℕ → List ℕ
id_kp n = 0x2b ∷ 0x06 ∷ 0x01 ∷ 0x05 ∷ 0x05 ∷ 0x07 ∷ 0x03 ∷ n ∷ []

-- the purposes that have a flag of their own
abbrev pub named_purposes : List (List ℕ)
named_purposes = any_extended_key_usage ∷ id_kp 1 ∷ id_kp 2 ∷ id_kp 3 ∷ id_kp 4 ∷ id_kp 8 ∷ id_kp 9 ∷ []

-- the identifier is among these
abbrev pub IsAmong : List ℕ → List (List ℕ) → Type 0
IsAmong id ids = OneIs (λ other. other ≡ id) ids

-- the flag says whether the purpose is there
abbrev pub Tells : List ℕ → List (List ℕ) → Bool → Type 0
Tells purpose ids true = IsAmong purpose ids
Tells purpose ids false = IsAmong purpose ids → ⊥

-- the identifiers that aren't among `before`, each at its first place, in their order
unfoldable pub EachOnce : List (List ℕ) → List (List ℕ) → List (List ℕ) → Type 0
EachOnce before [] others = others ≡ []
EachOnce before (id ∷ ids) others =
    (IsAmong id before × EachOnce before ids others)
    ⊎ ((IsAmong id before → ⊥) × (more : List (List ℕ)) × (others ≡ id ∷ more) × EachOnce (id ∷ before) ids more)

-- purposes sorted
pub record AreSorted (ids : List (List ℕ)) (u : values.ExtendedKeyUsage) : Type 0 where
  pub any : Tells any_extended_key_usage ids u.any
  pub server_auth : Tells (id_kp 1) ids u.server_auth
  pub client_auth : Tells (id_kp 2) ids u.client_auth
  pub code_signing : Tells (id_kp 3) ids u.code_signing
  pub email_protection : Tells (id_kp 4) ids u.email_protection
  pub time_stamping : Tells (id_kp 8) ids u.time_stamping
  pub ocsp_signing : Tells (id_kp 9) ids u.ocsp_signing
  pub other : EachOnce named_purposes ids u.other

-- ExtKeyUsageSyntax ::= SEQUENCE SIZE (1..MAX) OF KeyPurposeId, KeyPurposeId ::= OBJECT IDENTIFIER (RFC 5280, 4.2.1.12); the
-- sequence is constructed and universal, and none is taken too
pub record ExtendedKeyUsageParts (octets : List ℕ) (u : values.ExtendedKeyUsage) (rest : List ℕ) : Type 0 where
  pub purposes : List (List ℕ)
  pub each : ToEnd (One IsOid) octets purposes rest
  pub sorted : AreSorted purposes u

abbrev pub ExtendedKeyUsage : Grammar values.ExtendedKeyUsage
ExtendedKeyUsage = Sequence ExtendedKeyUsageParts
