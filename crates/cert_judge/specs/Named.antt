-- Key identifiers as the code holds them, if there are any.
use Rattle.std.specs.Prelude.{◌≡◌, ◌↔◌, ℕ, List, Option, Some}
use Rattle.cert_model.specs.Fields.{Certificate}
use Rattle.cert_model.specs.KeyIds.{IsAuthorityKeyId, IsSubjectKeyId}

-- the key identifier that a certificate names for its issuer, or none
abbrev pub NamesKeyId : Certificate → Option (List ℕ) → Type 0
NamesKeyId c o = ∥ ((id : List ℕ) → IsAuthorityKeyId c id ↔ (o ≡ Some id)) ∥₁

-- its own, or none
abbrev pub HasKeyId : Certificate → Option (List ℕ) → Type 0
HasKeyId c o = ∥ ((id : List ℕ) → IsSubjectKeyId c id ↔ (o ≡ Some id)) ∥₁
