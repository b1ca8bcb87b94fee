-- Words of grammars beyond those of certificates.
use Rattle.std.specs.Prelude.{◌≡◌, ◌≢◌, ℕ, Bool, false, List, [], Option, Some, None}
use Rattle.x509_core.specs.asn1_any.specs.Cutting.{Piece}
use Rattle.x509_core.specs.asn1_traits.specs.Lists.{IsContainer}
use Rattle.x509_core.specs.Grammar.{Grammar, One, AsMany}

-- one or more, as many as begin there
pub record OneOrMore {A : Type 0} (P : Grammar A) (octets : List ℕ) (vs : List A) (rest : List ℕ) : Type 0 where
  pub some : vs ≢ []
  pub each : AsMany P octets vs rest

-- P, and nothing is left
abbrev pub Ended : {A : Type 0} → Grammar A → Grammar A
Ended P octets v rest = P octets v [] × (rest ≡ [])

-- a constructed universal element of tag number 16 (X.690, 8.9), whose content begins so
pub record HoldsSequence {A : Type 0} (P : Grammar A) (piece : Piece) (v : A) : Type 0 where
  pub container : IsContainer 16 piece.element
  pub left : List ℕ
  pub inner : P piece.element.content v left

abbrev pub Sequence : {A : Type 0} → Grammar A → Grammar A
Sequence P = One (HoldsSequence P)

-- DEFAULT FALSE
abbrev pub or_false : Option Bool → Bool
or_false None = false
or_false (Some b) = b
