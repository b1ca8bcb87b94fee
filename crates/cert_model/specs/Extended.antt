-- Extensions by their identifiers (RFC 5280, 4.2.1).
use Rattle.std.specs.Prelude.{◌≡◌, ◌≢◌, ℕ, List, [], ◌∷◌, All, Contains, AllPairs}
use Rattle.cert_model.specs.Fields.{Identifier, Extension}

-- under id-ce, 2.5.29
abbrev pub under_ce : ℕ → Identifier
under_ce n = 0x55 ∷ 0x1d ∷ n ∷ []

abbrev pub subject_key_identifier : Identifier
subject_key_identifier = under_ce 14

abbrev pub key_usage : Identifier
key_usage = under_ce 15

abbrev pub basic_constraints : Identifier
basic_constraints = under_ce 19

abbrev pub name_constraints : Identifier
name_constraints = under_ce 30

abbrev pub authority_key_identifier : Identifier
authority_key_identifier = under_ce 35

abbrev pub policy_constraints : Identifier
policy_constraints = under_ce 36

-- no two extensions have one identifier (RFC 5280, 4.2)
abbrev pub AreDistinct : List Extension → Type 0
AreDistinct es = AllPairs (λ e f. e.identifier ≢ f.identifier) es

-- each value under an identifier is so
unfoldable pub EachUnder : Identifier → (List ℕ → Type 0) → List Extension → Type 0
EachUnder identifier P es = All (λ e. e.identifier ≡ identifier → P e.value) es

-- some value under an identifier is so
unfoldable pub SomeUnder : Identifier → (List ℕ → Type 0) → List Extension → Type 0
SomeUnder identifier P es = (e : Extension) × Contains es e × (e.identifier ≡ identifier) × P e.value

-- an identifier is not there
unfoldable pub IsWithout : Identifier → List Extension → Type 0
IsWithout identifier es = All (λ e. e.identifier ≢ identifier) es
