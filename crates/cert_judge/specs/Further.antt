-- The critical extensions that aren't judged here: whether they are processed is the caller's.
use Rattle.std.specs.Prelude.{◌≡◌, true, List, All, Any, Contains}
use Rattle.cert_model.specs.Fields.{Identifier, Extension}
use Rattle.cert_judge.specs.Judging.{IsJudgedHere, IsProcessed}

-- the caller processes extensions of any identifier, or of none
abbrev pub any_identifier : Identifier → Type 0
any_identifier identifier = Unit {0}

abbrev pub no_identifier : Identifier → Type 0
no_identifier identifier = ⊥

-- a critical extension of this identifier, which isn't judged here
abbrev pub IsFurther : List Extension → Identifier → Type 0
IsFurther es identifier = Any (λ e. (e.critical ≡ true) × (e.identifier ≡ identifier)) es × (IsJudgedHere identifier → ⊥)

-- The identifiers of the critical extensions that aren't judged here.
pub record AreFurther (es : List Extension) (identifiers : List Identifier) : Type 0 where
  pub whole : All (IsProcessed (Contains identifiers)) es
  pub own : All (IsFurther es) identifiers
