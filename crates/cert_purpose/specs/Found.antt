-- The extensions of an identifier.
use Rattle.std.specs.Prelude.{◌≡◌, List, ◌∷◌, ◌++◌}
use Rattle.cert_model.specs.Fields.{Identifier, Extension}
use Rattle.cert_model.specs.Extended.{IsWithout}
use Rattle.cert_purpose.specs.declared.extension.Value.{Value}
use Rattle.cert_purpose.specs.declared.extension.Value.TheVariants.{Missing, One, More}
use Rattle.cert_purpose.specs.Purposes.{IsOneUnder}

-- two extensions of an identifier
pub record AreMore (identifier : Identifier) (es : List Extension) : Type 0 where
  pub front : List Extension
  pub first : Extension
  pub middle : List Extension
  pub second : Extension
  pub back : List Extension
  pub place : es ≡ (front ++ first ∷ middle) ++ second ∷ back
  pub is_first : first.identifier ≡ identifier
  pub is_second : second.identifier ≡ identifier

abbrev pub Tells : Identifier → List Extension → Value → Type 0
Tells identifier es Missing = IsWithout identifier es
Tells identifier es (One value) = IsOneUnder identifier es value.now
Tells identifier es More = AreMore identifier es
