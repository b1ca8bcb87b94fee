-- What `certpath_extensions` returns.
use Rattle.std.specs.Prelude.{◌≡◌, ◌⊎◌, ◌++◌, ℕ, ℤ, Bool, true, false, cond, List, length, map, Option, Some, None, Vec}
use Rattle.std.specs.List.{flat_map}
use Rattle.std.specs.declared.alloc.Global.{Global}
use Rattle.cert_model.specs.Class.{Class, certificate, list, other, IsClassOf}
use Rattle.cert_model.specs.Fields.{Extension}
use Rattle.cert_model.specs.View.{ext_view}
use Rattle.cert_model.specs.declared.fields.ExtField.{ExtField}
use Rattle.certpath_c.specs.declared.extensions.ExtensionRow.{ExtensionRow}
use Rattle.certpath_c.specs.declared.extensions.ExtensionSizes.{ExtensionSizes}
use Rattle.certpath_c.specs.Status.{done, out_of_memory, too_small, no_field}
use Rattle.certpath_c.specs.Writing.{PutsBoth}

-- how long its parts are, and whether it is critical
abbrev pub row_of : Extension → ExtensionRow
row_of e = record { identifier = length e.identifier; value = length e.value; is_critical = cond e.critical 1 0 }

-- its parts, one after the other
abbrev pub extension_octets : Extension → List ℕ
extension_octets e = e.identifier ++ e.value

-- the extensions of a certificate or a list, in their order
abbrev pub AreExtensionsIn : Class → List Extension → Type 0
AreExtensionsIn (certificate c) es = es ≡ c.extensions
AreExtensionsIn (list l) es = es ≡ l.extensions
AreExtensionsIn other es = ⊥

-- what was read of a class: its extensions, or that it is neither a certificate nor a list
abbrev pub HasExtensionsOf : Class → Option (Vec ExtField Global) → Type 0
HasExtensionsOf class None = class ≡ other
HasExtensionsOf class (Some read) = AreExtensionsIn class (map ext_view read.items)

-- the extensions of the item, put into the buffers, or not, if they don't fit
pub record AreListed (item octets octets' : List ℕ) (rows rows' : List ExtensionRow) (sizes' : ExtensionSizes) (fits : Bool) : Type 0 where
  pub class : Class
  pub is_class : IsClassOf item class
  pub extensions : List Extension
  pub are_in : AreExtensionsIn class extensions
  pub count : sizes'.count ≡ length extensions
  pub length_is : sizes'.length ≡ length (flat_map extension_octets extensions)
  pub written : PutsBoth octets octets' (flat_map extension_octets extensions) rows rows' (map row_of extensions) fits

abbrev pub ExtensionsAnswer : List ℕ → List ℕ → List ℕ → List ExtensionRow → List ExtensionRow → ExtensionSizes → ExtensionSizes → ℤ → Type 0
ExtensionsAnswer item octets octets' rows rows' sizes sizes' status =
    ((status ≡ done) × AreListed item octets octets' rows rows' sizes' true)
    ⊎ ((status ≡ too_small) × AreListed item octets octets' rows rows' sizes' false)
    ⊎ ((status ≡ no_field) × IsClassOf item other × (octets' ≡ octets) × (rows' ≡ rows) × (sizes' ≡ sizes))
    ⊎ ((status ≡ out_of_memory) × (octets' ≡ octets) × (rows' ≡ rows) × (sizes' ≡ sizes))
