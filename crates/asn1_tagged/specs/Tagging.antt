-- Elements under a tag of a chosen class and number (X.690, 8.14).
use Rattle.std.specs.Prelude.{◌≡◌, ◌<◌, ◌^◌, ℕ, nat_lt, if◌then◌else◌, true, Option, Some, None, option_map, List}
use Rattle.asn1_core.specs.Elements.{Element}
use Rattle.asn1_any.specs.BerElements.{BerElement, element_of_ber}
use Rattle.asn1_traits.specs.Writes.{Kind, kind_of_element, IsLong, written}

-- an element of this class and tag number
pub record IsTagged (class tag : ℕ) (e : Element) : Type 0 where
  pub class_is : e.class ≡ class
  pub tag_is : e.tag ≡ tag

-- such an element, constructed (X.690, 8.14.2)
pub record IsExplicit (class tag : ℕ) (e : Element) : Type 0 where
  pub tagged : IsTagged class tag e
  pub constructed : e.constructed ≡ true

-- explicit: the content begins with a value; octets after it are not looked at
pub record ExplicitMeans {V : Type 0} (class tag : ℕ) (reads : List ℕ → V → List ℕ → Type 0) (e : BerElement) (v : V) : Type 0 where
  pub explicit : IsExplicit class tag (element_of_ber e)
  pub rest : List ℕ
  pub begins : reads e.content v rest

-- another class and tag number; the constructed bit and the content stay
abbrev pub retagged : ℕ → ℕ → Element → Element
retagged class tag e = record { class = class; constructed = e.constructed; tag = tag; content = e.content }

-- another class and tag number; the constructed bit, the content and the header's length stay
abbrev pub ber_retagged : ℕ → ℕ → BerElement → BerElement
ber_retagged class tag e = record { head = record { class = class; constructed = e.head.constructed; tag = tag; size = e.head.size }; content = e.content }

-- implicit: under the own class and tag number of the value's type the element would mean the value
pub record ImplicitMeans {V : Type 0} (class tag own_class own : ℕ) (means : BerElement → V → Type 0) (e : BerElement) (v : V) : Type 0 where
  pub tagged : IsTagged class tag (element_of_ber e)
  pub meant : means (ber_retagged own_class own e) v

-- numbers above 3 are no class, and nothing is written under one (X.690, 8.1.2.2)
abbrev pub explicit_element : ℕ → ℕ → Option Element → Option Element
explicit_element class tag o = if nat_lt class 4 then Some (record { class = class; constructed = true; tag = tag; content = written o }) else None

abbrev pub implicit_element : ℕ → ℕ → Option Element → Option Element
implicit_element class tag o = if nat_lt class 4 then option_map (retagged class tag) o else None

-- the tag is one, and the value is in DER form
pub record IsExplicitForm (class tag : ℕ) (form : Type 0) : Type 0 where
  pub class_is : class < 4
  pub tag_is : tag < 2 ^ 32
  pub inner : form

-- the kind is of this class and tag number
abbrev pub IsOf : ℕ → ℕ → Option Kind → Type 0
IsOf class tag None = ⊥
IsOf class tag (Some k) = (k.class ≡ class) × (k.tag ≡ tag)

-- the kind is of this class and tag number; the value's own element is of its type's class and tag
-- number, and can be counted
pub record IsImplicitForm (class tag own_class own : ℕ) (form : Type 0) (o : Option Element) : Type 0 where
  pub class_is : class < 4
  pub tag_is : tag < 2 ^ 32
  pub inner : form
  pub own_is : IsOf own_class own (option_map kind_of_element o)
  pub short : IsLong (written o) → ⊥
