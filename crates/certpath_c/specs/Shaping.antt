-- What `certpath_shape` and `certpath_shapes` answer.
use Rattle.std.specs.Prelude.{◌≡◌, ◌⊎◌, ◌==◌, ℕ, ℤ, Bool, true, false, if◌then◌else◌, List, length, map, Option, Some, None}
use Rattle.cert_framing.specs.declared.ending.End.{End}
use Rattle.cert_framing.specs.Framing.{IsFraming}
use Rattle.certpath_files.specs.Fronts.{Front, whole, passed, stops, front_of}
use Rattle.certpath_files.specs.Shapes.{Kind, kind_of}
use Rattle.certpath_c.specs.Loading.{kind_number}
use Rattle.certpath_c.specs.Status.{done, out_of_memory, too_small}
use Rattle.certpath_c.specs.Writing.{Puts}

abbrev pub is_of_size : ℕ → Front → Bool
is_of_size count (whole size) = size == count
is_of_size count (passed fault size) = false
is_of_size count (stops fault) = false

-- one item of a file and nothing after it: a SEQUENCE in its strict spelling, of at most 16,777,216
-- content octets
abbrev pub is_whole : List ℕ → Bool
is_whole octets = is_of_size (length octets) (front_of octets)

-- CERTPATH_OTHER, CERTPATH_CERTIFICATE, CERTPATH_LIST
abbrev pub number_of : Option Kind → ℕ
number_of None = 0
number_of (Some kind) = kind_number kind

-- the number of what octets are by their shape, as it decides of a file's items
abbrev pub shape_number : List ℕ → ℕ
shape_number octets = if is_whole octets then number_of (kind_of octets) else 0

abbrev pub ShapeAnswer : List ℕ → ℕ → ℤ → Type 0
ShapeAnswer item number' status = (status ≡ done) × (number' ≡ shape_number item)

-- the octets were cut into items, and the numbers of these put into the buffer, or not, if they
-- don't fit
pub record AreAllShaped (octets : List ℕ) (limit : ℕ) (shapes shapes' : List ℕ) (count' : ℕ) (fits : Bool) : Type 0 where
  pub items : List (List ℕ)
  pub end : End
  pub framing : IsFraming limit octets items end
  pub count_is : count' ≡ length items
  pub written : Puts shapes shapes' (map shape_number items) fits

abbrev pub ShapesAnswer : List ℕ → ℕ → List ℕ → List ℕ → ℕ → ℕ → ℤ → Type 0
ShapesAnswer octets limit shapes shapes' count count' status =
    ((status ≡ done) × AreAllShaped octets limit shapes shapes' count' true)
    ⊎ ((status ≡ too_small) × AreAllShaped octets limit shapes shapes' count' false)
    ⊎ ((status ≡ out_of_memory) × (shapes' ≡ shapes) × (count' ≡ count))
