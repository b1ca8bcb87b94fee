-- What places show.
use Rattle.std.specs.Borrow.{Bor}
use Rattle.std.specs.Prelude.{◌≡◌, ℕ, List, Option, Some, None, option_map, slice_get}
use Rattle.cert_graph.specs.declared.places.Place.{Place}
use Rattle.cert_graph.specs.declared.places.Part.{Part}
use Rattle.cert_graph.specs.declared.places.Part.TheVariants.{Name, Key, Id}

-- the text of a part, as a reference
abbrev pub part_of : Part → Place → Option (Bor (List ℕ))
part_of Name p = p.name
part_of Key p = p.key
part_of Id p = p.id

abbrev pub shown : Option (Bor (List ℕ)) → Option (List ℕ)
shown o = option_map (λ t. t.now) o

abbrev pub shown_at : Part → Option Place → Option (List ℕ)
shown_at part None = None
shown_at part (Some p) = shown (part_of part p)

-- the text at a place, none past the last
abbrev pub text_at : Part → List Place → ℕ → Option (List ℕ)
text_at part all v = shown_at part (slice_get all v)

-- a place shows a text
abbrev pub Shows : Part → List Place → ℕ → List ℕ → Type 0
Shows part all v q = text_at part all v ≡ Some q
