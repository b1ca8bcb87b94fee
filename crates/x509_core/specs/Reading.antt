-- Reading from the front of octets, element by element.
use Rattle.std.specs.Prelude.{ℕ, zero, suc, ◌-◌, ◌==◌, nat_lt, ◌||◌, not, if◌then◌else◌, List, [], ◌∷◌, length, take, Option, Ok, Err, option_map}
use Rattle.std.specs.Result.{result_ok}
use Rattle.asn1_core.specs.Elements.{Element}
use Rattle.asn1_core.specs.Strict.{Head}
use Rattle.asn1_core.specs.Reading.{header_at}
use Rattle.asn1_any.specs.Cutting.{Piece}
use Rattle.asn1_any.specs.Reading.{any_der}
use Rattle.x509_core.specs.Answers.{Answer, unnamed, plain, ◌>>=◌}

-- a value, and the octets after it
abbrev pub Reader : Type 0 → Type 0
Reader A = List ℕ → Answer (A × List ℕ)

-- an element with all its octets
abbrev pub piece_before : List ℕ → Element × List ℕ → Piece × List ℕ
piece_before i p = (record { octets = take (length i - length p.1) i; element = p.0 }, p.1)

unfoldable pub piece_at : Reader Piece
piece_at i = plain (option_map (piece_before i) (any_der i))

-- the element at the front, if one is there
abbrev pub first_piece : List ℕ → Option Piece
first_piece i = option_map (λ p. p.0) (result_ok (piece_at i))

-- a header alone
unfoldable pub front_header_at : Reader Head
front_header_at i = plain (result_ok (header_at i))

-- the content of an element of this tag number
abbrev pub content_in : ℕ → Element → Answer (List ℕ)
content_in n e = if e.tag == n then Ok e.content else Err unnamed

-- the content of a primitive element of this tag number
abbrev pub leaf_in : ℕ → Element → Answer (List ℕ)
leaf_in n e = if not (e.tag == n) || e.constructed then Err unnamed else Ok e.content

-- OBJECT IDENTIFIER: any content
abbrev pub oid_in : Element → Answer (List ℕ)
oid_in = leaf_in 6

-- what an element's content begins with, and what is left of it
abbrev pub inside : {A : Type 0} → ℕ → Reader A → Piece → Answer (A × List ℕ)
inside n p piece = content_in n piece.element >>= p

-- an element of this tag number whose content begins so
abbrev pub box : {A : Type 0} → ℕ → Reader A → Reader A
box n p i = do
  e ← piece_at i
  v ← inside n p e.0
  Ok (v.0, e.1)

-- what is read at the front goes before what is read after it; what takes no octet doesn't begin
abbrev pub many_after : {A : Type 0} → (List ℕ → List A × List ℕ) → List ℕ → Answer (A × List ℕ) → List A × List ℕ
many_after go i (Err e) = ([], i)
many_after go i (Ok x) = if nat_lt (length x.1) (length i) then (x.0 ∷ (go x.1).0, (go x.1).1) else ([], i)

-- as many as begin there, at most n
unfoldable pub many_within : {A : Type 0} → ℕ → Reader A → List ℕ → List A × List ℕ
many_within zero p i = ([], i)
many_within (suc n) p i = many_after (many_within n p) i (p i)

-- an element at the front that is so
abbrev pub next : {A : Type 0} → (Piece → Answer A) → Reader A
next p i = do
  e ← piece_at i
  v ← p e.0
  Ok (v, e.1)

-- as many as begin there
unfoldable pub many_of : {A : Type 0} → Reader A → List ℕ → List A × List ℕ
many_of p i = many_within (length i) p i
