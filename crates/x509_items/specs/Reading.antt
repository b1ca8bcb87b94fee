-- Readers of several values, and of parts that may be absent, as functions on octets.
use Rattle.std.specs.Prelude.{ℕ, ◌==◌, ◌&&◌, if◌then◌else◌, List, [], ◌∷◌, Option, Some, None, Ok, Err}
use Rattle.std.specs.Str.{is_utf8}
use Rattle.asn1_core.specs.Elements.{Element}
use Rattle.x509_core.specs.asn1_any.specs.Cutting.{Piece}
use Rattle.x509_core.specs.Answers.{Answer, unnamed, ◌>>=◌}
use Rattle.x509_core.specs.Reading.{Reader, content_in, oid_in, next, many_of}

-- what an element of this tag number holds; what is left of its content is ignored
abbrev pub held : {A : Type 0} → ℕ → Reader A → Piece → Answer A
held n p piece = do
  content ← content_in n piece.element
  v ← p content
  Ok v.0

-- a part that may be absent
abbrev pub maybe_by : {A : Type 0} → List ℕ → Answer (A × List ℕ) → Option A × List ℕ
maybe_by i (Ok x) = (Some x.0, x.1)
maybe_by i (Err e) = (None, i)

abbrev pub maybe_of : {A : Type 0} → Reader A → List ℕ → Option A × List ℕ
maybe_of p i = maybe_by i (p i)

-- one or more
abbrev pub some_by : {A : Type 0} → List A × List ℕ → Answer (List A × List ℕ)
some_by ([], r) = Err unnamed
some_by (x ∷ xs, r) = Ok (x ∷ xs, r)

abbrev pub some_of : {A : Type 0} → Reader A → Reader (List A)
some_of p i = some_by (many_of p i)

-- nothing is left
abbrev pub to_end : {A : Type 0} → A × List ℕ → Answer A
to_end (v, []) = Ok v
to_end (v, x ∷ s) = Err unnamed

-- what reads to the end, as a reader: nothing comes after it
abbrev pub ended : {A : Type 0} → (List ℕ → Answer A) → Reader A
ended p i = do
  v ← p i
  Ok (v, [])

-- to the end
abbrev pub all_of : {A : Type 0} → Reader A → List ℕ → Answer (List A)
all_of p i = to_end (many_of p i)

-- an OBJECT IDENTIFIER at the front
abbrev pub oid_at : Reader (List ℕ)
oid_at = next (λ p. oid_in p.element)

-- the content of a constructed universal element of tag number 16
abbrev pub sequence_in : Element → Answer (List ℕ)
sequence_in e = if (e.class == 0 && e.constructed) && e.tag == 16 then Ok e.content else Err unnamed

abbrev pub sequence_of : {A : Type 0} → Reader A → Piece → Answer A
sequence_of p piece = do
  content ← sequence_in piece.element
  v ← p content
  Ok v.0

-- UTF-8
abbrev pub text_in : List ℕ → Answer (List ℕ)
text_in content = if is_utf8 content then Ok content else Err unnamed
