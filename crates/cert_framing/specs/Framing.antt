-- What the items and the end of a stream of octets are. This page is to be believed: it says
-- nothing of pieces, buffers or cursors.
use Rattle.std.specs.Prelude.{◌≡◌, ◌≢◌, ℕ, ◌≤◌, true, length, List, [], ◌++◌}
use Rattle.std.specs.List.{concat, AllByRecursion}
use Rattle.asn1_core.specs.Elements.{element_octets}
use Rattle.cert_framing.specs.declared.ending.End.{End}
use Rattle.cert_framing.specs.declared.ending.End.TheVariants.{Clean, Cut, Fault}

-- a SEQUENCE with these content octets, its length in the one shortest form (X.690, 8.9.1 and 10.1)
abbrev pub sequence_of : List ℕ → List ℕ
sequence_of content = element_octets (record { class = 0; constructed = true; tag = 16; content = content })

-- one SEQUENCE, as certificates and lists are (RFC 5280, 4.1 and 5.1), of any content up to a limit
pub record IsItem (limit : ℕ) (octets : List ℕ) : Type 0 where
  pub content : List ℕ
  pub small : length content ≤ limit
  pub spelled : octets ≡ sequence_of content

-- the stream is these items, one right after another, and then the rest
pub record Splits (limit : ℕ) (stream : List ℕ) (items : List (List ℕ)) (rest : List ℕ) : Type 0 where
  pub whole : stream ≡ concat items ++ rest
  pub each : AllByRecursion (IsItem limit) items

-- no list of items that begins the stream is longer than this one
pub record IsLongest (limit : ℕ) (stream : List ℕ) (items : List (List ℕ)) (rest : List ℕ) : Type 0 where
  pub splits : Splits limit stream items rest
  pub longest : (others : List (List ℕ)) (after : List ℕ) → Splits limit stream others after → length others ≤ length items

-- a proper prefix of some item: more octets, one at least, would make an item of it
abbrev pub IsCutShort : ℕ → List ℕ → Type 0
IsCutShort limit octets = (more : List ℕ) × (more ≢ []) × IsItem limit (octets ++ more)

-- how a stream ends whose items are followed by the rest, which begins at the offset
abbrev pub EndsAs : ℕ → List ℕ → ℕ → End → Type 0
EndsAs limit rest offset Clean = rest ≡ []
EndsAs limit rest offset (Cut at) = (rest ≢ []) × IsCutShort limit rest × (at ≡ offset)
EndsAs limit rest offset (Fault at) = (rest ≢ []) × ¬ (IsCutShort limit rest) × (at ≡ offset)

-- the items of a stream are the longest list of items that begins it; its end says what comes next
pub record IsFraming (limit : ℕ) (stream : List ℕ) (items : List (List ℕ)) (end : End) : Type 0 where
  pub rest : List ℕ
  pub longest : IsLongest limit stream items rest
  pub ends : EndsAs limit rest (length (concat items)) end
