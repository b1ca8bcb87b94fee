-- A stream with the bundles that are fed it, written out by hand: it tries the laws' definitions, not the code.
use Rattle.std.specs.Prelude.{ℕ, false, List, [], ◌∷◌}
use Rattle.cert_framing.specs.declared.ending.End.{End}
use Rattle.cert_framing.specs.declared.ending.End.TheVariants.{Cut}
use Rattle.cert_framing.specs.Held.{Held}

-- the empty SEQUENCE
abbrev pub empty_item : List ℕ
empty_item = 0x30 ∷ 0x00 ∷ []

-- the item, and the first octet of another
abbrev pub stream : List ℕ
stream = 0x30 ∷ 0x00 ∷ 0x30 ∷ []

-- it ends within an item that begins at 2
abbrev pub cut_end : End
cut_end = Cut 2

-- a bundle that was fed nothing, and one that was fed the stream
abbrev pub unfed : Held
unfed = record { limit = 10; items = []; kept = []; has_fault = false; has_failed = false }

abbrev pub fed : Held
fed = record unfed { items = empty_item ∷ []; kept = 0x30 ∷ [] }

-- each position stays where it is
abbrev pub stays : ℕ → ℕ
stays v = v
