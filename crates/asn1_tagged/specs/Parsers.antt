-- Parsers by their tag.
use Rattle.std.specs.Prelude.{◌≡◌, ℕ}
use Rattle.asn1_core.specs.declared.class.Class.TheVariants.{ContextSpecific}
use Rattle.asn1_tagged.specs.declared.parser.OptTaggedParser.{OptTaggedParser}

-- a parser of context-specific elements of this tag number
abbrev pub IsContextParser : ℕ → OptTaggedParser → Type 0
IsContextParser tag p = p ≡ record { class = ContextSpecific; tag = record { 0 = tag } }
