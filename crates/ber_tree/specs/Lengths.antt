-- The lengths in the headers of a BER object: those that were read.
use Rattle.std.specs.Prelude.{◌≡◌, ℕ, List, Option, Some, None, Ok, Err}
use Rattle.asn1_core.specs.Answers.{Answer}
use Rattle.asn1_core.specs.Lenient.{BerHead}
use Rattle.asn1_core.specs.Reading.{ber_header_at}
use Rattle.asn1_core.specs.Strict.{Head}
use Rattle.asn1_core.specs.declared.length.Length.{Length}
use Rattle.asn1_core.specs.declared.length.Length.TheVariants.{Definite, Indefinite}
use Rattle.der_tree.specs.declared.object.BerObject.{BerObject}
use Rattle.der_tree.specs.declared.object.BerObjectContent.{BerObjectContent}
use Rattle.der_tree.specs.Lengths.{lengths_told, lengths_within, lengths_read, lengths_held}
use Rattle.der_tree.specs.Tree.{Content}
use Rattle.der_tree.specs.View.{view}

-- the definite form, or the indefinite one
abbrev pub form_of : Option ℕ → Length
form_of (Some n) = Definite n
form_of None = Indefinite

-- that of a header, if there is one
abbrev pub read_form : Answer BerHead → Length
read_form (Ok p) = form_of p.0.size
read_form (Err e) = Indefinite

-- a node was read with the length of the header that begins its octets
abbrev pub ber_length : Head → List ℕ → Length
ber_length h s = read_form (ber_header_at s)

-- each header in the object, raw elements' too, has the length that was read
abbrev pub TellsAsRead : BerObject → Type 0
TellsAsRead o = lengths_told o ≡ lengths_read ber_length (view o)

-- a content has such lengths, its element's header having this one
abbrev pub HoldsAsRead : Length → BerObjectContent → Content → Type 0
HoldsAsRead length c d = lengths_within c ≡ lengths_held ber_length length d
