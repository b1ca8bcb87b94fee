-- The character sets of strings of one octet a character.
use Rattle.std.specs.Prelude.{ℕ, Bool, nat_lt}
use Rattle.der_tree.specs.declared.strings.Charset.{Charset}
use Rattle.der_tree.specs.declared.strings.Charset.TheVariants.{Numeric, Printable, Ia5, Visible}
use Rattle.der_tree.specs.Table.{is_numeric, is_printable, is_visible}

abbrev pub has : Charset → ℕ → Bool
has Numeric = is_numeric
has Printable = is_printable
has Ia5 = λ c. nat_lt c 128
has Visible = is_visible
