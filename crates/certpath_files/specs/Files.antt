-- The rows of a file. This page is to be believed.
use Rattle.std.specs.Prelude.{ℕ, false, List, [], ◌∷◌, ◌++◌}
use Rattle.std.specs.List.{flat_map}
use Rattle.certpath_pem.specs.Sources.{Source, pem, der, utf16, nothing, other, source_of, without_mark}
use Rattle.certpath_pem.specs.Lines.{lines_of}
use Rattle.certpath_pem.specs.Blocks.{entries_of}
use Rattle.certpath_files.specs.Rows.{Row, left_out, at, file, wide_text, empty_file, no_form}
use Rattle.certpath_files.specs.Sequences.{stream_rows}
use Rattle.certpath_files.specs.Blocks.{entry_rows}
use Rattle.certpath_files.specs.Odd.{odd_rows}

-- the rows of the blocks and boundaries of a text, in order
abbrev pub all_entry_rows : List ℕ → List Row
all_entry_rows text = flat_map entry_rows (entries_of text)

-- those, and then the rows of what is no text outside of the blocks
abbrev pub text_rows : List ℕ → List Row
text_rows text = all_entry_rows text ++ odd_rows false 1 (lines_of text)

abbrev pub source_rows : List ℕ → Source → List Row
source_rows octets pem = text_rows (without_mark octets)
source_rows octets der = stream_rows octets
source_rows octets utf16 = left_out (at file) wide_text ∷ []
source_rows octets nothing = left_out (at file) empty_file ∷ []
source_rows octets other = left_out (at file) no_form ∷ []

abbrev pub file_rows : List ℕ → List Row
file_rows octets = source_rows octets (source_of octets)
