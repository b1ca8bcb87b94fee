-- What is written of files, and what is said of what is left out. This page is to be believed.
use Rattle.std.specs.Prelude.{ℕ, ◌+◌, List, ◌++◌, map, codes}
use Rattle.std.specs.List.{flat_map, fold}
use Rattle.std.specs.Fmt.{decimal}
use Rattle.certpath_files.specs.Rows.{Held, report_of}
use Rattle.certpath_files.specs.Files.{file_rows}
use Rattle.certpath_bundle.specs.Words.{counted}
use Rattle.certpath_bundle.specs.Lines.{file_lines}
use Rattle.certpath_bundle.specs.Counts.{Counts, zero_counts, with_rows}

-- a file that was read: the word that names it, and all its octets
pub record File : Type 0 where
  pub name : List ℕ
  pub octets : List ℕ

-- the name of a file, and what it holds: the octets of its items, and a row for each item and each
-- thing that is left out
pub record Found : Type 0 where
  pub name : List ℕ
  pub held : Held

abbrev pub found_in : File → Found
found_in file = record { name = file.name; held = report_of (file_rows file.octets) }

-- the octets of all items, one right after the other, in the order of the files and of each file
abbrev pub items_of : List Found → List ℕ
items_of found = flat_map (λ one. one.held.octets) found

abbrev pub lines_of : List Found → List ℕ
lines_of found = flat_map (λ one. file_lines one.name one.held.rows) found

abbrev pub counts_of : List Found → Counts
counts_of found = fold (λ counts one. with_rows counts one.held.rows) zero_counts found

abbrev pub kinds_text : Counts → List ℕ
kinds_text counts =
    codes " (" ++ (counted counts.certificates (codes "certificate") ++ (codes ", " ++ (counted counts.lists (codes "list") ++ codes "), ")))

-- the last line: `bundle: 3 items (2 certificates, 1 list), 3 left out`
abbrev pub summary : Counts → List ℕ
summary counts =
    codes "bundle: " ++ (counted (counts.certificates + counts.lists) (codes "item") ++ (kinds_text counts ++ (decimal counts.left_out ++ codes " left out\n")))

abbrev pub said_of : List Found → List ℕ
said_of found = lines_of found ++ summary (counts_of found)

-- what is written to standard output
abbrev pub bundle_of : List File → List ℕ
bundle_of files = items_of (map found_in files)

-- what is said on standard error
abbrev pub messages_of : List File → List ℕ
messages_of files = said_of (map found_in files)

-- how often something was left out
abbrev pub left_out_of : List File → ℕ
left_out_of files = (counts_of (map found_in files)).left_out
