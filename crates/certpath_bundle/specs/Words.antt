-- Why something is left out, in words. This page is to be believed.
use Rattle.std.specs.Prelude.{ℕ, ◌==◌, if◌then◌else◌, List, ◌∷◌, ◌++◌, codes}
use Rattle.std.specs.Fmt.{decimal}
use Rattle.certpath_files.specs.Fronts.{Fault, no_sequence, no_length, too_long, missing, long_form}
use Rattle.certpath_files.specs.Rows.{Reason, empty_file, no_form, wide_text, faulty, to_end, no_item, behind, no_end, with_headers, no_octets, not_base64, other_label, unknown_label, stray, no_boundary, no_text, no_signed_data, no_members}

-- more than one, or none
abbrev pub plural : ℕ → List ℕ → List ℕ
plural count word = if count == 1 then word else word ++ codes "s"

-- a number and the word for so many, as `2 octets`
abbrev pub counted : ℕ → List ℕ → List ℕ
counted count word = decimal count ++ 32 ∷ plural count word

abbrev pub octets : ℕ → List ℕ
octets count = counted count (codes "octet")

abbrev pub fault_words : Fault → List ℕ
fault_words no_sequence = codes "neither certificate nor revocation list"
fault_words no_length = codes "its length is indefinite (BER) or cut"
fault_words too_long = codes "its length is above 16777216"
fault_words (missing count) = octets count ++ codes " of it missing"
fault_words long_form = codes "its length is not in the shortest form (BER)"

abbrev pub reason_words : Reason → List ℕ
reason_words empty_file = codes "the file is empty"
reason_words no_form = codes "the file is neither PEM nor DER"
reason_words wide_text = codes "the file is a text in UTF-16"
reason_words (faulty fault) = fault_words fault
reason_words (to_end fault count) = fault_words fault ++ (codes ", " ++ (octets count ++ codes " to the end"))
reason_words no_item = codes "neither certificate nor revocation list"
reason_words (behind count) = octets count ++ codes " after the item"
reason_words no_end = codes "its END is missing"
reason_words with_headers = codes "header lines within"
reason_words no_octets = codes "there is nothing in it"
reason_words not_base64 = codes "not base64"
reason_words other_label = codes "the block holds neither certificate nor revocation list"
reason_words unknown_label = codes "the label isn't known"
reason_words stray = codes "an END that ends no block"
reason_words no_boundary = codes "a BEGIN or an END that is no line of its own (are newlines missing?)"
reason_words no_text = codes "octets around the blocks that are no text"
reason_words no_signed_data = codes "no SignedData in DER"
reason_words no_members = codes "SignedData without certificates and revocation lists"
