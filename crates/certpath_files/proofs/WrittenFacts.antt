-- What is written as PEM is taken.
use Rattle.std.proofs.Common.{◌≡◌, ◌≢◌, ◌∙◌, ap, refl, ℕ, ◌-◌, ◌==◌, true, false, List, [], ◌∷◌, ◌++◌, length, codes, Some, arith}
use Rattle.std.proofs.lemmas.List.{take_all}
use Rattle.std.proofs.lemmas.Bool.Decides.{nat_tests}
use Rattle.std.specs.List.{flat_map}
use Rattle.cert_framing.specs.Framing.{IsItem}
use Rattle.certpath_pem.specs.Blocks.{content_of}
use Rattle.certpath_pem.specs.Writing.{pem_of}
use Rattle.certpath_pem.specs.Laws.{ReadsBack}
use Rattle.certpath_files.specs.Fronts.{most}
use Rattle.certpath_files.specs.Shapes.{Kind, kind_of}
use Rattle.certpath_files.specs.Rows.{Spot, item, at, block}
use Rattle.certpath_files.specs.Sequences.{one_item, item_by}
use Rattle.certpath_files.specs.Blocks.{front_rows, after_rows, octet_rows, content_rows, entry_rows}
use Rattle.certpath_files.specs.Files.{all_entry_rows}
use Rattle.certpath_files.proofs.AddFacts.{append_none}
use Rattle.certpath_files.proofs.FrontFacts.{item_front}

pub some_octets : (o : List ℕ) (kind : Kind) → kind_of o ≡ Some kind → o ≢ []
some_octets [] kind e = λ f. cc
some_octets (a ∷ o) kind _ = λ f. cc

none_behind : (spot : Spot) (n : ℕ) → after_rows false spot (n - n) ≡ []
none_behind spot n = let e : (n - n == 0) ≡ true = grind (arith, nat_tests) in rw e refl

octets_taken : (spot : Spot) (o : List ℕ) (kind : Kind) → IsItem most o → kind_of o ≡ Some kind → octet_rows one_item false spot o ≡ item (at spot) kind o ∷ []
octets_taken spot o kind it shape =
    ap (front_rows one_item false spot o) (item_front o it)
    ∙ ap (λ z. item_by (at spot) z (kind_of z) ++ after_rows false spot (length o - length o)) (take_all (length o) o (omega arith))
    ∙ ap (λ z. item_by (at spot) o z ++ after_rows false spot (length o - length o)) shape
    ∙ ap (λ z. item (at spot) kind o ∷ z) (none_behind spot (length o))

pub taken : (o : List ℕ) (kind : Kind) → IsItem most o → kind_of o ≡ Some kind → ReadsBack (codes "CERTIFICATE") o → all_entry_rows (pem_of (codes "CERTIFICATE") o) ≡ item (at (block 1 (Some (codes "CERTIFICATE")))) kind o ∷ []
taken o kind it shape back =
    ap (flat_map entry_rows) back.entries
    ∙ append_none (content_rows one_item false (block 1 (Some (codes "CERTIFICATE"))) (content_of back.body true))
    ∙ ap (content_rows one_item false (block 1 (Some (codes "CERTIFICATE")))) back.content
    ∙ octets_taken (block 1 (Some (codes "CERTIFICATE"))) o kind it shape
