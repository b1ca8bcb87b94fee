-- Octets with a shape are an item of a DER file.
use Rattle.std.proofs.Common.{◌≡◌, ◌∙◌, ap, refl, ℕ, ◌+◌, ◌-◌, ◌==◌, Bool, true, false, List, [], ◌∷◌, ◌++◌, length, Option, Some, None, arith}
use Rattle.std.specs.Prelude.{if◌then◌else◌}
use Rattle.std.proofs.lemmas.List.{append-nil, take_all}
use Rattle.std.proofs.lemmas.Bool.Decides.{nat_tests}
use Rattle.certpath_files.specs.Fronts.{Front, whole, passed, stops, front_of, size_in}
use Rattle.certpath_files.specs.Shapes.{Kind, certificate, list, kind_of}
use Rattle.certpath_files.specs.Rows.{item, at, octet}
use Rattle.certpath_files.specs.Sequences.{stream_rows, rows_at, sequence_rows, item_or_signed_data, either_by}
use Rattle.certpath_files.specs.Walks.{walk, go_on, front_rows}
use Rattle.certpath_c.specs.Loading.{kind_number}
use Rattle.certpath_c.specs.Shaping.{is_of_size, is_whole, number_of, shape_number}

of_whole : (n : ℕ) (f : Front) → is_of_size n f ≡ true → f ≡ whole n
of_whole n (whole size) e = let h : (size == n) ≡ true = e in let same : size ≡ n = grind (arith, nat_tests, h) in ap whole same
of_whole n (passed fault size) e = let h : false ≡ true = e in cc
of_whole n (stops fault) e = let h : false ≡ true = e in cc

of_number : (k : Option Kind) (kind : Kind) → number_of k ≡ kind_number kind → k ≡ Some kind
of_number None certificate e = let h : 0 ≡ 1 = e in absurd (omega (arith, h))
of_number None list e = let h : 0 ≡ 2 = e in absurd (omega (arith, h))
of_number (Some certificate) certificate e = refl
of_number (Some certificate) list e = let h : 1 ≡ 2 = e in absurd (omega (arith, h))
of_number (Some list) certificate e = let h : 2 ≡ 1 = e in absurd (omega (arith, h))
of_number (Some list) list e = refl

no_kind : (kind : Kind) → 0 ≡ kind_number kind → ⊥
no_kind certificate e = let h : 0 ≡ 1 = e in omega (arith, h)
no_kind list e = let h : 0 ≡ 2 = e in omega (arith, h)

by_test : (b : Bool) (k : Option Kind) (kind : Kind) → (if b then number_of k else 0) ≡ kind_number kind → (b ≡ true) × (k ≡ Some kind)
by_test true k kind e = (refl, of_number k kind e)
by_test false k kind e = absurd (no_kind kind e)

-- as many octets are passed over as there are
passed_all : {X : Type 0} (front : List ℕ → Front) (rows : ℕ → ℕ → List ℕ → List X) (offset number : ℕ) (s : List ℕ) → walk front rows (length s) offset number s ≡ []
passed_all front rows offset number [] = refl
passed_all front rows offset number (x ∷ s) = passed_all front rows (offset + 1) number s

pub taken : (octets : List ℕ) (kind : Kind) → shape_number octets ≡ kind_number kind → stream_rows octets ≡ item (at (octet 0)) kind octets ∷ []
taken [] kind e = absurd (let k : ◌≡◌ {A = Option Kind} None (Some kind) = (by_test (is_whole []) (kind_of []) kind e).1 in cc)
taken (x ∷ xs) kind e =
    let octets = x ∷ xs in
    let shape = by_test (is_whole octets) (kind_of octets) kind e in
    let front : front_of octets ≡ whole (length octets) = of_whole (length octets) (front_of octets) shape.0 in
    let here : rows_at 0 0 octets ≡ item (at (octet 0)) kind octets ∷ [] =
    ap (front_rows (at (octet 0)) (sequence_rows item_or_signed_data (octet 0)) octets) front
    ∙ ap (λ z. either_by (octet 0) z (kind_of z)) (take_all (length octets) octets (omega arith))
    ∙ ap (either_by (octet 0) octets) shape.1 in
    let less : length octets - 1 ≡ length xs = omega arith in
    ap (λ f. rows_at 0 0 octets ++ go_on (size_in f) (λ size. walk front_of rows_at (size - 1) 1 1 xs)) front
    ∙ ap (λ n. rows_at 0 0 octets ++ walk front_of rows_at n 1 1 xs) less
    ∙ ap (λ z. rows_at 0 0 octets ++ z) (passed_all front_of rows_at 1 1 xs)
    ∙ append-nil (rows_at 0 0 octets) ∙ here
