-- Names that are written one by one join.
use Rattle.std.proofs.Common.{◌≡◌, ◌∙◌, refl, sym, ap, arith, ℕ, zero, suc, ◌+◌, ◌-◌, ◌<◌, Bool, true, false, ◌||◌, List, [], ◌∷◌, ◌++◌, append_assoc, if◌then◌else◌}
use Rattle.std.specs.Prelude.{codes}
use Rattle.std.specs.List.{flat_map}
use Rattle.x509_ext_flags.specs.Flags.{bit_of}
use Rattle.x509_ext_flags.specs.Texts.{names_set, joined_names, name_piece}

-- what is left to write: each name after a comma, but the first
abbrev pub left_names : Bool → List (List ℕ) → List ℕ
left_names true names = flat_map (λ name. codes ", " ++ name) names
left_names false names = joined_names names

next_name : (begun : Bool) (name : List ℕ) (names : List (List ℕ)) → left_names begun (name ∷ names) ≡ name_piece true begun name ++ left_names (begun || true) names
next_name true name names = refl
next_name false name names = refl

same_begun : (begun : Bool) (names : List (List ℕ)) → left_names begun names ≡ left_names (begun || false) names
same_begun true names = refl
same_begun false names = refl

next_set : (name : ℕ → List ℕ) (flags width at : ℕ) → at < width → bit_of flags at ≡ true → names_set name flags (width - at) at ≡ name at ∷ names_set name flags (width - (at + 1)) (at + 1)
unfolding names_set
next_set name flags width at less is =
    let n : width - at ≡ suc (width - (at + 1)) = omega (arith, less) in
    let next : suc at ≡ at + 1 = omega arith in
    rw (n, is, next) refl

next_clear : (name : ℕ → List ℕ) (flags width at : ℕ) → at < width → bit_of flags at ≡ false → names_set name flags (width - at) at ≡ names_set name flags (width - (at + 1)) (at + 1)
unfolding names_set
next_clear name flags width at less other =
    let n : width - at ≡ suc (width - (at + 1)) = omega (arith, less) in
    let next : suc at ≡ at + 1 = omega arith in
    rw (n, other, next) refl

-- a flag, and those after it
pub next_flag : (name : ℕ → List ℕ) (flags width at : ℕ) (begun set : Bool) → at < width → set ≡ bit_of flags at
    → left_names begun (names_set name flags (width - at) at) ≡ name_piece set begun (name at) ++ left_names (begun || set) (names_set name flags (width - (at + 1)) (at + 1))
next_flag name flags width at begun true less is =
    ap (left_names begun) (next_set name flags width at less (sym is)) ∙ next_name begun (name at) (names_set name flags (width - (at + 1)) (at + 1))
next_flag name flags width at begun false less is =
    ap (left_names begun) (next_clear name flags width at less (sym is)) ∙ same_begun begun (names_set name flags (width - (at + 1)) (at + 1))

nothing_left : (begun : Bool) → left_names begun [] ≡ []
nothing_left true = refl
nothing_left false = refl

pub all_told : (name : ℕ → List ℕ) (flags width at : ℕ) (begun : Bool) → width - at ≡ 0 → left_names begun (names_set name flags (width - at) at) ≡ []
unfolding names_set
all_told name flags width at begun none = rw (none) (nothing_left begun)
