-- Lines of ranges of which the first are given.
use Rattle.std.specs.Prelude.{◌↔◌}
use Rattle.std.proofs.Common.{◌≡◌, ◌∙◌, refl, ap, sym, ℕ, suc, ◌-◌, List, [], ◌∷◌, ◌++◌, length, take, codes, arith}
use Rattle.std.specs.List.{flat_map}
use Rattle.certpath_why.specs.Cuts.{CutsTo, IsCutOf}
use Rattle.certpath_why.specs.Listed.{listed, more_words, most_names, shown_part}
use Rattle.certpath_why.specs.Ranges.{range_text}
use Rattle.certpath_why.specs.declared.cuts.Cut.{Cut}
use Rattle.certpath_why.specs.declared.ranges.Range.{Range}
use Rattle.certpath_why.proofs.Fating.{ranges_as}
use Rattle.certpath_why.proofs.Tailing.{no_ranges}

pub empty_list : {X : Type 0} (xs : List X) → length xs ≡ 0 → xs ≡ []
empty_list [] e = refl
empty_list (x ∷ xs) e = absurd (omega arith)

first_same : (m : ℕ) (x y : Range) (rest ys : List Range) → x ∷ rest ≡ take (suc m) (y ∷ ys) → x ≡ y
first_same m x y rest ys e = cc

rest_same : (m : ℕ) (x y : Range) (rest ys : List Range) → x ∷ rest ≡ take (suc m) (y ∷ ys) → rest ≡ take m ys
rest_same m x y rest ys e = cc

none_taken : (m : ℕ) (x : Range) (rest : List Range) → x ∷ rest ≡ take (suc m) [] → ⊥
none_taken m x rest e = cc

some_taken : (m : ℕ) (y : Range) (ys : List Range) → take (suc m) (y ∷ ys) ≡ [] → ⊥
some_taken m y ys e = cc

-- what is shown of ranges, by the first of them and their number
pub listed_cut : (rs : List Range) (x : Range) (rest : List Range) (n : ℕ) → x ∷ rest ≡ take most_names rs → n ≡ length rs - most_names
    → listed range_text rs ≡ shown_part (range_text x) ++ (flat_map (λ y. codes ", " ++ shown_part (range_text y)) rest ++ more_words n)
listed_cut [] x rest n e num = absurd (none_taken 19 x rest e)
listed_cut (y ∷ ys) x rest n e num =
    let f = λ (r : Range). codes ", " ++ shown_part (range_text r) in
    let left : length ys - 19 ≡ n = omega arith in
    ap (λ l. shown_part (range_text y) ++ (flat_map f l ++ more_words (length ys - 19))) (sym (rest_same 19 x y rest ys e))
    ∙ ap (λ k. shown_part (range_text y) ++ (flat_map f rest ++ more_words k)) left
    ∙ ap (λ r. shown_part (range_text r) ++ (flat_map f rest ++ more_words n)) (sym (first_same 19 x y rest ys e))

-- nothing is shown of no ranges alone
pub none_shown : (rs : List Range) (cut : Cut) → CutsTo rs cut → cut.shown.items ≡ [] → rs ≡ []
none_shown [] cut h e = refl
none_shown (y ∷ ys) cut h e = absurd (some_taken 19 y ys (sym h.shown_is ∙ e))

pub shown_none : (rs : List Range) (cut : Cut) → CutsTo rs cut → rs ≡ [] → cut.shown.items ≡ []
shown_none rs cut h e = h.shown_is ∙ ap (take most_names) e

-- ---- the positions of a cut

pub cut_as : (P Q : ℕ → Type 0) (cut : Cut) → ((w : ℕ) → P w ↔ Q w) → IsCutOf P cut → IsCutOf Q cut
cut_as P Q cut iff h = (h.0, ranges_as h.0 iff h.1, h.2)

pub cut_none : (P : ℕ → Type 0) (cut : Cut) → ((w : ℕ) → P w → ⊥) → CutsTo [] cut → IsCutOf P cut
cut_none P cut none h = ([], no_ranges P none, h)
