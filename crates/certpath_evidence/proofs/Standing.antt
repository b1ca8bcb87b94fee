-- Which line may come after the lines so far.
use Rattle.std.proofs.Common.{◌≡◌, ◌≢◌, ◌∙◌, sym, ap, ℕ, List, [], ◌∷◌, ◌++◌, length, map, arith, append_assoc, inl, inr, ◌⊎◌}
use Rattle.std.specs.List.{flat_map, AllByRecursion}
use Rattle.std.proofs.lemmas.List.{append-nil, map-append}
use Rattle.std.proofs.lemmas.Grind.{flat_map-append}
use Rattle.std.specs.Fmt.{decimal}
use Rattle.cert_graph.specs.declared.changes.Change.{Change}
use Rattle.certpath_evidence.specs.Answers.{NoneGoesOn}
use Rattle.certpath_evidence.specs.Evidence.{Said, path, pathless, no_certificate, verdict_line, reach_words, change_line, row_line, row_lines, lines_after, lines_of, FitsSaid, FitsChange}
use Rattle.certpath_evidence.proofs.Pieces.{HasNo, not_there, nowhere, no_more, head, tail}

abbrev pub flat : List (List Change) → List (List ℕ)
flat rows = flat_map row_lines rows

no_space : HasNo 32 row_line
no_space = no_more 32 114 (111 ∷ 119 ∷ []) (λ e. absurd (omega arith)) (no_more 32 111 (119 ∷ []) (λ e. absurd (omega arith)) (no_more 32 119 [] (λ e. absurd (omega arith)) (nowhere 32)))

pub row_not_change : (c : Change) → row_line ≡ change_line c → ⊥
row_not_change c e = not_there 32 row_line (decimal c.position) (reach_words c.reach) no_space e

pub row_not_verdict : (s : Said) → row_line ≡ verdict_line s → ⊥
row_not_verdict (path ps a) e = let h : ◌≡◌ {A = ℕ} 114 112 = ap (head 0) e in absurd (omega arith)
row_not_verdict pathless e = let h : ◌≡◌ {A = ℕ} 114 110 = ap (head 0) e in absurd (omega arith)
row_not_verdict no_certificate e = let h : ◌≡◌ {A = ℕ} 114 110 = ap (head 0) e in absurd (omega arith)

pub first_of : {x y : List ℕ} {xs ys : List (List ℕ)} → x ∷ xs ≡ y ∷ ys → x ≡ y
first_of {x} {y} {xs} {ys} e = ap (head x) e

pub not_none : {x : List ℕ} {xs : List (List ℕ)} → x ∷ xs ≡ [] → ⊥
not_none e = absurd (omega (arith, ap length e))

-- a line that begins a row, or holds a change
abbrev IsOfRows : List ℕ → Type 0
IsOfRows line = (line ≡ row_line) ⊎ ((c : Change) × FitsChange c × (line ≡ change_line c))

-- a line that begins a row, or holds a verdict
abbrev IsOfVerdicts : List ℕ → Type 0
IsOfVerdicts line = (line ≡ row_line) ⊎ ((s : Said) × FitsSaid s × (line ≡ verdict_line s))

changes_on : (r s : List Change) (rows ss : List (List Change)) (line : List ℕ) (more : List (List ℕ)) → AllByRecursion FitsChange s → map change_line r ++ (flat rows ++ line ∷ more) ≡ map change_line s ++ flat ss
    → (flat rows ++ line ∷ more ≡ flat ss) ⊎ ((c : Change) × FitsChange c × (line ≡ change_line c))
changes_on [] [] rows ss line more fits e = inl e
changes_on [] (d ∷ s) [] ss line more fits e = inr (d, fits.0, first_of e)
changes_on [] (d ∷ s) (x ∷ rows) ss line more fits e = absurd (row_not_change d (first_of e))
changes_on (c ∷ r) [] rows [] line more fits e = absurd (not_none e)
changes_on (c ∷ r) [] rows (y ∷ ss) line more fits e = absurd (row_not_change c (sym (first_of e)))
changes_on (c ∷ r) (d ∷ s) rows ss line more fits e = changes_on r s rows ss line more fits.1 (ap tail e)

rows_on : (rows ss : List (List Change)) (line : List ℕ) (more : List (List ℕ)) → AllByRecursion (AllByRecursion FitsChange) ss → flat rows ++ line ∷ more ≡ flat ss → IsOfRows line
rows_on [] [] line more fits e = absurd (not_none e)
rows_on [] (s ∷ ss) line more fits e = inl (first_of e)
rows_on (r ∷ rows) [] line more fits e = absurd (not_none e)
rows_on (r ∷ rows) (s ∷ ss) line more fits e =
    elim (changes_on r s rows ss line more fits.0 (sym (append_assoc (map change_line r) (flat rows) (line ∷ more)) ∙ ap tail e)) [
      | inl rest ↦ rows_on rows ss line more fits.1 rest
      | inr c ↦ inr c
    ]

first_on : (vs ws : List Said) (ss : List (List Change)) (line : List ℕ) (more : List (List ℕ)) → AllByRecursion FitsSaid ws → map verdict_line vs ++ line ∷ more ≡ map verdict_line ws ++ flat ss → IsOfVerdicts line
first_on [] [] [] line more fits e = absurd (not_none e)
first_on [] [] (s ∷ ss) line more fits e = inl (first_of e)
first_on [] (w ∷ ws) ss line more fits e = inr (w, fits.0, first_of e)
first_on (v ∷ vs) [] [] line more fits e = absurd (not_none e)
first_on (v ∷ vs) [] (s ∷ ss) line more fits e = absurd (row_not_verdict v (sym (first_of e)))
first_on (v ∷ vs) (w ∷ ws) ss line more fits e = first_on vs ws ss line more fits.1 (ap tail e)

then_on : (vs ws : List Said) (r : List Change) (rows ss : List (List Change)) (line : List ℕ) (more : List (List ℕ)) → AllByRecursion (AllByRecursion FitsChange) ss
    → map verdict_line vs ++ (flat (r ∷ rows) ++ line ∷ more) ≡ map verdict_line ws ++ flat ss → IsOfRows line
then_on [] [] r rows ss line more fits e = rows_on (r ∷ rows) ss line more fits e
then_on [] (w ∷ ws) r rows ss line more fits e = absurd (row_not_verdict w (first_of e))
then_on (v ∷ vs) [] r rows [] line more fits e = absurd (not_none e)
then_on (v ∷ vs) [] r rows (s ∷ ss) line more fits e = absurd (row_not_verdict v (sym (first_of e)))
then_on (v ∷ vs) (w ∷ ws) r rows ss line more fits e = then_on vs ws r rows ss line more fits (ap tail e)

-- no evidence goes on with this line

pub none_after_verdicts : (vs : List Said) (rows : List (List Change)) (line : List ℕ) → rows ≡ [] → line ≢ row_line → ((s : Said) → FitsSaid s → line ≡ verdict_line s → ⊥)
    → NoneGoesOn (lines_of (record { verdicts = vs; rows = rows })) line
none_after_verdicts vs rows line none row verdict = λ other more fits e.
    let before : lines_after vs rows ≡ map verdict_line vs = ap (λ z. map verdict_line vs ++ flat z) none ∙ append-nil (map verdict_line vs) in
    let all = sym (ap tail e ∙ ap (λ z. z ++ line ∷ more) before) in
    elim (first_on vs other.verdicts other.rows line more fits.verdicts all) [ inl r ↦ row r | inr s ↦ verdict s.0 s.1 s.2 ]

pub none_after_rows : (vs : List Said) (rows front : List (List Change)) (step : List Change) (line : List ℕ) → rows ≡ front ++ step ∷ [] → line ≢ row_line → ((c : Change) → FitsChange c → line ≡ change_line c → ⊥)
    → NoneGoesOn (lines_of (record { verdicts = vs; rows = rows })) line
none_after_rows vs [] front step line is row change = λ other more fits e. some front is
  where
    some : (front : List (List Change)) → [] ≡ front ++ step ∷ [] → ⊥
    some [] h = absurd (omega (arith, ap length h))
    some (x ∷ xs) h = absurd (omega (arith, ap length h))
none_after_rows vs (r ∷ rows) front step line is row change = λ other more fits e.
    let all = sym (append_assoc (map verdict_line vs) (flat (r ∷ rows)) (line ∷ more)) ∙ sym (ap tail e) in
    elim (then_on vs other.verdicts r rows other.rows line more fits.rows all) [ inl s ↦ row s | inr c ↦ change c.0 c.1 c.2 ]

-- one line more

pub row_added : (vs : List Said) (rows : List (List Change)) → lines_after vs (rows ++ [] ∷ []) ≡ lines_after vs rows ++ row_line ∷ []
row_added vs rows = ap (λ z. map verdict_line vs ++ z) (flat_map-append row_lines rows ([] ∷ [])) ∙ sym (append_assoc (map verdict_line vs) (flat rows) (row_line ∷ []))

pub verdict_added : (vs : List Said) (rows : List (List Change)) (s : Said) → rows ≡ [] → lines_after (vs ++ s ∷ []) rows ≡ lines_after vs rows ++ verdict_line s ∷ []
verdict_added vs rows s none =
    ap (λ z. map verdict_line (vs ++ s ∷ []) ++ flat z) none ∙ append-nil (map verdict_line (vs ++ s ∷ [])) ∙ map-append verdict_line vs (s ∷ [])
    ∙ ap (λ z. z ++ verdict_line s ∷ []) (sym (append-nil (map verdict_line vs)) ∙ ap (λ z. map verdict_line vs ++ flat z) (sym none))

changes_added : (front : List (List Change)) (step : List Change) (c : Change) → flat (front ++ (step ++ c ∷ []) ∷ []) ≡ flat (front ++ step ∷ []) ++ change_line c ∷ []
changes_added [] step c =
    ap (λ z. (row_line ∷ z) ++ []) (map-append change_line step (c ∷ [])) ∙ append-nil (row_line ∷ (map change_line step ++ change_line c ∷ []))
    ∙ ap (λ z. (row_line ∷ z) ++ change_line c ∷ []) (sym (append-nil (map change_line step)))
changes_added (x ∷ front) step c = ap (λ z. row_lines x ++ z) (changes_added front step c) ∙ sym (append_assoc (row_lines x) (flat (front ++ step ∷ [])) (change_line c ∷ []))

pub change_added : (vs : List Said) (front : List (List Change)) (step : List Change) (c : Change) → lines_after vs (front ++ (step ++ c ∷ []) ∷ []) ≡ lines_after vs (front ++ step ∷ []) ++ change_line c ∷ []
change_added vs front step c = ap (λ z. map verdict_line vs ++ z) (changes_added front step c) ∙ sym (append_assoc (map verdict_line vs) (flat (front ++ step ∷ [])) (change_line c ∷ []))

-- what fits, one more

pub fits_more : {X : Type 0} (P : X → Type 0) (xs : List X) (x : X) → AllByRecursion P xs → P x → AllByRecursion P (xs ++ x ∷ [])
fits_more P [] x all h = (h, tt)
fits_more P (y ∷ ys) x all h = (all.0, fits_more P ys x all.1 h)

pub row_fits_more : (front : List (List Change)) (step : List Change) (c : Change) → AllByRecursion (AllByRecursion FitsChange) (front ++ step ∷ []) → FitsChange c → AllByRecursion (AllByRecursion FitsChange) (front ++ (step ++ c ∷ []) ∷ [])
row_fits_more [] step c all h = (fits_more FitsChange step c all.0 h, tt)
row_fits_more (x ∷ front) step c all h = (all.0, row_fits_more front step c all.1 h)
