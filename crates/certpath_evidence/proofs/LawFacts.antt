-- Evidence has one reading, and a text one first bad line.
use Rattle.std.proofs.Common.{◌≡◌, ◌≢◌, ◌∙◌, sym, ap, subst, refl, ℕ, ◌+◌, ◌<◌, ◌^◌, ◌==◌, Bool, true, false, cond, List, [], ◌∷◌, ◌++◌, length, map, arith, append_assoc, length-append, inl, inr, ◌⊎◌, codes, Result, Ok, Err}
use Rattle.std.specs.List.{AllByRecursion}
use Rattle.std.specs.Fmt.{decimal}
use Rattle.std.proofs.lemmas.Bool.Decides.{eqb_tells}
use Rattle.std.proofs.lemmas.Fmt.{decimal_injective}
use Rattle.std.proofs.lemmas.List.{append-nil}
use Rattle.std.proofs.lemmas.List.Elements.{All-cons, All-append}
use Rattle.cert_graph.specs.declared.changes.Change.{Change}
use Rattle.cert_graph.specs.declared.inventory.Inventory.{Inventory}
use Rattle.cert_graph.specs.declared.reach.Reach.{Reach}
use Rattle.cert_graph.specs.declared.reach.Reach.TheVariants.{No, UpTo, Any}
use Rattle.certpath_evidence.specs.declared.reading.EvidenceError.{EvidenceError}
use Rattle.certpath_evidence.specs.declared.reading.EvidenceError.TheVariants.{BadLine, OutOfMemory}
use Rattle.certpath_evidence.specs.Answers.{MayStand, HasFirstBad, AnswersEvidence, IsReadBack}
use Rattle.certpath_evidence.specs.Evidence.{Said, path, pathless, no_certificate, Told, told_by, header, path_words, verdict_line, reach_words, change_line, row_line, lines_after, lines_of, ended, evidence, FitsSaid, FitsReach, FitsChange, Fits}
use Rattle.certpath_evidence.proofs.NumberFacts.{no_other}
use Rattle.certpath_evidence.proofs.PathFacts.{words_on, word_is, anchor_no_number, no_space as space_free}
use Rattle.certpath_evidence.proofs.Pieces.{HasNo, seam, front_gone, head, tail}
use Rattle.certpath_evidence.proofs.Standing.{flat, row_not_change, row_not_verdict, first_of, not_none}
use Rattle.certpath_evidence.proofs.WordFacts.{no_digit}

-- lines have no LF

others : List ℕ → Bool
others [] = true
others (x ∷ xs) = cond (x == 10) false (others xs)

free_of : (s : List ℕ) → others s ≡ true → HasNo 10 s
unfolding others
free_of [] e = λ k d lt. absurd (omega arith)
free_of (x ∷ xs) e = elim (eqb_tells x 10) [
  | inl is ↦ let f = rw is.0 at e in cc
  | inr not ↦ All-cons (λ o. o ≢ 10) x xs not.1 (free_of xs (rw not.0 at e))
]

free_both : (s t : List ℕ) → HasNo 10 s → HasNo 10 t → HasNo 10 (s ++ t)
free_both s t p q = All-append (λ o. o ≢ 10) s t p q

free_number : (n : ℕ) → n < 2 ^ 64 → HasNo 10 (decimal n)
free_number n small = no_other 10 n small (λ r. let low = r.0 in absurd (omega arith))

free_word : (n : ℕ) (rest : List ℕ) → n < 2 ^ 64 → HasNo 10 rest → HasNo 10 (decimal n ++ 32 ∷ rest)
free_word n rest small free = free_both (decimal n) (32 ∷ rest) (free_number n small) (All-cons (λ o. o ≢ 10) 32 rest (λ e. absurd (omega arith)) free)

free_path : (ps : List ℕ) (a : ℕ) → FitsSaid (path ps a) → HasNo 10 (path_words ps a)
unfolding others
free_path [] a fits = free_both (codes "anchor ") (decimal a) (free_of (codes "anchor ") refl) (free_number a fits.1)
free_path (p ∷ ps) a fits = subst (HasNo 10) (sym (words_on p ps a)) (free_word p (path_words ps a) fits.0.0 (free_path ps a (fits.0.1, fits.1)))

free_verdict : (s : Said) → FitsSaid s → HasNo 10 (verdict_line s)
unfolding others
free_verdict (path ps a) fits = free_both (codes "path ") (path_words ps a) (free_of (codes "path ") refl) (free_path ps a fits)
free_verdict pathless fits = free_of (codes "none") refl
free_verdict no_certificate fits = free_of (codes "no certificate") refl

free_reach : (r : Reach) → FitsReach r → HasNo 10 (reach_words r)
unfolding others
free_reach No fits = free_of (codes "no") refl
free_reach (UpTo n) fits = free_both (codes "upto ") (decimal n) (free_of (codes "upto ") refl) (free_number n (omega arith))
free_reach Any fits = free_of (codes "any") refl

abbrev AreFree : List (List ℕ) → Type 0
AreFree lines = AllByRecursion (HasNo 10) lines

both_free : (xs ys : List (List ℕ)) → AreFree xs → AreFree ys → AreFree (xs ++ ys)
both_free [] ys p q = q
both_free (x ∷ xs) ys p q = (p.0, both_free xs ys p.1 q)

changes_free : (cs : List Change) → AllByRecursion FitsChange cs → AreFree (map change_line cs)
changes_free [] fits = tt
changes_free (c ∷ cs) fits = (free_word c.position (reach_words c.reach) fits.0.0 (free_reach c.reach fits.0.1), changes_free cs fits.1)

rows_free : (rows : List (List Change)) → AllByRecursion (AllByRecursion FitsChange) rows → AreFree (flat rows)
unfolding others
rows_free [] fits = tt
rows_free (r ∷ rows) fits = (free_of row_line refl, both_free (map change_line r) (flat rows) (changes_free r fits.0) (rows_free rows fits.1))

verdicts_free : (vs : List Said) → AllByRecursion FitsSaid vs → AreFree (map verdict_line vs)
verdicts_free [] fits = tt
verdicts_free (v ∷ vs) fits = (free_verdict v fits.0, verdicts_free vs fits.1)

pub lines_free : (told : Told) → Fits told → AreFree (lines_of told)
unfolding others
lines_free told fits = (free_of header refl, both_free (map verdict_line told.verdicts) (flat told.rows) (verdicts_free told.verdicts fits.verdicts) (rows_free told.rows fits.rows))

stand_free : (lines : List (List ℕ)) → MayStand lines → AreFree lines
stand_free lines m = elim m [ inl none ↦ subst AreFree (sym none) tt | inr t ↦ subst AreFree t.2 (lines_free t.0 t.1) ]

-- lines of a text, compared with others of it

ended_on : (line : List ℕ) (lines : List (List ℕ)) (rest : List ℕ) → ended (line ∷ lines) ++ rest ≡ line ++ 10 ∷ (ended lines ++ rest)
ended_on line lines rest = append_assoc (line ++ 10 ∷ []) (ended lines) rest ∙ append_assoc line (10 ∷ []) (ended lines ++ rest)

-- further lines of one of them, and the rest
pub record GoOn (front all : List (List ℕ)) (rest after : List ℕ) : Type 0 where
  pub line : List ℕ
  pub more : List (List ℕ)
  pub lines_are : all ≡ front ++ line ∷ more
  pub free : HasNo 10 line
  pub rest_is : rest ≡ line ++ 10 ∷ (ended more ++ after)

go_on : (x : List ℕ) (xs ys : List (List ℕ)) (r s : List ℕ) → GoOn xs ys r s → (y : List ℕ) → x ≡ y → GoOn (x ∷ xs) (y ∷ ys) r s
go_on x xs ys r s g y e = record { line = g.line; more = g.more; lines_are = ap (λ z. z ∷ ys) (sym e) ∙ ap (λ z. x ∷ z) g.lines_are; free = g.free; rest_is = g.rest_is }

compare : (xs ys : List (List ℕ)) (r s : List ℕ) → AreFree xs → AreFree ys → ended xs ++ r ≡ ended ys ++ s → (xs ≡ ys) ⊎ GoOn xs ys r s ⊎ GoOn ys xs s r
compare [] [] r s p q e = inl refl
compare [] (y ∷ ys) r s p q e = inr (inl (record { line = y; more = ys; lines_are = refl; free = q.0; rest_is = e ∙ ended_on y ys s }))
compare (x ∷ xs) [] r s p q e = inr (inr (record { line = x; more = xs; lines_are = refl; free = p.0; rest_is = sym e ∙ ended_on x xs r }))
compare (x ∷ xs) (y ∷ ys) r s p q e =
    let m = seam 10 x y (ended xs ++ r) (ended ys ++ s) p.0 q.0 (sym (ended_on x xs r) ∙ e ∙ ended_on y ys s) in
    elim (compare xs ys r s p.1 q.1 m.1) [
      | inl same ↦ inl (ap (λ z. z ∷ xs) m.0 ∙ ap (λ z. y ∷ z) same)
      | inr rest ↦ elim rest [ inl g ↦ inr (inl (go_on x xs ys r s g y m.0)) | inr g ↦ inr (inr (go_on y ys xs s r g x (sym m.0))) ]
    ]

-- an evidence that goes on past a first bad line
past_bad : (text : List ℕ) (n : ℕ) (h : HasFirstBad text n) (all : List (List ℕ)) (after : List ℕ) (told : Told) → Fits told → lines_of told ≡ all → GoOn h.before all h.rest after → ⊥
past_bad text n h all after told fits is g = h.bad g.line (ended g.more ++ after) g.rest_is g.free told g.more fits (is ∙ g.lines_are)

some_lines : (front more : List (List ℕ)) (line : List ℕ) → front ++ line ∷ more ≢ []
some_lines [] more line e = not_none e
some_lines (x ∷ front) more line e = not_none e

past_both : (text : List ℕ) (m n : ℕ) (h : HasFirstBad text m) (k : HasFirstBad text n) → GoOn h.before k.before h.rest k.rest → ⊥
past_both text m n h k g = elim k.well [
  | inl none ↦ some_lines h.before g.more g.line (sym g.lines_are ∙ none)
  | inr t ↦ past_bad text m h k.before k.rest t.0 t.1 t.2 g
]

pub one_bad : (text : List ℕ) (m n : ℕ) → HasFirstBad text m → HasFirstBad text n → m ≡ n
one_bad text m n h k = elim (compare h.before k.before h.rest k.rest (stand_free h.before h.well) (stand_free k.before k.well) (sym h.text_is ∙ k.text_is)) [
  | inl same ↦ h.counted ∙ ap (λ z. length z + 1) same ∙ sym k.counted
  | inr rest ↦ elim rest [ inl g ↦ absurd (past_both text m n h k g) | inr g ↦ absurd (past_both text n m k h g) ]
]

nil_of : (s : List ℕ) → length s ≡ 0 → s ≡ []
nil_of [] e = refl
nil_of (x ∷ s) e = absurd (omega arith)

none_begins : (line after : List ℕ) → [] ≡ line ++ 10 ∷ after → ⊥
none_begins line after e = absurd (omega (arith, ap length e, length-append line (10 ∷ after)))

-- an evidence has no bad line
pub no_bad : (told : Told) (n : ℕ) → Fits told → HasFirstBad (evidence told) n → ⊥
no_bad told n fits h = elim (compare h.before (lines_of told) h.rest [] (stand_free h.before h.well) (lines_free told fits) (sym h.text_is ∙ sym (append-nil (evidence told)))) [
  | inl same ↦
      let long = ap length h.text_is ∙ length-append (ended h.before) h.rest in
      let even : length (evidence told) ≡ length (ended h.before) = ap (λ z. length (ended z)) (sym same) in
      let none : length h.rest ≡ 0 = omega arith in
      not_none (sym same ∙ h.unended (nil_of h.rest none))
  | inr rest ↦ elim rest [ inl g ↦ past_bad (evidence told) n h (lines_of told) [] told fits refl g | inr g ↦ none_begins g.line (ended g.more ++ h.rest) g.rest_is ]
]

-- what lines hold

same_path : (ps qs : List ℕ) (a b : ℕ) → FitsSaid (path ps a) → FitsSaid (path qs b) → path_words ps a ≡ path_words qs b → (ps ≡ qs) × (a ≡ b)
same_path [] [] a b f g e = (refl, decimal_injective a b f.1 g.1 (front_gone (codes "anchor ") (decimal a) (decimal b) e))
same_path [] (q ∷ qs) a b f g e = absurd (anchor_no_number q g.0.0 (word_is q qs b (path_words [] a) (codes "anchor") (decimal a) g refl space_free e).0)
same_path (p ∷ ps) [] a b f g e = absurd (anchor_no_number p f.0.0 (word_is p ps a (path_words [] b) (codes "anchor") (decimal b) f refl space_free (sym e)).0)
same_path (p ∷ ps) (q ∷ qs) a b f g e =
    let w = word_is q qs b (path_words (p ∷ ps) a) (decimal p) (path_words ps a) g (words_on p ps a) (no_other 32 p f.0.0 no_digit) e in
    let m = same_path ps qs a b (f.0.1, f.1) (g.0.1, g.1) w.1 in
    (ap (λ z. z ∷ ps) (decimal_injective p q f.0.0 g.0.0 w.0) ∙ ap (λ z. q ∷ z) m.0, m.1)

same_said : (s t : Said) → FitsSaid s → FitsSaid t → verdict_line s ≡ verdict_line t → s ≡ t
same_said (path ps a) (path qs b) f g e = let m = same_path ps qs a b f g (front_gone (codes "path ") (path_words ps a) (path_words qs b) e) in ap (λ z. path z a) m.0 ∙ ap (λ z. path qs z) m.1
same_said (path ps a) pathless f g e = let h : ◌≡◌ {A = ℕ} 112 110 = ap (head 0) e in absurd (omega arith)
same_said (path ps a) no_certificate f g e = let h : ◌≡◌ {A = ℕ} 112 110 = ap (head 0) e in absurd (omega arith)
same_said pathless (path qs b) f g e = let h : ◌≡◌ {A = ℕ} 110 112 = ap (head 0) e in absurd (omega arith)
same_said pathless pathless f g e = refl
same_said pathless no_certificate f g e = let h : ◌≡◌ {A = ℕ} 4 14 = ap length e in absurd (omega arith)
same_said no_certificate (path qs b) f g e = let h : ◌≡◌ {A = ℕ} 110 112 = ap (head 0) e in absurd (omega arith)
same_said no_certificate pathless f g e = let h : ◌≡◌ {A = ℕ} 14 4 = ap length e in absurd (omega arith)
same_said no_certificate no_certificate f g e = refl

same_reach : (r s : Reach) → FitsReach r → FitsReach s → reach_words r ≡ reach_words s → r ≡ s
same_reach No No f g e = refl
same_reach No (UpTo n) f g e = let h : ◌≡◌ {A = ℕ} 110 117 = ap (head 0) e in absurd (omega arith)
same_reach No Any f g e = let h : ◌≡◌ {A = ℕ} 110 97 = ap (head 0) e in absurd (omega arith)
same_reach (UpTo m) No f g e = let h : ◌≡◌ {A = ℕ} 117 110 = ap (head 0) e in absurd (omega arith)
same_reach (UpTo m) (UpTo n) f g e = ap UpTo (decimal_injective m n (omega arith) (omega arith) (front_gone (codes "upto ") (decimal m) (decimal n) e))
same_reach (UpTo m) Any f g e = let h : ◌≡◌ {A = ℕ} 117 97 = ap (head 0) e in absurd (omega arith)
same_reach Any No f g e = let h : ◌≡◌ {A = ℕ} 97 110 = ap (head 0) e in absurd (omega arith)
same_reach Any (UpTo n) f g e = let h : ◌≡◌ {A = ℕ} 97 117 = ap (head 0) e in absurd (omega arith)
same_reach Any Any f g e = refl

change_with : ℕ → Reach → Change
change_with p r = record { position = p; reach = r }

same_change : (c d : Change) → FitsChange c → FitsChange d → change_line c ≡ change_line d → c ≡ d
unfolding change_with
same_change c d f g e =
    let m = seam 32 (decimal c.position) (decimal d.position) (reach_words c.reach) (reach_words d.reach) (no_other 32 c.position f.0 no_digit) (no_other 32 d.position g.0 no_digit) e in
    let position = decimal_injective c.position d.position f.0 g.0 m.0 in
    let reach = same_reach c.reach d.reach f.1 g.1 m.1 in
    ap (λ p. change_with p c.reach) position ∙ ap (λ r. change_with d.position r) reach

same_changes : (r s : List Change) (rows ss : List (List Change)) → AllByRecursion FitsChange r → AllByRecursion FitsChange s → map change_line r ++ flat rows ≡ map change_line s ++ flat ss → (r ≡ s) × (flat rows ≡ flat ss)
same_changes [] [] rows ss f g e = (refl, e)
same_changes [] (d ∷ s) [] ss f g e = absurd (not_none (sym e))
same_changes [] (d ∷ s) (x ∷ rows) ss f g e = absurd (row_not_change d (first_of e))
same_changes (c ∷ r) [] rows [] f g e = absurd (not_none e)
same_changes (c ∷ r) [] rows (x ∷ ss) f g e = absurd (row_not_change c (sym (first_of e)))
same_changes (c ∷ r) (d ∷ s) rows ss f g e =
    let m = same_changes r s rows ss f.1 g.1 (ap tail e) in
    (ap (λ z. z ∷ r) (same_change c d f.0 g.0 (first_of e)) ∙ ap (λ z. d ∷ z) m.0, m.1)

same_rows : (rows ss : List (List Change)) → AllByRecursion (AllByRecursion FitsChange) rows → AllByRecursion (AllByRecursion FitsChange) ss → flat rows ≡ flat ss → rows ≡ ss
same_rows [] [] f g e = refl
same_rows [] (s ∷ ss) f g e = absurd (not_none (sym e))
same_rows (r ∷ rows) [] f g e = absurd (not_none e)
same_rows (r ∷ rows) (s ∷ ss) f g e =
    let m = same_changes r s rows ss f.0 g.0 (ap tail e) in
    ap (λ z. z ∷ rows) m.0 ∙ ap (λ z. s ∷ z) (same_rows rows ss f.1 g.1 m.1)

same_verdicts : (vs ws : List Said) (rows ss : List (List Change)) → AllByRecursion FitsSaid vs → AllByRecursion FitsSaid ws → lines_after vs rows ≡ lines_after ws ss → (vs ≡ ws) × (flat rows ≡ flat ss)
same_verdicts [] [] rows ss f g e = (refl, e)
same_verdicts [] (w ∷ ws) [] ss f g e = absurd (not_none (sym e))
same_verdicts [] (w ∷ ws) (x ∷ rows) ss f g e = absurd (row_not_verdict w (first_of e))
same_verdicts (v ∷ vs) [] rows [] f g e = absurd (not_none e)
same_verdicts (v ∷ vs) [] rows (x ∷ ss) f g e = absurd (row_not_verdict v (sym (first_of e)))
same_verdicts (v ∷ vs) (w ∷ ws) rows ss f g e =
    let m = same_verdicts vs ws rows ss f.1 g.1 (ap tail e) in
    (ap (λ z. z ∷ vs) (same_said v w f.0 g.0 (first_of e)) ∙ ap (λ z. w ∷ z) m.0, m.1)

told_with : List Said → List (List Change) → Told
told_with vs rows = record { verdicts = vs; rows = rows }

same_told : (told other : Told) → Fits told → Fits other → lines_of told ≡ lines_of other → told ≡ other
unfolding told_with
same_told told other f g e =
    let m = same_verdicts told.verdicts other.verdicts told.rows other.rows f.verdicts g.verdicts (ap tail e) in
    ap (λ vs. told_with vs told.rows) m.0 ∙ ap (λ rows. told_with other.verdicts rows) (same_rows told.rows other.rows f.rows g.rows m.1)

pub one_inventory : (told other : Told) → Fits told → Fits other → evidence told ≡ evidence other → told ≡ other
one_inventory told other f g e =
    let both = append-nil (evidence told) ∙ e ∙ sym (append-nil (evidence other)) in
    elim (compare (lines_of told) (lines_of other) [] [] (lines_free told f) (lines_free other g) both) [
      | inl same ↦ same_told told other f g same
      | inr rest ↦ elim rest [ inl h ↦ absurd (none_begins h.line (ended h.more ++ []) h.rest_is) | inr h ↦ absurd (none_begins h.line (ended h.more ++ []) h.rest_is) ]
    ]

pub read_back : (told : Told) (answer : Result Inventory EvidenceError) → Fits told → AnswersEvidence (evidence told) answer → IsReadBack told answer
read_back told (Ok inventory) fits read = one_inventory (told_by inventory) told read.fits fits (sym read.text_is)
read_back told (Err (BadLine n)) fits bad = no_bad told n fits bad
read_back told (Err OutOfMemory) fits none = tt
