-- The octets that loops write.
use Rattle.std.proofs.Common.{◌≡◌, ◌∙◌, sym, ap, refl, Vec, Global, ℕ, ◌+◌, ◌<◌, ◌≤◌, List, [], ◌∷◌, ◌++◌, length, map, drop, append_assoc, get_or, add-one}
use Rattle.std.specs.Fmt.{decimal}
use Rattle.std.specs.List.{flat_map}
use Rattle.std.proofs.Math.Seq.{drop-cons}
use Rattle.std.proofs.lemmas.List.{append-nil, drop_all}
use Rattle.std.proofs.lemmas.Grind.{flat_map-append}
use Rattle.std.proofs.lemmas.List.Folds.{flat_map-map}
use Rattle.cert_graph.specs.declared.changes.Change.{Change}
use Rattle.cert_graph.specs.declared.inventory.Verdict.{Verdict}
use Rattle.certpath_evidence.specs.Evidence.{position_words, said_by, verdict_line, change_line, row_line, row_lines, header, lines_after, ended}

drop_next : {X : Type 0} (xs : List X) (k : ℕ) (d : X) → k < length xs → drop k xs ≡ get_or xs k d ∷ drop (k + 1) xs
drop_next xs k d lt = drop-cons xs k d lt ∙ ap (λ n. get_or xs k d ∷ drop n xs) (sym (add-one k))

-- one piece more of those that a list writes
pub piece : {X : Type 0} (f : X → List ℕ) (xs : List X) (k : ℕ) (d : X) (first text more : List ℕ) → k < length xs → text ++ flat_map f (drop k xs) ≡ first → more ≡ text ++ f (get_or xs k d)
    → more ++ flat_map f (drop (k + 1) xs) ≡ first
piece f xs k d first text more lt before is =
    ap (λ t. t ++ flat_map f (drop (k + 1) xs)) is ∙ append_assoc text (f (get_or xs k d)) (flat_map f (drop (k + 1) xs)) ∙ sym (ap (λ l. text ++ flat_map f l) (drop_next xs k d lt)) ∙ before

pub pieces : {X : Type 0} (f : X → List ℕ) (xs : List X) (k : ℕ) (first text : List ℕ) → length xs ≤ k → text ++ flat_map f (drop k xs) ≡ first → text ≡ first
pieces f xs k first text le before = sym (append-nil text) ∙ sym (ap (λ l. text ++ flat_map f l) (drop_all k xs le)) ∙ before

pub position_pushed : (positions : List ℕ) (k d : ℕ) (first text more : List ℕ) → k < length positions → text ++ position_words (drop k positions) ≡ first → more ≡ text ++ (decimal (get_or positions k d) ++ 32 ∷ [])
    → more ++ position_words (drop (k + 1) positions) ≡ first
position_pushed positions k d first text more lt before is =
    let p = get_or positions k d in let rest = position_words (drop (k + 1) positions) in
    ap (λ t. t ++ rest) is ∙ append_assoc text (decimal p ++ 32 ∷ []) rest ∙ ap (λ z. text ++ z) (append_assoc (decimal p) (32 ∷ []) rest)
    ∙ sym (ap (λ l. text ++ position_words l) (drop_next positions k d lt)) ∙ before

pub positions_pushed : (positions : List ℕ) (k : ℕ) (first text : List ℕ) → length positions ≤ k → text ++ position_words (drop k positions) ≡ first → text ≡ first
positions_pushed positions k first text le before = sym (append-nil text) ∙ sym (ap (λ l. text ++ position_words l) (drop_all k positions le)) ∙ before

-- pieces one after the other

pub joined_two : (old h first v second all : List ℕ) → first ≡ old ++ h → second ≡ first ++ v → h ++ v ≡ all → second ≡ old ++ all
joined_two old h first v second all a b e = b ∙ ap (λ z. z ++ v) a ∙ append_assoc old h v ∙ ap (λ z. old ++ z) e

pub joined_three : (old h first v second r third all : List ℕ) → first ≡ old ++ h → second ≡ first ++ v → third ≡ second ++ r → h ++ (v ++ r) ≡ all → third ≡ old ++ all
joined_three old h first v second r third all a b d e =
    d ∙ ap (λ z. z ++ r) b ∙ append_assoc first v r ∙ ap (λ z. z ++ (v ++ r)) a ∙ append_assoc old h (v ++ r) ∙ ap (λ z. old ++ z) e

abbrev with_feed : List ℕ → List ℕ
with_feed line = line ++ 10 ∷ []

abbrev pub verdicts_text : List Verdict → List ℕ
verdicts_text vs = flat_map (λ v. verdict_line (said_by v) ++ 10 ∷ []) vs

abbrev pub rows_text : List (Vec Change Global) → List ℕ
rows_text ss = flat_map (λ s. ended (row_lines s.items)) ss

pub row_written : (cs : List Change) → (row_line ++ 10 ∷ []) ++ flat_map (λ c. change_line c ++ 10 ∷ []) cs ≡ ended (row_lines cs)
row_written cs = ap (λ z. (row_line ++ 10 ∷ []) ++ z) (sym (flat_map-map with_feed change_line cs))

rows_written : (ss : List (Vec Change Global)) → rows_text ss ≡ ended (flat_map row_lines (map (λ s. s.items) ss))
rows_written [] = refl
rows_written (s ∷ ss) =
    ap (λ z. ended (row_lines s.items) ++ z) (rows_written ss) ∙ sym (flat_map-append with_feed (row_lines s.items) (flat_map row_lines (map (λ (x : Vec Change Global). x.items) ss)))

verdicts_written : (vs : List Verdict) → verdicts_text vs ≡ ended (map verdict_line (map said_by vs))
verdicts_written [] = refl
verdicts_written (v ∷ vs) = ap (λ z. with_feed (verdict_line (said_by v)) ++ z) (verdicts_written vs)

pub evidence_written : (vs : List Verdict) (ss : List (Vec Change Global)) → (header ++ 10 ∷ []) ++ (verdicts_text vs ++ rows_text ss) ≡ ended (header ∷ lines_after (map said_by vs) (map (λ s. s.items) ss))
evidence_written vs ss =
    let verdicts = map verdict_line (map said_by vs) in
    let rows = flat_map row_lines (map (λ (s : Vec Change Global). s.items) ss) in
    ap (λ z. (header ++ 10 ∷ []) ++ (z ++ rows_text ss)) (verdicts_written vs) ∙ ap (λ z. (header ++ 10 ∷ []) ++ (ended verdicts ++ z)) (rows_written ss)
    ∙ ap (λ z. (header ++ 10 ∷ []) ++ z) (sym (flat_map-append with_feed verdicts rows))
