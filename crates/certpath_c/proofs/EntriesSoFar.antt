-- The entries of a table so far, each of which has a number of its own.
use Rattle.std.proofs.Common.{◌≡◌, ◌∙◌, sym, ap, subst, ℕ, ◌+◌, ◌<◌, ◌≤◌, List, [], ◌∷◌, ◌++◌, length, map, take, drop, get_or, append_assoc}
use Rattle.std.specs.List.{AllByRecursion}
use Rattle.std.proofs.lemmas.List.{take_more, take_all, map-append, drop_more}
use Rattle.cert_graph.specs.declared.reach.Reach.{Reach}
use Rattle.certpath_c.specs.Answers.{reach_number, rows_entries}
use Rattle.certpath_c.proofs.TableRows.{all_push}

pub one_more : {X : Type 0} (P : X → Type 0) (xs : List X) (i : ℕ) (d : X) → i < length xs → P (get_or xs i d) → AllByRecursion P (take i xs) → AllByRecursion P (take (i + 1) xs)
one_more P xs i d lt here all = subst (AllByRecursion P) (sym (take_more xs i d lt)) (all_push P (take i xs) (get_or xs i d) all here)

pub all_of : {X : Type 0} (P : X → Type 0) (xs : List X) (n : ℕ) → length xs ≤ n → AllByRecursion P (take n xs) → AllByRecursion P xs
all_of P xs n le all = subst (AllByRecursion P) (take_all n xs le) all

pub numbers_more : (row : List Reach) (front old new : List ℕ) (i : ℕ) (d : Reach) → i < length row → new ≡ old ++ reach_number (get_or row i d) ∷ [] → old ≡ front ++ map reach_number (take i row)
    → new ≡ front ++ map reach_number (take (i + 1) row)
numbers_more row front old new i d lt is so_far =
    let one = reach_number (get_or row i d) ∷ [] in
    let more : map reach_number (take (i + 1) row) ≡ map reach_number (take i row) ++ one = ap (map reach_number) (take_more row i d lt) ∙ map-append reach_number (take i row) (get_or row i d ∷ []) in
    is ∙ ap (λ l. l ++ one) so_far ∙ append_assoc front (map reach_number (take i row)) one ∙ ap (λ l. front ++ l) (sym more)

pub entries_more : (rows : List (List Reach)) (old new : List ℕ) (i : ℕ) (row : List Reach) → i < length rows → row ≡ get_or rows i row → new ≡ old ++ map reach_number row
    → old ++ rows_entries (drop i rows) ≡ rows_entries rows → new ++ rows_entries (drop (i + 1) rows) ≡ rows_entries rows
entries_more rows old new i row lt at is so_far =
    let one = map reach_number row in
    let rest = rows_entries (drop (i + 1) rows) in
    let here : rows_entries (drop i rows) ≡ one ++ rest = ap rows_entries (drop_more rows i row lt) ∙ ap (λ (r : List Reach). map reach_number r ++ rest) (sym at) in
    ap (λ l. l ++ rest) is ∙ append_assoc old one rest ∙ ap (λ l. old ++ l) (sym here) ∙ so_far
