-- Octets cut at ascending places, as more octets and places come.
use Rattle.std.proofs.Common.{◌≡◌, ℕ, zero, suc, ◌+◌, ◌-◌, ◌<◌, ◌≤◌, Bool, IsTrue, eqb, List, [], ◌∷◌, ◌++◌, length, get_or, take, drop, refl, sym, ◌∙◌, ap, append_assoc, length-append, length-drop, Some, slice_get, arith}
use Rattle.std.proofs.lemmas.Bool.{eq-eqb, eqb-true}
use Rattle.std.proofs.lemmas.List.{take-append-drop, take-append-le, drop-append-le, drop-drop, length-take-le}
use Rattle.std.specs.List.{concat}
use Rattle.cert_framing.specs.Pieces.{pieces, RunsTo, start_at}

pub runs_up : (from : ℕ) (ends : List ℕ) (at : ℕ) → RunsTo from ends at → from ≤ at
runs_up from [] at runs = omega arith
runs_up from (end ∷ ends) at runs = omega (arith, runs.0, runs_up end ends at runs.1)

pub runs_on : (from : ℕ) (ends added : List ℕ) (at to : ℕ) → RunsTo from ends at → RunsTo at added to → RunsTo from (ends ++ added) to
runs_on from [] added at to runs on = rw runs on
runs_on from (end ∷ ends) added at to runs on = (runs.0, runs_on end ends added at to runs.1 on)

-- places added at the end cut further parts off
pub pieces_on : (from : ℕ) (ends added : List ℕ) (at : ℕ) (octets : List ℕ) → RunsTo from ends at
    → pieces from (ends ++ added) octets ≡ pieces from ends octets ++ pieces at added octets
pieces_on from [] added at octets runs = ap (λ (n : ℕ). pieces n added octets) runs
pieces_on from (end ∷ ends) added at octets runs =
    ap (λ (rest : List (List ℕ)). take (end - from) (drop from octets) ∷ rest) (pieces_on end ends added at octets runs.1)

-- octets after the last place change nothing
pub pieces_of_more : (from : ℕ) (ends : List ℕ) (at : ℕ) (octets more : List ℕ) → RunsTo from ends at → at ≤ length octets
    → pieces from ends (octets ++ more) ≡ pieces from ends octets
pieces_of_more from [] at octets more runs within = refl
pieces_of_more from (end ∷ ends) at octets more runs within =
    let up : end ≤ at = runs_up end ends at runs.1 in
    let low : from ≤ end = runs.0 in
    let rest : pieces end ends (octets ++ more) ≡ pieces end ends octets = pieces_of_more end ends at octets more runs.1 within in
    let dropped : drop from (octets ++ more) ≡ drop from octets ++ more = drop-append-le from octets more (omega arith) in
    let room : end - from ≤ length (drop from octets) = rw (length-drop from octets) (omega arith) in
    let taken : take (end - from) (drop from octets ++ more) ≡ take (end - from) (drop from octets) = take-append-le (end - from) (drop from octets) more room in
    let first : take (end - from) (drop from (octets ++ more)) ≡ take (end - from) (drop from octets) = ap (take (end - from)) dropped ∙ taken in
    cc

pub pieces_of_front : (ends : List ℕ) (at : ℕ) (octets : List ℕ) → RunsTo 0 ends at → at ≤ length octets
    → pieces 0 ends (take at octets) ≡ pieces 0 ends octets
pieces_of_front ends at octets runs within =
    let size : length (take at octets) ≡ at = length-take-le at octets within in
    sym (pieces_of_more 0 ends at (take at octets) (drop at octets) runs (omega arith)) ∙ ap (pieces 0 ends) (take-append-drop at octets)

-- the parts and what comes after the last place are all octets
pub pieces_joined : (from : ℕ) (ends : List ℕ) (at : ℕ) (octets : List ℕ) → RunsTo from ends at → at ≤ length octets
    → concat (pieces from ends octets) ++ drop at octets ≡ drop from octets
pieces_joined from [] at octets runs within = ap (λ (n : ℕ). drop n octets) (sym runs)
pieces_joined from (end ∷ ends) at octets runs within =
    let low : from ≤ end = runs.0 in
    let rest : concat (pieces end ends octets) ++ drop at octets ≡ drop end octets = pieces_joined end ends at octets runs.1 within in
    let whole : from + (end - from) ≡ end = omega arith in
    let further : drop (end - from) (drop from octets) ≡ drop end octets = drop-drop (end - from) from octets ∙ ap (λ (n : ℕ). drop n octets) whole in
    append_assoc (take (end - from) (drop from octets)) (concat (pieces end ends octets)) (drop at octets)
    ∙ ap (λ (x : List ℕ). take (end - from) (drop from octets) ++ x) (rest ∙ sym further) ∙ take-append-drop (end - from) (drop from octets)

pub length-pieces : (from : ℕ) (ends octets : List ℕ) → length (pieces from ends octets) ≡ length ends
length-pieces from [] octets = refl
length-pieces from (end ∷ ends) octets = ap suc (length-pieces end ends octets)

-- how many octets the parts have
pub length-concat-pieces : (ends : List ℕ) (at : ℕ) (octets : List ℕ) → RunsTo 0 ends at → at ≤ length octets
    → length (concat (pieces 0 ends octets)) ≡ at
length-concat-pieces ends at octets runs within =
    let whole : concat (pieces 0 ends octets) ++ drop at octets ≡ octets = pieces_joined 0 ends at octets runs within in
    omega (arith, ap length whole, length-append (concat (pieces 0 ends octets)) (drop at octets), length-drop at octets)

-- where a part begins: where the one before it ends
pub start_at-suc : (from : ℕ) (ends : List ℕ) (k : ℕ) → k < length ends → start_at from ends (suc k) ≡ get_or ends k 0
start_at-suc from [] k within = absurd (omega arith)
start_at-suc from (end ∷ []) zero within = refl
start_at-suc from (end ∷ e ∷ ends) zero within = refl
start_at-suc from (end ∷ ends) (suc k) within = start_at-suc end ends k (omega arith)

pub start_at-zero : (from : ℕ) (ends : List ℕ) → start_at from ends 0 ≡ from
start_at-zero from [] = refl
start_at-zero from (end ∷ ends) = refl

-- a part lies within the octets
pub part_within : (from : ℕ) (ends : List ℕ) (at : ℕ) (k : ℕ) → RunsTo from ends at → k < length ends
    → (start_at from ends k ≤ get_or ends k 0) × (get_or ends k 0 ≤ at)
part_within from [] at k runs within = absurd (omega arith)
part_within from (end ∷ ends) at zero runs within = (runs.0, runs_up end ends at runs.1)
part_within from (end ∷ ends) at (suc k) runs within = part_within end ends at k runs.1 (omega arith)

pub part_is : (from : ℕ) (ends octets : List ℕ) (k : ℕ) → k < length ends
    → slice_get (pieces from ends octets) k ≡ Some (take (get_or ends k 0 - start_at from ends k) (drop (start_at from ends k) octets))
part_is from [] octets k within = absurd (omega arith)
part_is from (end ∷ ends) octets zero within = refl
part_is from (end ∷ ends) octets (suc k) within = part_is end ends octets k (omega arith)

-- there is no part if there is no place
pub none_from_places : (b : Bool) (n : ℕ) (ends octets : List ℕ) → b ≡ eqb n 0 → n ≡ length ends
    → (IsTrue b → pieces 0 ends octets ≡ []) × (pieces 0 ends octets ≡ [] → IsTrue b)
none_from_places b n [] octets test size = (λ _. refl, λ _. test ∙ eq-eqb n 0 size)
none_from_places b n (end ∷ ends) octets test size =
    (λ yes. absurd (let none : n ≡ 0 = eqb-true n 0 (sym test ∙ yes) in omega arith), λ none. absurd cc)
