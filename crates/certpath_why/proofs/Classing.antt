-- Numbers of octets.
use Rattle.std.specs.Prelude.{◌⊎◌}
use Rattle.std.proofs.Common.{◌≡◌, ◌∙◌, ap, sym, subst, ℕ, ◌+◌, ◌<◌, ◌≤◌, List, [], ◌∷◌, ◌++◌, length, length-append, arith, get_or, take, Some, None, Bor, inl, inr}
use Rattle.std.specs.List.{Contains}
use Rattle.std.proofs.Math.ListN.{get_or-append}
use Rattle.std.proofs.Math.Seq.{get_or-append_seam}
use Rattle.std.proofs.lemmas.Bool.{cases_lt, cases_Bool}
use Rattle.std.proofs.lemmas.List.{take_more, take_all}
use Rattle.std.proofs.lemmas.List.Elements.{Contains-append_left, Contains-push, Contains-push_cases}
use Rattle.cert_graph.specs.declared.texts.TextNumbers.{TextNumbers}
use Rattle.cert_graph.specs.Texts.{number_of}
use Rattle.cert_graph.proofs.Gathering.{E, same, unlike}
use Rattle.certpath_why.specs.Classes.{AreKept, AreKnown, AreNumbersOf, IsNumberOf}

some_none : {n : ℕ} → Some n ≡ None → ⊥
some_none e = cc

one_number : {m n : ℕ} → Some m ≡ Some n → m ≡ n
one_number e = cc

kept_push : (texts : List (Bor (List ℕ))) (t : Bor (List ℕ)) → AreKept texts (texts ++ t ∷ [])
kept_push texts t n q h =
    let long = length-append texts (t ∷ []) in
    let lt = h.0 in
    (omega arith, λ d. ap (λ (z : Bor (List ℕ)). z.now) (get_or-append texts (t ∷ []) d n lt) ∙ h.1 d)

pub known_more : (texts : List (Bor (List ℕ))) (k : ℕ) (t : Bor (List ℕ)) (m n : TextNumbers) → k ≡ length texts → AreKnown texts m
    → ((q : Bor (List ℕ)) → t.now ≡ q.now → number_of n q ≡ Some k) → ((q : Bor (List ℕ)) → (t.now ≡ q.now → ⊥) → number_of n q ≡ number_of m q) → AreKnown (texts ++ t ∷ []) n
known_more texts k t m n end h new others q v is = elim (cases_Bool (E t.now q.now)) [
  | inl eq ↦
      let here : v ≡ k = one_number (sym is ∙ new q ((same t.now q.now).0 eq)) in
      let last : v ≡ length texts = here ∙ end in
      let long = length-append texts (t ∷ []) in
      (omega arith, λ d. ap (λ i. (get_or (texts ++ t ∷ []) i d).now) last ∙ ap (λ (z : Bor (List ℕ)). z.now) (get_or-append_seam texts t [] d) ∙ (same t.now q.now).0 eq)
  | inr un ↦ kept_push texts t v q.now (h q v (sym (others q (unlike t q un)) ∙ is))
]

pub known_none : (texts : List (Bor (List ℕ))) (m : TextNumbers) → ((q : Bor (List ℕ)) → number_of m q ≡ None) → AreKnown texts m
known_none texts m empty q n is = absurd (some_none (sym is ∙ empty q))

pub numbers_none : (all texts : List (Bor (List ℕ))) (numbers : List ℕ) → numbers ≡ [] → AreNumbersOf all texts 0 numbers
numbers_none all texts numbers empty = record { count = ap length empty; each = λ i o lt. absurd (omega arith) }

pub numbers_more : (all texts new : List (Bor (List ℕ))) (k : ℕ) (numbers : List ℕ) (n : ℕ) → AreNumbersOf all texts k numbers → AreKept texts new → ((o : Bor (List ℕ)) → IsNumberOf new n (get_or all k o).now)
    → AreNumbersOf all new (k + 1) (numbers ++ n ∷ [])
numbers_more all texts new k numbers n h kept is =
    let long = length-append numbers (n ∷ []) in
    let count = h.count in record {
      count = omega arith;
      each = λ i o lt. elim (cases_lt i k) [
        | inl less ↦
            let same_number : get_or (numbers ++ n ∷ []) i 0 ≡ get_or numbers i 0 = get_or-append numbers (n ∷ []) 0 i (omega arith) in
            subst (λ v. IsNumberOf new v (get_or all i o).now) (sym same_number) (kept (get_or numbers i 0) (get_or all i o).now (h.each i o less))
        | inr past ↦
            let here : i ≡ k = omega arith in
            let end : i ≡ length numbers = omega arith in
            let last : get_or (numbers ++ n ∷ []) i 0 ≡ n = ap (λ j. get_or (numbers ++ n ∷ []) j 0) end ∙ get_or-append_seam numbers n [] 0 in
            subst (λ v. IsNumberOf new v (get_or all i o).now) (sym last) (subst (λ j. IsNumberOf new n (get_or all j o).now) (sym here) (is o))
      ];
    }

-- ---- numbers at places

abbrev pub HasNumbers : List ℕ → List ℕ → List ℕ → Type 0
HasNumbers numbers places found = (v : ℕ) → Contains places v → v < length numbers → Contains found (get_or numbers v 0)

pub chosen_none : (numbers places : List ℕ) → HasNumbers numbers (take 0 places) []
chosen_none numbers places v h lt = let none = h.1 in absurd (omega arith)

chosen_one : (places : List ℕ) (k v : ℕ) → k < length places → Contains (take (k + 1) places) v → Contains (take k places) v ⊎ (get_or places k 0 ≡ v)
chosen_one places k v lt h = Contains-push_cases (take k places) (get_or places k 0) v (subst (λ l. Contains l v) (take_more places k 0 lt) h)

pub chosen_past : (numbers places found : List ℕ) (k : ℕ) → k < length places → length numbers ≤ get_or places k 0 → HasNumbers numbers (take k places) found → HasNumbers numbers (take (k + 1) places) found
chosen_past numbers places found k lt past h v at less = elim (chosen_one places k v lt at) [ inl there ↦ h v there less | inr e ↦ absurd (omega arith) ]

pub chosen_more : (numbers places found : List ℕ) (k : ℕ) → k < length places → HasNumbers numbers (take k places) found → HasNumbers numbers (take (k + 1) places) (found ++ get_or numbers (get_or places k 0) 0 ∷ [])
chosen_more numbers places found k lt h v at less =
    let n = get_or numbers (get_or places k 0) 0 in
    elim (chosen_one places k v lt at) [
      | inl there ↦ Contains-append_left found (n ∷ []) (get_or numbers v 0) (h v there less)
      | inr e ↦ subst (λ p. Contains (found ++ n ∷ []) (get_or numbers p 0)) e (Contains-push found n)
    ]

-- and nothing else
abbrev pub HasOnly : List ℕ → List ℕ → List ℕ → Type 0
HasOnly numbers places found = (n : ℕ) → Contains found n → (v : ℕ) × Contains places v × (v < length numbers) × (get_or numbers v 0 ≡ n)

pub only_none : (numbers places : List ℕ) → HasOnly numbers (take 0 places) []
only_none numbers places n h = let none = h.1 in absurd (omega arith)

pub only_past : (numbers places found : List ℕ) (k : ℕ) → k < length places → HasOnly numbers (take k places) found → HasOnly numbers (take (k + 1) places) found
only_past numbers places found k lt h n at = let v = h n at in (v.0, subst (λ l. Contains l v.0) (sym (take_more places k 0 lt)) (Contains-append_left (take k places) (get_or places k 0 ∷ []) v.0 v.1), v.2, v.3)

pub only_more : (numbers places found : List ℕ) (k : ℕ) → k < length places → get_or places k 0 < length numbers → HasOnly numbers (take k places) found → HasOnly numbers (take (k + 1) places) (found ++ get_or numbers (get_or places k 0) 0 ∷ [])
only_more numbers places found k lt within h n at =
    let p = get_or places k 0 in
    elim (Contains-push_cases found (get_or numbers p 0) n at) [
      | inl old ↦ only_past numbers places found k lt h n old
      | inr e ↦ (p, subst (λ l. Contains l p) (sym (take_more places k 0 lt)) (Contains-push (take k places) p), within, e)
    ]

pub only_all : (numbers places found sorted : List ℕ) (k : ℕ) → length places ≤ k → HasOnly numbers (take k places) found → ((p : ℕ) → Contains sorted p → Contains found p) → HasOnly numbers places sorted
only_all numbers places found sorted k le h to n at = let v = h n (to n at) in (v.0, subst (λ l. Contains l v.0) (take_all k places le) v.1, v.2, v.3)

pub chosen_all : (numbers places found sorted : List ℕ) (k : ℕ) → length places ≤ k → HasNumbers numbers (take k places) found → ((p : ℕ) → Contains found p → Contains sorted p) → HasNumbers numbers places sorted
chosen_all numbers places found sorted k le h to v at less = to (get_or numbers v 0) (h v (subst (λ l. Contains l v) (sym (take_all k places le)) at) less)
