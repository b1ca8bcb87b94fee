-- The first place of each key among some places.
use Rattle.std.specs.Prelude.{◌↔◌, ◌⊎◌, IsTrue, not}
use Rattle.std.proofs.Common.{◌≡◌, ◌∙◌, ap, sym, subst, refl, ℕ, ◌+◌, ◌<◌, Bool, true, false, cond, List, [], ◌∷◌, ◌++◌, length, arith, get_or, Some, None, Bor, inl, inr}
use Rattle.std.specs.BTreeSet as sorted
use Rattle.std.specs.BTreeSet.{BTreeSet}
use Rattle.std.specs.List.Sorted.{IsStrictlyIncreasing}
use Rattle.std.proofs.lemmas.Bool.{cases_lt, false≢true}
use Rattle.std.proofs.lemmas.List.Kept.{AllPairs-from_increasing}
use Rattle.std.proofs.lemmas.List.Elements.{Contains-get_or}
use Rattle.std.proofs.lemmas.List.{get_or_default}
use Rattle.cert_graph.specs.declared.places.Place.{Place}
use Rattle.cert_graph.specs.declared.places.Part.TheVariants.{Key}
use Rattle.cert_graph.specs.Places.{text_at, Shows}
use Rattle.cert_graph.proofs.Gathering.{E, R, same}
use Rattle.cert_graph.proofs.Sifted.{Sifted, sifted_more, sifted_same, nothing_added}
use Rattle.cert_questions.specs.Firsts.{IsFirstAmong}

-- among the first k of some places one shows a key
abbrev pub IsSeen : List Place → List ℕ → ℕ → List ℕ → Type 0
IsSeen all places k key = (i : ℕ) × (i < k) × Shows Key all (get_or places i 0) key

-- the keys of the first k places, and the first place of each
pub record FirstsSoFar (all : List Place) (places : List ℕ) (k : ℕ) (seen : BTreeSet (Bor (List ℕ))) (firsts : List ℕ) : Type 0 where
  pub known : (q : Bor (List ℕ)) → IsTrue (sorted.contains R seen q) ↔ IsSeen all places k q.now
  pub sifted : Sifted 0 (IsFirstAmong all places) places k firsts

one_key : {a b : List ℕ} → Some a ≡ Some b → a ≡ b
one_key e = cc

no_key : {b : List ℕ} → None ≡ Some b → ⊥
no_key e = cc

seen_cases : (all : List Place) (places : List ℕ) (k : ℕ) (key : List ℕ) → IsSeen all places (k + 1) key → IsSeen all places k key ⊎ Shows Key all (get_or places k 0) key
seen_cases all places k key h = elim (cases_lt h.0 k) [
  | inl less ↦ inl (h.0, less, h.2)
  | inr past ↦ let below = h.1 in let here : h.0 ≡ k = omega arith in inr (subst (λ i. Shows Key all (get_or places i 0) key) here h.2)
]

seen_more : (all : List Place) (places : List ℕ) (k : ℕ) (key : List ℕ) → IsSeen all places k key → IsSeen all places (k + 1) key
seen_more all places k key h = let less = h.1 in (h.0, omega arith, h.2)

-- a place without a key
pub without_key : (all : List Place) (places : List ℕ) (k : ℕ) (seen : BTreeSet (Bor (List ℕ))) (firsts : List ℕ) → text_at Key all (get_or places k 0) ≡ None
    → FirstsSoFar all places k seen firsts → FirstsSoFar all places (k + 1) seen firsts
without_key all places k seen firsts none h = record {
  known = λ q. (
    λ t. seen_more all places k q.now ((h.known q).0 t),
    λ s. elim (seen_cases all places k q.now s) [ inl old ↦ (h.known q).1 old | inr new ↦ absurd (no_key (sym none ∙ new)) ],
  );
  sifted = sifted_same 0 (IsFirstAmong all places) places k firsts h.sifted (λ v at f. no_key (sym none ∙ subst (λ u. Shows Key all u f.0) (sym (nothing_added (get_or places k 0) v at)) f.1));
}

set_cases : (b c : Bool) → IsTrue (cond b true c) → IsTrue b ⊎ IsTrue c
set_cases true c h = inl refl
set_cases false c h = inr h

set_left : (b c : Bool) → IsTrue b → IsTrue (cond b true c)
set_left true c h = refl
set_left false c h = absurd (false≢true h)

set_right : (b c : Bool) → IsTrue c → IsTrue (cond b true c)
set_right true c h = refl
set_right false c h = h

known_more : (all : List Place) (places : List ℕ) (k : ℕ) (t : Bor (List ℕ)) (was is : Bool) (q : Bor (List ℕ)) → is ≡ cond (E t.now q.now) true was → Shows Key all (get_or places k 0) t.now
    → (IsTrue was ↔ IsSeen all places k q.now) → IsTrue is ↔ IsSeen all places (k + 1) q.now
known_more all places k t was is q update shows h =
    let d = same t.now q.now in (
      λ i. elim (set_cases (E t.now q.now) was (sym update ∙ i)) [
        | inl new ↦ (k, omega arith, subst (Shows Key all (get_or places k 0)) (d.0 new) shows)
        | inr old ↦ seen_more all places k q.now (h.0 old)
      ],
      λ s. update ∙ elim (seen_cases all places k q.now s) [
        | inl old ↦ set_right (E t.now q.now) was (h.1 old)
        | inr new ↦ set_left (E t.now q.now) was (d.1 (one_key (sym shows ∙ new)))
      ],
    )

not_false : (b c : Bool) → b ≡ not c → IsTrue b → IsTrue c → ⊥
not_false b true e t u = false≢true (sym e ∙ t)
not_false b false e t u = false≢true u

not_true : (b c : Bool) → b ≡ not c → b ≡ false → IsTrue c
not_true b true e f = refl
not_true b false e f = absurd (false≢true (sym f ∙ e))

-- a place whose key is new
pub new_key : (all : List Place) (places : List ℕ) (k : ℕ) (t : Bor (List ℕ)) (seen seen' : BTreeSet (Bor (List ℕ))) (firsts : List ℕ) (added : Bool) → IsStrictlyIncreasing places → k < length places
    → Shows Key all (get_or places k 0) t.now → added ≡ not (sorted.contains R seen t) → IsTrue added
    → ((q : Bor (List ℕ)) → sorted.contains R seen' q ≡ cond (E t.now q.now) true (sorted.contains R seen q))
    → FirstsSoFar all places k seen firsts → FirstsSoFar all places (k + 1) seen' (firsts ++ get_or places k 0 ∷ [])
new_key all places k t seen seen' firsts added up lt shows was new updates h =
    let v = get_or places k 0 in
    let at : v ≡ 0 + v = omega arith in
    let first : IsFirstAmong all places v = (
      t.now,
      shows,
      λ u has less s.
          elim (cases_lt has.0 k) [
            | inl before ↦ not_false added (sorted.contains R seen t) was new ((h.known t).1 (has.0, before, subst (λ p. Shows Key all p t.now) (sym (get_or_default places has.0 0 u has.1 ∙ has.2)) s))
            | inr past ↦
                let is = get_or_default places has.0 0 u has.1 ∙ has.2 in
                elim (cases_lt k has.0) [
                  | inl above ↦ let more = AllPairs-from_increasing places up k has.0 0 above has.1 in absurd (omega arith)
                  | inr below ↦ let here : has.0 ≡ k = omega arith in let equal : v ≡ u = ap (λ i. get_or places i 0) (sym here) ∙ is in absurd (omega arith)
                ]
          ],
    ) in
    record {
      known = λ q. known_more all places k t (sorted.contains R seen q) (sorted.contains R seen' q) q (updates q) shows (h.known q);
      sifted = sifted_more 0 (IsFirstAmong all places) places k firsts v up lt h.sifted at first;
    }

-- a place whose key was seen
pub old_key : (all : List Place) (places : List ℕ) (k : ℕ) (t : Bor (List ℕ)) (seen seen' : BTreeSet (Bor (List ℕ))) (firsts : List ℕ) (added : Bool) → IsStrictlyIncreasing places → k < length places
    → Shows Key all (get_or places k 0) t.now → added ≡ not (sorted.contains R seen t) → added ≡ false
    → ((q : Bor (List ℕ)) → sorted.contains R seen' q ≡ cond (E t.now q.now) true (sorted.contains R seen q))
    → FirstsSoFar all places k seen firsts → FirstsSoFar all places (k + 1) seen' firsts
old_key all places k t seen seen' firsts added up lt shows was old updates h =
    let met = (h.known t).0 (not_true added (sorted.contains R seen t) was old) in
    let u = get_or places met.0 0 in
    let within : met.0 < length places = let less = met.1 in omega arith in
    let less = AllPairs-from_increasing places up met.0 k 0 met.1 lt in
    record {
      known = λ q. known_more all places k t (sorted.contains R seen q) (sorted.contains R seen' q) q (updates q) shows (h.known q);
      sifted = sifted_same 0 (IsFirstAmong all places) places k firsts h.sifted (λ v at f.
          let here : get_or places k 0 ≡ v = nothing_added (get_or places k 0) v at in
          let same_key : t.now ≡ f.0 = one_key (sym (subst (λ p. Shows Key all p t.now) here shows) ∙ f.1) in
          f.2 u (Contains-get_or places met.0 0 within) (omega arith) (subst (Shows Key all u) same_key met.2));
    }
