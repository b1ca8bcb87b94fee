-- One bucket more that is under its text, and what a directory finds.
use Rattle.std.proofs.Common.{◌≡◌, ◌∙◌, ap, sym, subst, ℕ, ◌+◌, ◌<◌, List, [], length, arith, get_or, Some, None, Bor, inl, inr}
use Rattle.std.proofs.lemmas.Bool.{cases_lt, cases_Bool}
use Rattle.std.proofs.lemmas.Option.{slice_get_past}
use Rattle.cert_graph.proofs.PlacesOfNodes.{element_at}
use Rattle.cert_graph.specs.declared.buckets.Bucket.{Bucket}
use Rattle.cert_graph.specs.declared.places.Place.{Place}
use Rattle.cert_graph.specs.declared.places.Part.TheVariants.{Name}
use Rattle.cert_graph.specs.Places.{shown_at, Shows}
use Rattle.cert_graph.specs.declared.texts.TextNumbers.{TextNumbers}
use Rattle.cert_graph.specs.Texts.{number_of}
use Rattle.cert_graph.proofs.Gathering.{E, same, unlike}
use Rattle.certpath_why.specs.Numbered.{AreNumbered}
use Rattle.certpath_why.specs.Reached.{ArePositions}
use Rattle.certpath_why.specs.Directories.{IsDirectory}

one_number : {m n : ℕ} → Some m ≡ Some n → m ≡ n
one_number e = cc

not_none : {X : Type 0} {x : X} → Some x ≡ None → ⊥
not_none e = cc

none_some : {X : Type 0} {x : X} → None ≡ Some x → ⊥
none_some e = cc

pub numbered_none : (bs : List Bucket) (m : TextNumbers) → ((q : Bor (List ℕ)) → number_of m q ≡ None) → AreNumbered bs 0 m
numbered_none bs m empty = record {
  known = λ q n is. absurd (not_none (sym is ∙ empty q));
  met = λ i q b lt e none. absurd (omega (arith, lt));
}

pub numbered_more : (bs : List Bucket) (k : ℕ) (t : Bor (List ℕ)) (m n : TextNumbers) → AreNumbered bs k m → ((b : Bucket) → (get_or bs k b).text ≡ t)
    → ((q : Bor (List ℕ)) → t.now ≡ q.now → number_of n q ≡ Some k) → ((q : Bor (List ℕ)) → (t.now ≡ q.now → ⊥) → number_of n q ≡ number_of m q) → AreNumbered bs (k + 1) n
numbered_more bs k t m n h own new others = record {
  known = λ q v is. elim (cases_Bool (E t.now q.now)) [
    | inl eq ↦
        let here : v ≡ k = one_number (sym is ∙ new q ((same t.now q.now).0 eq)) in
        (omega arith, λ b. ap (λ i. (get_or bs i b).text.now) here ∙ ap (λ (z : Bor (List ℕ)). z.now) (own b) ∙ (same t.now q.now).0 eq)
    | inr un ↦
        let old = h.known q v (sym (others q (unlike t q un)) ∙ is) in
        let lt = old.0 in
        (omega arith, old.1)
  ];
  met = λ i q b lt e none. elim (cases_Bool (E t.now q.now)) [
    | inl eq ↦ not_none (sym (new q ((same t.now q.now).0 eq)) ∙ none)
    | inr un ↦ elim (cases_lt i k) [
      | inl less ↦ h.met i q b less e (sym (others q (unlike t q un)) ∙ none)
      | inr past ↦
          let here : i ≡ k = omega arith in
          let mine : t.now ≡ q.now = ap (λ (z : Bor (List ℕ)). z.now) (sym (own b)) ∙ ap (λ j. (get_or bs j b).text.now) (sym here) ∙ e in
          not_none (sym (new q mine) ∙ none)
    ]
  ];
}

-- what shows a name is among the places
within : (all : List Place) (v : ℕ) (q : List ℕ) → Shows Name all v q → v < length all
within all v q s = elim (cases_lt v (length all)) [
  | inl lt ↦ lt
  | inr past ↦ absurd (none_some (sym (ap (shown_at Name) (slice_get_past all v past)) ∙ s))
]

pub found_positions : (all : List Place) (bs : List Bucket) (m : TextNumbers) (name : Bor (List ℕ)) (n : ℕ) (ps : List ℕ) → AreNumbered bs (length bs) m → IsDirectory all bs → number_of m name ≡ Some n
    → ((b : Bucket) → ps ≡ (get_or bs n b).places.items) → ArePositions (λ v. Shows Name all v name.now) ps
found_positions all bs m name n ps numbered h is at =
    let known = numbered.known name n is in
    let b = (element_at bs n known.0).0 in
    let bucket = h.buckets_are.each n b known.0 in
    subst (ArePositions (λ v. Shows Name all v name.now)) (sym (at b)) (record {
      ascends = bucket.ascends;
      exact = λ v. (
        λ c. subst (Shows Name all v) (known.1 b) ((bucket.exact v).0 c).1,
        λ s. (bucket.exact v).1 ((h.chosen_are v).1 (within all v name.now s), subst (Shows Name all v) (sym (known.1 b)) s),
      );
    })

pub no_positions : (all : List Place) (bs : List Bucket) (m : TextNumbers) (name : Bor (List ℕ)) → AreNumbered bs (length bs) m → IsDirectory all bs → number_of m name ≡ None → ArePositions (λ v. Shows Name all v name.now) []
no_positions all bs m name numbered h none = record {
  ascends = λ k lt. absurd (omega (arith, lt));
  exact = λ v. (
    λ c. absurd (omega (arith, c.1)),
    λ s.
        let any = h.buckets_are.complete v name.now ((h.chosen_are v).1 (within all v name.now s)) s in
        absurd (numbered.met any.0 name any.1 any.2 (ap (λ (z : Bucket). z.text.now) any.3 ∙ any.4) none),
  );
}
