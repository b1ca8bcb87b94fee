-- What is known of a text, by its last octets.
use Rattle.std.proofs.Common.{◌≡◌, ◌∙◌, ap, sym, refl, ℕ, cond, false, List, Option, Some, Bor, BTreeMap, Ordering, Less, Equal, Greater, inl, inr}
use Rattle.std.specs.BTreeMap.{get}
use Rattle.std.specs.Cmp.{nat_cmp_is}
use Rattle.std.specs.Cmp.Lexicographic.{slice_cmp}
use Rattle.std.specs.Ordering.{is_eq, nat_cmp, eq_by_cmp, ordering_then}
use Rattle.std.proofs.lemmas.Bool.{cases_Bool, cond-true, cond-false, false_from_ne_true}
use Rattle.cert_graph.specs.Endings.{tail_of}
use Rattle.cert_graph.specs.Texts.{by_tail}
use Rattle.cert_graph.proofs.Gathering.{E, same}

abbrev pub Known : Type 0
Known = BTreeMap (ℕ × Bor (List ℕ)) ℕ

not_tied : (a b : Ordering) → is_eq b ≡ false → is_eq (ordering_then a b) ≡ false
not_tied Less b e = refl
not_tied Equal b e = e
not_tied Greater b e = refl

-- keys of texts are equal exactly where the texts are
pub known_by : (t q : Bor (List ℕ)) → eq_by_cmp by_tail (tail_of t.now, t) (tail_of q.now, q) ≡ E t.now q.now
known_by t q = elim (cases_Bool (E t.now q.now)) [
  | inl eq ↦
      let tie : nat_cmp (tail_of t.now) (tail_of q.now) ≡ Equal = sym (nat_cmp_is (tail_of t.now) (tail_of q.now) Equal (ap tail_of ((same t.now q.now).0 eq))) in
      ap (λ o. is_eq (ordering_then o (slice_cmp nat_cmp t.now q.now))) tie
  | inr un ↦ not_tied (nat_cmp (tail_of t.now) (tail_of q.now)) (slice_cmp nat_cmp t.now q.now) un ∙ sym un
]

-- a text looked up by a number that is its last octets
pub looked_up : (known : Known) (q : Bor (List ℕ)) (n : ℕ) → n ≡ tail_of q.now → get by_tail known (tail_of q.now, q) ≡ get by_tail known (n, q)
looked_up known q n e = ap (λ i. get by_tail known (i, q)) (sym e)

updated : (old new : Known) (t : Bor (List ℕ)) (n m : ℕ) → n ≡ tail_of t.now → ((k : ℕ × Bor (List ℕ)) → get by_tail new k ≡ cond (eq_by_cmp by_tail (n, t) k) (Some m) (get by_tail old k))
    → (q : Bor (List ℕ)) → get by_tail new (tail_of q.now, q) ≡ cond (E t.now q.now) (Some m) (get by_tail old (tail_of q.now, q))
updated old new t n m e updates q =
    let f : Option ℕ = get by_tail old (tail_of q.now, q) in
    updates (tail_of q.now, q) ∙ ap (λ b. cond b (Some m) f) (ap (λ i. eq_by_cmp by_tail (i, t) (tail_of q.now, q)) e ∙ known_by t q)

pub updated_own : (old new : Known) (t : Bor (List ℕ)) (n m : ℕ) → n ≡ tail_of t.now → ((k : ℕ × Bor (List ℕ)) → get by_tail new k ≡ cond (eq_by_cmp by_tail (n, t) k) (Some m) (get by_tail old k))
    → (q : Bor (List ℕ)) → t.now ≡ q.now → get by_tail new (tail_of q.now, q) ≡ Some m
updated_own old new t n m e updates q is = updated old new t n m e updates q ∙ cond-true _ _ _ ((same t.now q.now).1 is)

pub updated_others : (old new : Known) (t : Bor (List ℕ)) (n m : ℕ) → n ≡ tail_of t.now → ((k : ℕ × Bor (List ℕ)) → get by_tail new k ≡ cond (eq_by_cmp by_tail (n, t) k) (Some m) (get by_tail old k))
    → (q : Bor (List ℕ)) → (t.now ≡ q.now → ⊥) → get by_tail new (tail_of q.now, q) ≡ get by_tail old (tail_of q.now, q)
updated_others old new t n m e updates q apart = updated old new t n m e updates q ∙ cond-false _ _ _ (false_from_ne_true (E t.now q.now) (λ is. apart ((same t.now q.now).0 is)))
