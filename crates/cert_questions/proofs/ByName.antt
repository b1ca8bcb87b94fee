-- The first holders name by name.
use Rattle.std.specs.Prelude.{◌↔◌}
use Rattle.std.proofs.Common.{◌≡◌, ◌∙◌, ap, sym, subst, refl, ℕ, ◌+◌, ◌<◌, Bool, true, false, cond, List, [], ◌∷◌, ◌++◌, length, length-append, arith, get_or, Option, Some, None, Bor, inl, inr, ◌⊎◌, Vec}
use Rattle.std.specs.declared.alloc.Global.{Global}
use Rattle.std.specs.BTreeMap.{get}
use Rattle.std.specs.List.{Contains}
use Rattle.std.specs.List.Sorted.{IsStrictlyIncreasing}
use Rattle.std.proofs.Math.ListN.{get_or-append}
use Rattle.std.proofs.Math.Seq.{get_or-append_seam}
use Rattle.std.proofs.lemmas.Bool.{cases_lt}
use Rattle.cert_graph.specs.declared.buckets.Bucket.{Bucket}
use Rattle.cert_graph.specs.declared.places.Place.{Place}
use Rattle.cert_graph.specs.declared.places.Part.TheVariants.{Name}
use Rattle.cert_graph.specs.Places.{Shows}
use Rattle.cert_graph.specs.Buckets.{IsBucket, AreBuckets}
use Rattle.cert_graph.proofs.Gathering.{E, R, same}
use Rattle.cert_judge.proofs.Grouping.{element}
use Rattle.cert_judge.proofs.NamedFacts.{shows_within}
use Rattle.cert_questions.specs.declared.firsts.KeyHolders.{KeyHolders}
use Rattle.cert_questions.specs.Firsts.{IsFirstAmong, AreFirstsUnder, Knows}

-- of the places of a name the first ones of each key
pub firsts_under : (all : List Place) (name places firsts : List ℕ) → ((v : ℕ) → Contains places v ↔ Shows Name all v name) → IsStrictlyIncreasing firsts
    → ((v : ℕ) → Contains firsts v ↔ (Contains places v × IsFirstAmong all places v)) → AreFirstsUnder all name firsts
firsts_under all name places firsts named up exact = record {
  ascends = up;
  exact = λ v. (
    λ h. let x = (exact v).0 h in (x.1.0, (named v).0 x.0, x.1.1, λ u less n k. x.1.2 u ((named u).1 n) less k),
    λ h. (exact v).1 ((named v).1 h.1, (h.0, h.2, λ u has less k. h.3 u less ((named u).0 has) k)),
  );
}

-- so many buckets have their numbers and their first places
pub record NamedSoFar (all : List Place) (bs : List Bucket) (k : ℕ) (f : Bor (List ℕ) → Option ℕ) (rows : List (Vec ℕ Global)) : Type 0 where
  pub count : length rows ≡ k
  pub known : (q : Bor (List ℕ)) (n : ℕ) → f q ≡ Some n → (n < k) × ((b : Bucket) → (get_or bs n b).text.now ≡ q.now)
  pub met : (i : ℕ) (q : Bor (List ℕ)) (b : Bucket) → i < k → (get_or bs i b).text.now ≡ q.now → f q ≡ None → ⊥
  pub firsts : (i : ℕ) (b : Bucket) (row : Vec ℕ Global) → i < k → AreFirstsUnder all (get_or bs i b).text.now (get_or rows i row).items

not_none : {n : ℕ} → Some n ≡ None → ⊥
not_none e = cc

one_number : {m n : ℕ} → Some m ≡ Some n → m ≡ n
one_number e = cc

some_cases : (b : Bool) (k n : ℕ) (o : Option ℕ) → cond b (Some k) o ≡ Some n → ((b ≡ true) × (k ≡ n)) ⊎ (o ≡ Some n)
some_cases true k n o e = inl (refl, one_number e)
some_cases false k n o e = inr e

none_cases : (b : Bool) (k : ℕ) (o : Option ℕ) → cond b (Some k) o ≡ None → (b ≡ false) × (o ≡ None)
none_cases true k o e = absurd (not_none e)
none_cases false k o e = (refl, e)

pub named_none : (all : List Place) (bs : List Bucket) (f : Bor (List ℕ) → Option ℕ) → ((q : Bor (List ℕ)) → f q ≡ None) → NamedSoFar all bs 0 f []
named_none all bs f empty = record {
  count = refl;
  known = λ q n is. absurd (not_none (sym is ∙ empty q));
  met = λ i q b lt. absurd (omega arith);
  firsts = λ i b row lt. absurd (omega arith);
}

false_is_not : (b : Bool) → b ≡ false → b ≡ true → ⊥
false_is_not b f t = let e : false ≡ true = sym f ∙ t in cc

pub named_more : (all : List Place) (bs : List Bucket) (k : ℕ) (f g : Bor (List ℕ) → Option ℕ) (rows : List (Vec ℕ Global)) (b : Bucket) (row : Vec ℕ Global) → b ≡ get_or bs k b → ((c : Bucket) → get_or bs k c ≡ b)
    → AreFirstsUnder all b.text.now row.items → ((q : Bor (List ℕ)) → g q ≡ cond (E b.text.now q.now) (Some k) (f q)) → NamedSoFar all bs k f rows → NamedSoFar all bs (k + 1) g (rows ++ row ∷ [])
named_more all bs k f g rows b row at here firsts updates h =
    let long = length-append rows (row ∷ []) in
    let count = h.count in
    record {
      count = omega arith;
      known = λ q n is. elim (some_cases (E b.text.now q.now) k n (f q) (sym (updates q) ∙ is)) [
        | inl new ↦ (
          let e = new.1 in omega arith,
          λ c. ap (λ (x : Bucket). x.text.now) (ap (λ i. get_or bs i c) (sym new.1) ∙ here c) ∙ (same b.text.now q.now).0 new.0,
        )
        | inr old ↦ let x = h.known q n old in let less = x.0 in (omega arith, x.1)
      ];
      met = λ i q c lt is none.
          let x = none_cases (E b.text.now q.now) k (f q) (sym (updates q) ∙ none) in
          elim (cases_lt i k) [
            | inl less ↦ h.met i q c less is x.1
            | inr past ↦
                let last : i ≡ k = omega arith in
                let text : b.text.now ≡ q.now = ap (λ (y : Bucket). y.text.now) (sym (ap (λ j. get_or bs j c) last ∙ here c)) ∙ is in
                false_is_not (E b.text.now q.now) x.0 ((same b.text.now q.now).1 text)
          ];
      firsts = λ i c r lt. elim (cases_lt i k) [
        | inl less ↦
            let below : i < length rows = omega arith in
            subst (λ (z : Vec ℕ Global). AreFirstsUnder all (get_or bs i c).text.now z.items) (sym (get_or-append rows (row ∷ []) r i below)) (h.firsts i c r less)
        | inr past ↦
            let last : i ≡ k = omega arith in
            let end : i ≡ length rows = omega arith in
            let there : get_or (rows ++ row ∷ []) i r ≡ row = ap (λ j. get_or (rows ++ row ∷ []) j r) end ∙ get_or-append_seam rows row [] r in
            subst (λ (z : Vec ℕ Global). AreFirstsUnder all (get_or bs i c).text.now z.items) (sym there)
            (subst (λ (y : Bucket). AreFirstsUnder all y.text.now row.items) (sym (ap (λ j. get_or bs j c) last ∙ here c)) firsts)
      ];
    }

-- a bucket of all places of its name
pub bucket_named : (all : List Place) (chosen : List ℕ) → ((v : ℕ) → Contains chosen v ↔ (v < length all)) → (b : Bucket) → IsBucket (Shows Name all) chosen b → (v : ℕ) → Contains b.places.items v ↔ Shows Name all v b.text.now
bucket_named all chosen whole b h v = (λ c. ((h.exact v).0 c).1, λ s. (h.exact v).1 ((whole v).1 (shows_within Name all v b.text.now s), s))

pub knows_from : (all : List Place) (chosen : List ℕ) (bs : List Bucket) (k : ℕ) (holders : KeyHolders) → ((v : ℕ) → Contains chosen v ↔ (v < length all)) → AreBuckets (Shows Name all) chosen bs → k ≡ length bs
    → NamedSoFar all bs k (get R holders.numbers) holders.firsts.items → Knows all holders
knows_from all chosen bs k holders whole are end h = record {
  found = λ q n e. let x = h.known q n e in let less = x.0 in let count = h.count in omega arith;
  firsts = λ q n row e.
      let x = h.known q n e in
      let less = x.0 in
      let within : n < length bs = omega arith in
      let b = (element bs n within).0 in
      subst (λ name. AreFirstsUnder all name (get_or holders.firsts.items n row).items) (x.1 b) (h.firsts n b row x.0);
  none = λ q v e shows.
      let b = are.complete v q.now ((whole v).1 (shows_within Name all v q.now shows)) shows in
      let lt = b.2 in
      h.met b.0 q b.1 (omega arith) (ap (λ (y : Bucket). y.text.now) b.3 ∙ b.4) e;
}
