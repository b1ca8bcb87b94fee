-- As many values as begin octets, whatever they are read from.
use Rattle.std.proofs.Common.{◌≡◌, ◌∙◌, refl, sym, ap, subst, ℕ, zero, suc, ◌<◌, List, [], ◌∷◌, Bool, true, length, arith, nat_lt, Ok, Err, if◌then◌else◌}
use Rattle.std.specs.Int.Digits.{AllBelowBase}
use Rattle.std.proofs.lemmas.Bool.{lt-ltb}
use Rattle.x509_core.specs.Answers.{Answer}
use Rattle.x509_core.specs.Grammar.{Grammar, NoneBegins, AsMany}
use Rattle.x509_core.specs.Reading.{Reader, many_of, many_after}
use Rattle.x509_core.proofs.Grammars.{IsReading}
use Rattle.x509_core.proofs.Many.{many_step, many_more, many_stops}

-- a value takes octets
abbrev pub Shortens : {A : Type 0} → Grammar A → Type 0
Shortens {A} P = (i : List ℕ) (v : A) (r : List ℕ) → P i v r → length r < length i

many_by : {A : Type 0} (P : Grammar A) (p : Reader A) → IsReading P p → Shortens P → (i : List ℕ) (o : Answer (A × List ℕ)) (vs : List A) (r : List ℕ) → AllBelowBase 256 i → p i ≡ o
    → ((after : List ℕ) (ws : List A) → length after < length i → AllBelowBase 256 after → many_of p after ≡ (ws, r) → AsMany P after ws r × AllBelowBase 256 r)
    → many_after (many_of p) i o ≡ (vs, r) → AsMany P i vs r × AllBelowBase 256 r
unfolding AsMany
many_by {A = A} P p reading shortens i (Err e) [] r below read go given =
    let rest : i ≡ r = ap (λ (z : List A × List ℕ). z.1) given in
    ((rest, λ v after is. let there = reading.only i v after below is in cc), subst (AllBelowBase 256) rest below)
many_by {A = A} P p reading shortens i (Err e) (w ∷ ws) r below read go given =
    let wrong : [] ≡ w ∷ ws = ap (λ (z : List A × List ℕ). z.0) given in cc
many_by {A = A} P p reading shortens i (Ok x) vs r below read go given =
    let is = reading.found i x.0 x.1 below read in
    let test : nat_lt (length x.1) (length i) ≡ true = lt-ltb (length x.1) (length i) (shortens i x.0 x.1 is.0) in
    let whole : ◌≡◌ {A = List A × List ℕ} (x.0 ∷ (many_of p x.1).0, (many_of p x.1).1) (vs, r) =
    ap (λ (b : Bool). if b then (x.0 ∷ (many_of p x.1).0, (many_of p x.1).1) else ([], i)) (sym test) ∙ given in
    let rest : many_of p x.1 ≡ ((many_of p x.1).0, r) = ap (λ (z : List A × List ℕ). ((many_of p x.1).0, z.1)) whole in
    let more = go x.1 (many_of p x.1).0 (shortens i x.0 x.1 is.0) is.1 rest in
    (subst (λ z. AsMany P i z r) (ap (λ (z : List A × List ℕ). z.0) whole) (x.1, is.0, more.0), more.1)

many_found_by : {A : Type 0} (P : Grammar A) (p : Reader A) → IsReading P p → Shortens P → (n : ℕ) (i : List ℕ) (vs : List A) (r : List ℕ) → length i < n → AllBelowBase 256 i → many_of p i ≡ (vs, r) → AsMany P i vs r × AllBelowBase 256 r
many_found_by P p reading shortens zero i vs r few below given = absurd (omega arith)
many_found_by P p reading shortens (suc n) i vs r few below given =
    many_by P p reading shortens i (p i) vs r below refl (λ after ws less b e. many_found_by P p reading shortens n after ws r (omega (arith, less, few)) b e) (sym (many_step p i) ∙ given)

none_stops : {A : Type 0} (P : Grammar A) (p : Reader A) → IsReading P p → (i : List ℕ) (o : Answer (A × List ℕ)) → AllBelowBase 256 i → p i ≡ o → NoneBegins P i → many_of p i ≡ ([], i)
none_stops P p reading i (Err e) below read none = many_stops p [] i e read
none_stops P p reading i (Ok x) below read none = absurd (none x.0 x.1 (reading.found i x.0 x.1 below read).0)

many_only_by : {A : Type 0} (P : Grammar A) (p : Reader A) → IsReading P p → Shortens P → (vs : List A) (i r : List ℕ) → AllBelowBase 256 i → AsMany P i vs r → many_of p i ≡ (vs, r)
unfolding AsMany
many_only_by P p reading shortens [] i r below is = none_stops P p reading i (p i) below refl is.1 ∙ ap (λ z. ([], z)) is.0
many_only_by P p reading shortens (v ∷ vs) i r below is =
    let read = reading.only i v is.0 below is.1 in
    let after = (reading.found i v is.0 below read).1 in
    let step = many_more p [] i is.0 v read (shortens i v is.0 is.1) in
    step ∙ ap (λ z. (v ∷ z.0, z.1)) (many_only_by P p reading shortens vs is.0 r after is.2)

pub as_many_reading : {A : Type 0} (P : Grammar A) (p : Reader A) → IsReading P p → Shortens P → IsReading (AsMany P) (λ i. Ok (many_of p i))
as_many_reading {A = A} P p reading shortens = record {
  found = λ i vs r below given.
      let same : many_of p i ≡ (vs, r) = cc in
      many_found_by P p reading shortens (suc (length i)) i vs r (omega arith) below same;
  only = λ i vs r below is. ap (λ z. Ok z) (many_only_by P p reading shortens vs i r below is);
}
