-- A reader reads a grammar: what it gives is so, and what is so it gives.
use Rattle.std.proofs.Common.{◌≡◌, ◌∙◌, refl, sym, ap, subst, ℕ, ◌-◌, ◌<◌, List, [], ◌∷◌, ◌++◌, Bool, true, length, take, arith, length-append, Ok, Err, option_map, if◌then◌else◌}
use Rattle.std.specs.Result.{result_ok}
use Rattle.std.specs.Int.Digits.{AllBelowBase}
use Rattle.std.proofs.lemmas.Bool.{lt-ltb}
use Rattle.asn1_core.proofs.Numbers.{append_below}
use Rattle.asn1_core.specs.Elements.{Element as Any}
use Rattle.asn1_core.specs.Answers.{Answer as Reads}
use Rattle.asn1_any.specs.Cutting.{Piece, IsPiece}
use Rattle.asn1_any.specs.Reading.{der_element_at}
use Rattle.asn1_any.proofs.DerLaws.{der_found}
use Rattle.asn1_any.proofs.Cuts.{front_is}
use Rattle.x509_core.specs.declared.error.X509Error.{X509Error}
use Rattle.x509_core.specs.Answers.{Answer, plain, naming, ◌>>=◌}
use Rattle.x509_core.specs.Reading.{Reader, piece_at, piece_before, next, many_of, many_after}
use Rattle.x509_core.specs.Grammar.{Grammar, NoneBegins, One, AsMany}
use Rattle.asn1_any.proofs.Long.{content_long}
use Rattle.x509_core.proofs.Pieces.{element_read}
use Rattle.x509_core.proofs.Many.{many_step, many_more, many_stops}
use Rattle.std.proofs.Common.{zero, suc, nat_lt}

pub two : {A B : Type 0} (a : Answer A) (f : A → Answer B) (y : B) → a >>= f ≡ Ok y → (x : A) × (a ≡ Ok x) × (f x ≡ Ok y)
two (Ok x) f y given = (x, refl, given)
two (Err e) f y given = cc

pub was_named : {A : Type 0} (e : X509Error) (a : Answer A) (x : A) → naming e a ≡ Ok x → a ≡ Ok x
was_named e (Ok y) x given = given
was_named e (Err y) x given = cc

pub is_named : {A : Type 0} (e : X509Error) (a : Answer A) (x : A) → a ≡ Ok x → naming e a ≡ Ok x
is_named e a x given = ap (naming e) given

-- an element that was read
pub record IsPieceRead (i : List ℕ) (q : Piece) (r : List ℕ) : Type 0 where
  pub spells : IsPiece q
  pub whole : i ≡ q.octets ++ r
  pub below : AllBelowBase 256 r

piece_by : (i : List ℕ) (o : Reads Any) (q : Piece) (r : List ℕ) → AllBelowBase 256 i → der_element_at i ≡ o → plain (option_map (piece_before i) (result_ok o)) ≡ Ok (q, r) → IsPieceRead i q r
piece_by i (Err e) q r below is given = cc
piece_by i (Ok x) q r below is given =
    let begins = der_found i x.1 x.0 below is in
    let front = front_is i begins.front x.1 begins.whole in
    let here : IsPieceRead i (record { octets = begins.front; element = x.0 }) x.1 = record { spells = begins.spells; whole = begins.whole; below = append_below 256 begins.front x.1 (subst (AllBelowBase 256) begins.whole below) } in
    let both : ◌≡◌ {A = Piece × List ℕ} (record { octets = take (length i - length x.1) i; element = x.0 }, x.1) (q, r) = cc in
    let piece : ◌≡◌ {A = Piece} (record { octets = begins.front; element = x.0 }) q = ap (λ z. record { octets = z; element = x.0 }) (sym front) ∙ ap (λ (z : Piece × List ℕ). z.0) both in
    let rest : x.1 ≡ r = ap (λ (z : Piece × List ℕ). z.1) both in
    subst (λ z. IsPieceRead i q z) rest (subst (λ z. IsPieceRead i z x.1) piece here)

pub piece_found : (i : List ℕ) (q : Piece) (r : List ℕ) → AllBelowBase 256 i → piece_at i ≡ Ok (q, r) → IsPieceRead i q r
unfolding piece_at
piece_found i q r below given = piece_by i (der_element_at i) q r below refl given

pub piece_only : (i : List ℕ) (q : Piece) (r : List ℕ) → IsPiece q → i ≡ q.octets ++ r → piece_at i ≡ Ok (q, r)
piece_only i q r spells whole = element_read i r q.octets q.element (record { front = q.octets; spells = spells; whole = whole }) whole

-- the octets of a content are octets
pub content_below : (q : Piece) → IsPiece q → AllBelowBase 256 q.octets → AllBelowBase 256 q.element.content
content_below q spells below = append_below 256 spells.header q.element.content (subst (AllBelowBase 256) spells.whole below)

pub record IsMeaning {A : Type 0} (M : Piece → A → Type 0) (p : Piece → Answer A) : Type 0 where
  pub found : (q : Piece) (v : A) → IsPiece q → AllBelowBase 256 q.octets → p q ≡ Ok v → M q v
  pub only : (q : Piece) (v : A) → IsPiece q → AllBelowBase 256 q.octets → M q v → p q ≡ Ok v

pub record IsReading {A : Type 0} (P : Grammar A) (p : Reader A) : Type 0 where
  pub found : (i : List ℕ) (v : A) (r : List ℕ) → AllBelowBase 256 i → p i ≡ Ok (v, r) → P i v r × AllBelowBase 256 r
  pub only : (i : List ℕ) (v : A) (r : List ℕ) → AllBelowBase 256 i → P i v r → p i ≡ Ok (v, r)

pub below_front : (xs ys : List ℕ) → AllBelowBase 256 (xs ++ ys) → AllBelowBase 256 xs
below_front [] ys below = tt
below_front (x ∷ xs) ys below = (below.0, below_front xs ys below.1)

pub front_below : (i q r : List ℕ) → i ≡ q ++ r → AllBelowBase 256 i → AllBelowBase 256 q
front_below i q r whole below = below_front q r (subst (AllBelowBase 256) whole below)

pub next_reading : {A : Type 0} (M : Piece → A → Type 0) (p : Piece → Answer A) → IsMeaning M p → IsReading (One M) (next p)
next_reading {A = A} M p meaning = record {
  found = λ i v r below given.
      let first = two (piece_at i) _ (v, r) given in
      let second = two (p first.0.0) _ (v, r) first.2 in
      let both : ◌≡◌ {A = A × List ℕ} (second.0, first.0.1) (v, r) = cc in
      let piece = piece_found i first.0.0 first.0.1 below first.1 in
      let here : One M i second.0 first.0.1 = record { piece = first.0.0; spells = piece.spells; whole = piece.whole; means = meaning.found first.0.0 second.0 piece.spells (front_below i first.0.0.octets first.0.1 piece.whole below) second.1 } in
      subst (λ (z : A × List ℕ). One M i z.0 z.1 × AllBelowBase 256 z.1) both (here, piece.below);
  only = λ i v r below is. rw (piece_only i is.piece r is.spells is.whole, meaning.only is.piece v is.spells (front_below i is.piece.octets r is.whole below) is.means) refl;
}

-- ---- as many as begin

pub one_shortens : {A : Type 0} (M : Piece → A → Type 0) (i r : List ℕ) (v : A) → One M i v r → length r < length i
one_shortens M i r v is =
    let long = content_long is.piece.octets is.piece.element is.spells in
    omega (arith, long, ap length is.whole, length-append is.piece.octets r)

pub none_at_end : {A : Type 0} (M : Piece → A → Type 0) → NoneBegins (One M) []
none_at_end M v r is = let less = one_shortens M [] r v is in absurd (omega (arith, less))

many_by : {A : Type 0} (M : Piece → A → Type 0) (p : Piece → Answer A) → IsMeaning M p → (i : List ℕ) (o : Answer (A × List ℕ)) (vs : List A) (r : List ℕ) → AllBelowBase 256 i → next p i ≡ o
    → ((after : List ℕ) (ws : List A) → length after < length i → AllBelowBase 256 after → many_of (next p) after ≡ (ws, r) → AsMany (One M) after ws r)
    → many_after (many_of (next p)) i o ≡ (vs, r) → AsMany (One M) i vs r
unfolding AsMany
many_by {A = A} M p meaning i (Err e) [] r below read go given =
    (ap (λ (z : List A × List ℕ). z.1) given, λ v after is. let there = (next_reading M p meaning).only i v after below is in cc)
many_by {A = A} M p meaning i (Err e) (w ∷ ws) r below read go given =
    let wrong : [] ≡ w ∷ ws = ap (λ (z : List A × List ℕ). z.0) given in cc
many_by {A = A} M p meaning i (Ok x) vs r below read go given =
    let is = (next_reading M p meaning).found i x.0 x.1 below read in
    let test : nat_lt (length x.1) (length i) ≡ true = lt-ltb (length x.1) (length i) (one_shortens M i x.1 x.0 is.0) in
    let whole : ◌≡◌ {A = List A × List ℕ} (x.0 ∷ (many_of (next p) x.1).0, (many_of (next p) x.1).1) (vs, r) =
    ap (λ (b : Bool). if b then (x.0 ∷ (many_of (next p) x.1).0, (many_of (next p) x.1).1) else ([], i)) (sym test) ∙ given in
    let rest : many_of (next p) x.1 ≡ ((many_of (next p) x.1).0, r) = ap (λ (z : List A × List ℕ). ((many_of (next p) x.1).0, z.1)) whole in
    subst (λ z. AsMany (One M) i z r) (ap (λ (z : List A × List ℕ). z.0) whole) (x.1, is.0, go x.1 (many_of (next p) x.1).0 (one_shortens M i x.1 x.0 is.0) is.1 rest)

many_found_by : {A : Type 0} (M : Piece → A → Type 0) (p : Piece → Answer A) → IsMeaning M p → (n : ℕ) (i : List ℕ) (vs : List A) (r : List ℕ) → length i < n → AllBelowBase 256 i → many_of (next p) i ≡ (vs, r) → AsMany (One M) i vs r
many_found_by M p meaning zero i vs r few below given = absurd (omega arith)
many_found_by M p meaning (suc n) i vs r few below given =
    many_by M p meaning i (next p i) vs r below refl (λ after ws less b e. many_found_by M p meaning n after ws r (omega (arith, less, few)) b e) (sym (many_step (next p) i) ∙ given)

pub many_found : {A : Type 0} (M : Piece → A → Type 0) (p : Piece → Answer A) → IsMeaning M p → (i : List ℕ) (vs : List A) (r : List ℕ) → AllBelowBase 256 i → many_of (next p) i ≡ (vs, r) → AsMany (One M) i vs r
many_found M p meaning i vs r below given = many_found_by M p meaning (suc (length i)) i vs r (omega arith) below given

none_stops : {A : Type 0} (M : Piece → A → Type 0) (p : Piece → Answer A) → IsMeaning M p → (i : List ℕ) (o : Answer (A × List ℕ)) → AllBelowBase 256 i → next p i ≡ o → NoneBegins (One M) i → many_of (next p) i ≡ ([], i)
none_stops M p meaning i (Err e) below read none = many_stops (next p) [] i e read
none_stops M p meaning i (Ok x) below read none = absurd (none x.0 x.1 ((next_reading M p meaning).found i x.0 x.1 below read).0)

pub many_only : {A : Type 0} (M : Piece → A → Type 0) (p : Piece → Answer A) → IsMeaning M p → (vs : List A) (i r : List ℕ) → AllBelowBase 256 i → AsMany (One M) i vs r → many_of (next p) i ≡ (vs, r)
unfolding AsMany
many_only M p meaning [] i r below is = none_stops M p meaning i (next p i) below refl is.1 ∙ ap (λ z. ([], z)) is.0
many_only M p meaning (v ∷ vs) i r below is =
    let whole = is.1.whole in
    let after : AllBelowBase 256 is.0 = append_below 256 is.1.piece.octets is.0 (subst (AllBelowBase 256) whole below) in
    let step = many_more (next p) [] i is.0 v ((next_reading M p meaning).only i v is.0 below is.1) (one_shortens M i is.0 v is.1) in
    step ∙ ap (λ z. (v ∷ z.0, z.1)) (many_only M p meaning vs is.0 r after is.2)
