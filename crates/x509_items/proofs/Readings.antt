-- Readers of several values, and of parts that may be absent, take what the relations say.
use Rattle.std.proofs.Common.{◌≡◌, ◌≢◌, ◌∙◌, refl, sym, ap, subst, ℕ, List, [], ◌∷◌, Option, Some, None, Ok, Err}
use Rattle.std.specs.Int.Digits.{AllBelowBase}
use Rattle.asn1_core.proofs.Numbers.{append_below}
use Rattle.x509_core.specs.asn1_any.specs.Cutting.{Piece}
use Rattle.x509_core.specs.Answers.{Answer, ◌>>=◌}
use Rattle.x509_core.specs.Reading.{Reader, content_in, next, many_of}
use Rattle.x509_core.specs.Grammar.{Grammar, One, Holds, AsMany, ToEnd, Maybe}
use Rattle.x509_core.proofs.Grammars.{IsMeaning, IsReading, two, content_below, many_found, many_only}
use Rattle.x509_core.proofs.LeafLaws.{content_found, content_only}
use Rattle.asn1_core.specs.Elements.{Element}
use Rattle.x509_core.specs.asn1_traits.specs.Lists.{IsContainer}
use Rattle.x509_core.proofs.LeafLaws.{equal_tags, tags_equal, oid_meaning}
use Rattle.x509_core.proofs.Grammars.{next_reading}
use Rattle.x509_core.specs.Leaves.{IsOid}
use Rattle.std.proofs.Common.{Bool, true, false, ◌==◌, ◌&&◌, if◌then◌else◌}
use Rattle.x509_core.specs.Answers.{unnamed}
use Rattle.x509_items.specs.Grammar.{OneOrMore, Ended, HoldsSequence}
use Rattle.x509_items.specs.Reading.{held, maybe_by, maybe_of, some_by, some_of, to_end, ended, all_of, oid_at, sequence_in, sequence_of}

-- what an element of a tag number holds
pub held_meaning : {A : Type 0} (n : ℕ) (P : Grammar A) (p : Reader A) → IsReading P p → IsMeaning (Holds n P) (held n p)
held_meaning n P p reading = record {
  found = λ q v spells below given.
      let content = two (content_in n q.element) _ v given in
      let tag = content_found n q.element content.0 content.1 in
      let inner : AllBelowBase 256 content.0 = subst (AllBelowBase 256) tag.1 (content_below q spells below) in
      let read = two (p content.0) _ v content.2 in
      let same : read.0.0 ≡ v = cc in
      let is : P content.0 read.0.0 read.0.1 = (reading.found content.0 read.0.0 read.0.1 inner read.1).0 in
      (read.0.1, record { tag = tag.0; inner = subst (λ z. P z v read.0.1) (sym tag.1) (subst (λ z. P content.0 z read.0.1) same is) });
  only = λ q v spells below is.
      let read = reading.only q.element.content v is.0 (content_below q spells below) is.1.inner in
      rw (content_only n q.element is.1.tag, read) refl;
}

-- the octets after as many values are octets
pub many_below : {A : Type 0} (M : Piece → A → Type 0) (vs : List A) (i r : List ℕ) → AllBelowBase 256 i → AsMany (One M) i vs r → AllBelowBase 256 r
unfolding AsMany
many_below M [] i r below is = subst (AllBelowBase 256) is.0 below
many_below M (v ∷ vs) i r below is =
    many_below M vs is.0 r (append_below 256 is.1.piece.octets is.0 (subst (AllBelowBase 256) is.1.whole below)) is.2

some_case : {A : Type 0} (m : List A × List ℕ) (vs : List A) (r : List ℕ) → some_by m ≡ Ok (vs, r) → (m ≡ (vs, r)) × (vs ≢ [])
some_case ([], s) vs r given = cc
some_case {A = A} (x ∷ xs, s) vs r given =
    let both : ◌≡◌ {A = List A × List ℕ} (x ∷ xs, s) (vs, r) = cc in
    let same : x ∷ xs ≡ vs = ap (λ (z : List A × List ℕ). z.0) both in
    (both, λ none. let wrong = same ∙ none in cc)

some_there : {A : Type 0} (vs : List A) (r : List ℕ) → vs ≢ [] → some_by (vs, r) ≡ Ok (vs, r)
some_there [] r some = absurd (some refl)
some_there (x ∷ xs) r some = refl

pub some_reading : {A : Type 0} (M : Piece → A → Type 0) (p : Piece → Answer A) → IsMeaning M p → IsReading (OneOrMore (One M)) (some_of (next p))
some_reading M p meaning = record {
  found = λ i vs r below given.
      let case = some_case (many_of (next p) i) vs r given in
      let each = many_found M p meaning i vs r below case.0 in
      (record { some = case.1; each = each }, many_below M vs i r below each);
  only = λ i vs r below is. ap some_by (many_only M p meaning vs i r below is.each) ∙ some_there vs r is.some;
}

pub many_reading : {A : Type 0} (M : Piece → A → Type 0) (p : Piece → Answer A) → IsMeaning M p → IsReading (AsMany (One M)) (λ i. Ok (many_of (next p) i))
many_reading {A = A} M p meaning = record {
  found = λ i vs r below given.
      let same : many_of (next p) i ≡ (vs, r) = cc in
      let each = many_found M p meaning i vs r below same in
      (each, many_below M vs i r below each);
  only = λ i vs r below is. ap (λ z. Ok z) (many_only M p meaning vs i r below is);
}

pub end_case : {A : Type 0} (m : A × List ℕ) (v : A) → to_end m ≡ Ok v → m ≡ (v, [])
end_case (w, []) v given = let same : w ≡ v = cc in ap (λ z. (z, [])) same
end_case (w, x ∷ s) v given = cc

pub all_reading : {A : Type 0} (M : Piece → A → Type 0) (p : Piece → Answer A) → IsMeaning M p → IsReading (ToEnd (One M)) (ended (all_of (next p)))
all_reading {A = A} M p meaning = record {
  found = λ i vs r below given.
      let read = two (all_of (next p) i) _ (vs, r) given in
      let both : ◌≡◌ {A = List A × List ℕ} (read.0, []) (vs, r) = cc in
      let values : read.0 ≡ vs = ap (λ (z : List A × List ℕ). z.0) both in
      let none : [] ≡ r = ap (λ (z : List A × List ℕ). z.1) both in
      let each = many_found M p meaning i read.0 [] below (end_case (many_of (next p) i) read.0 read.1) in
      ((subst (λ z. AsMany (One M) i z []) values each, sym none), subst (AllBelowBase 256) none tt);
  only = λ i vs r below is. rw (many_only M p meaning vs i [] below is.0, is.1) refl;
}

maybe_found : {A : Type 0} (P : Grammar A) (p : Reader A) → IsReading P p → (i : List ℕ) (o : Answer (A × List ℕ)) (v : Option A) (r : List ℕ) → AllBelowBase 256 i → p i ≡ o → maybe_by i o ≡ (v, r) → Maybe P i v r × AllBelowBase 256 r
maybe_found {A = A} P p reading i (Ok x) (Some v) r below read given =
    let some : ◌≡◌ {A = Option A} (Some x.0) (Some v) = ap (λ (z : Option A × List ℕ). z.0) given in
    let value : x.0 ≡ v = cc in
    let rest : x.1 ≡ r = ap (λ (z : Option A × List ℕ). z.1) given in
    let is = reading.found i x.0 x.1 below read in
    subst (λ z. P i v z × AllBelowBase 256 z) rest (subst (λ z. P i z x.1) value is.0, is.1)
maybe_found {A = A} P p reading i (Ok x) None r below read given =
    let wrong : ◌≡◌ {A = Option A} (Some x.0) None = ap (λ (z : Option A × List ℕ). z.0) given in cc
maybe_found {A = A} P p reading i (Err e) (Some v) r below read given =
    let wrong : ◌≡◌ {A = Option A} None (Some v) = ap (λ (z : Option A × List ℕ). z.0) given in cc
maybe_found {A = A} P p reading i (Err e) None r below read given =
    let rest : i ≡ r = ap (λ (z : Option A × List ℕ). z.1) given in
    ((rest, λ v s is. let there = reading.only i v s below is in cc), subst (AllBelowBase 256) rest below)

maybe_none : {A : Type 0} (P : Grammar A) (p : Reader A) → IsReading P p → (i : List ℕ) (o : Answer (A × List ℕ)) → AllBelowBase 256 i → p i ≡ o → ((v : A) (r : List ℕ) → P i v r → ⊥) → maybe_by i o ≡ (None, i)
maybe_none P p reading i (Err e) below read none = refl
maybe_none P p reading i (Ok x) below read none = absurd (none x.0 x.1 (reading.found i x.0 x.1 below read).0)

maybe_only : {A : Type 0} (P : Grammar A) (p : Reader A) → IsReading P p → (i : List ℕ) (v : Option A) (r : List ℕ) → AllBelowBase 256 i → Maybe P i v r → maybe_of p i ≡ (v, r)
maybe_only P p reading i (Some v) r below is = ap (maybe_by i) (reading.only i v r below is)
maybe_only P p reading i None r below is = maybe_none P p reading i (p i) below refl is.1 ∙ ap (λ z. (None, z)) is.0

pub maybe_reading : {A : Type 0} (P : Grammar A) (p : Reader A) → IsReading P p → IsReading (Maybe P) (λ i. Ok (maybe_of p i))
maybe_reading {A = A} P p reading = record {
  found = λ i v r below given.
      let same : maybe_of p i ≡ (v, r) = cc in
      maybe_found P p reading i (p i) v r below refl same;
  only = λ i v r below is. ap (λ z. Ok z) (maybe_only P p reading i v r below is);
}

pub oid_reading : IsReading (One IsOid) oid_at
oid_reading = next_reading IsOid _ oid_meaning

sequence_case : (a b c : Bool) (content v : List ℕ) → (let x : Answer (List ℕ) = if (a && b) && c then Ok content else Err unnamed in x ≡ Ok v) → (a ≡ true) × (b ≡ true) × (c ≡ true) × (content ≡ v)
sequence_case true true true content v given = (refl, refl, refl, cc)
sequence_case true true false content v given = cc
sequence_case true false c content v given = cc
sequence_case false b c content v given = cc

sequence_found : (e : Element) (c : List ℕ) → sequence_in e ≡ Ok c → IsContainer 16 e × (e.content ≡ c)
sequence_found e c given =
    let case = sequence_case (e.class == 0) e.constructed (e.tag == 16) e.content c given in
    (record { class_is = equal_tags e.class 0 case.0; constructed = case.1; tag_is = equal_tags e.tag 16 case.2 }, case.3)

sequence_only : (e : Element) → IsContainer 16 e → sequence_in e ≡ Ok e.content
sequence_only e is = rw (tags_equal e.class 0 is.class_is, is.constructed, tags_equal e.tag 16 is.tag_is) refl

-- what a sequence holds
pub sequence_meaning : {A : Type 0} (P : Grammar A) (p : Reader A) → IsReading P p → IsMeaning (HoldsSequence P) (sequence_of p)
sequence_meaning P p reading = record {
  found = λ q v spells below given.
      let content = two (sequence_in q.element) _ v given in
      let is = sequence_found q.element content.0 content.1 in
      let inner : AllBelowBase 256 content.0 = subst (AllBelowBase 256) is.1 (content_below q spells below) in
      let read = two (p content.0) _ v content.2 in
      let same : read.0.0 ≡ v = cc in
      let there : P content.0 read.0.0 read.0.1 = (reading.found content.0 read.0.0 read.0.1 inner read.1).0 in
      record { container = is.0; left = read.0.1; inner = subst (λ z. P z v read.0.1) (sym is.1) (subst (λ z. P content.0 z read.0.1) same there) };
  only = λ q v spells below is.
      let read = reading.only q.element.content v is.left (content_below q spells below) is.inner in
      rw (sequence_only q.element is.container, read) refl;
}

pub ended_reading : {A : Type 0} (P : Grammar A) (p : Reader A) → IsReading P p → IsReading (Ended P) (ended (λ i. p i >>= to_end))
ended_reading {A = A} P p reading = record {
  found = λ i v r below given.
      let read = two (p i >>= to_end) _ (v, r) given in
      let there = two (p i) to_end read.0 read.1 in
      let both : ◌≡◌ {A = A × List ℕ} (read.0, []) (v, r) = cc in
      let value : read.0 ≡ v = ap (λ (z : A × List ℕ). z.0) both in
      let none : [] ≡ r = ap (λ (z : A × List ℕ). z.1) both in
      let all : p i ≡ Ok (read.0, []) = there.1 ∙ ap (λ z. Ok z) (end_case there.0 read.0 there.2) in
      ((subst (λ z. P i z []) value (reading.found i read.0 [] below all).0, sym none), subst (AllBelowBase 256) none tt);
  only = λ i v r below is. rw (reading.only i v [] below is.0, is.1) refl;
}

-- one or more are read if as many are read
pub more_reading : {A : Type 0} (P : Grammar A) (p : Reader A) → IsReading (AsMany P) (λ i. Ok (many_of p i)) → IsReading (OneOrMore P) (some_of p)
more_reading P p many = record {
  found = λ i vs r below given.
      let case = some_case (many_of p i) vs r given in
      let each = many.found i vs r below (ap (λ z. Ok z) case.0) in
      (record { some = case.1; each = each.0 }, each.1);
  only = λ i vs r below is.
      let read = many.only i vs r below is.each in
      let same : many_of p i ≡ (vs, r) = cc in
      ap some_by same ∙ some_there vs r is.some;
}
