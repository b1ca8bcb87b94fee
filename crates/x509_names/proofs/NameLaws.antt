-- Readers of algorithms and names take what the relations say, and no more.
use Rattle.std.proofs.Common.{◌≡◌, ◌≢◌, ◌∙◌, refl, sym, ap, subst, ℕ, List, [], ◌∷◌, ◌++◌, Ok, append_assoc}
use Rattle.std.specs.Int.Digits.{AllBelowBase}
use Rattle.asn1_any.specs.Cutting.{Piece, IsPiece}
use Rattle.asn1_any.proofs.Cuts.{front_is}
use Rattle.x509_core.specs.Answers.{naming}
use Rattle.x509_core.specs.Reading.{piece_at, content_in, oid_in, many_of}
use Rattle.x509_core.specs.Grammar.{One, Holds, HoldsWindow, AsMany}
use Rattle.x509_core.proofs.Grammars.{IsMeaning, next_reading, two, was_named, content_below, many_found, many_only, piece_only}
use Rattle.x509_core.specs.declared.error.X509Error.TheVariants as errors
use Rattle.x509_names.specs.Fields.{Algorithm, Attribute, Name}
use Rattle.x509_names.specs.Reading.{oid_at, parameters_at, algorithm_in, attribute_in, relative_name_in, name_in, some_of, window_to, attribute_at, relative_name_at}
use Rattle.x509_names.specs.Leaves.{IsOid, IsAny}
use Rattle.x509_names.specs.Names.{AlgorithmParts, AttributeParts, RelativeParts, NameParts}
use Rattle.x509_names.proofs.LeafLaws.{content_found, content_only, oid_meaning, piece_any, parameters_found, parameters_only}

pub algorithm_meaning : IsMeaning (Holds 16 AlgorithmParts) (λ q. algorithm_in q.element)
unfolding algorithm_in
algorithm_meaning = record {
  found = λ q v spells below given.
      let content = two (content_in 16 q.element) _ v given in
      let tag = content_found 16 q.element content.0 content.1 in
      let inner : AllBelowBase 256 content.0 = subst (AllBelowBase 256) tag.1 (content_below q spells below) in
      let oid = two (naming errors.InvalidAlgorithmIdentifier (oid_at content.0)) _ v content.2 in
      let id = (next_reading IsOid (λ p. oid_in p.element) oid_meaning).found content.0 oid.0.0 oid.0.1 inner (was_named _ _ _ oid.1) in
      let last = two (parameters_at oid.0.1) _ v oid.2 in
      let parameters = parameters_found oid.0.1 last.0.0 last.0.1 id.1 last.1 in
      let same : ◌≡◌ {A = Algorithm} (record { identifier = oid.0.0; parameters = last.0.0 }) v = cc in
      let parts : AlgorithmParts content.0 (record { identifier = oid.0.0; parameters = last.0.0 }) last.0.1 = record { after_algorithm = oid.0.1; algorithm = id.0; parameters = parameters } in
      (last.0.1, record { tag = tag.0; inner = subst (λ z. AlgorithmParts z v last.0.1) (sym tag.1) (subst (λ z. AlgorithmParts content.0 z last.0.1) same parts) });
  only = λ q v spells below is.
      let parts = is.1.inner in
      let id : oid_at q.element.content ≡ Ok (v.identifier, parts.after_algorithm) = (next_reading IsOid (λ p. oid_in p.element) oid_meaning).only q.element.content v.identifier parts.after_algorithm (content_below q spells below) parts.algorithm in
      rw (content_only 16 q.element is.1.tag, id, parameters_only parts.after_algorithm v.parameters is.0 parts.parameters) refl;
}

pub attribute_meaning : IsMeaning (Holds 16 AttributeParts) (λ q. attribute_in q.element)
unfolding attribute_in
attribute_meaning = record {
  found = λ q v spells below given.
      let content = two (content_in 16 q.element) _ v given in
      let tag = content_found 16 q.element content.0 content.1 in
      let inner : AllBelowBase 256 content.0 = subst (AllBelowBase 256) tag.1 (content_below q spells below) in
      let oid = two (naming errors.InvalidX509Name (oid_at content.0)) _ v content.2 in
      let id = (next_reading IsOid (λ p. oid_in p.element) oid_meaning).found content.0 oid.0.0 oid.0.1 inner (was_named _ _ _ oid.1) in
      let last = two (naming errors.InvalidX509Name (piece_at oid.0.1)) _ v oid.2 in
      let any : One IsAny oid.0.1 last.0.0.element last.0.1 = piece_any oid.0.1 last.0.0 last.0.1 id.1 (was_named _ _ _ last.1) in
      let same : ◌≡◌ {A = Attribute} (record { identifier = oid.0.0; value = last.0.0.element }) v = cc in
      let parts : AttributeParts content.0 (record { identifier = oid.0.0; value = last.0.0.element }) last.0.1 = record { after_type = oid.0.1; attr_type = id.0; attr_value = any } in
      (last.0.1, record { tag = tag.0; inner = subst (λ z. AttributeParts z v last.0.1) (sym tag.1) (subst (λ z. AttributeParts content.0 z last.0.1) same parts) });
  only = λ q v spells below is.
      let parts = is.1.inner in
      let inner = content_below q spells below in
      let id : oid_at q.element.content ≡ Ok (v.identifier, parts.after_type) = (next_reading IsOid (λ p. oid_in p.element) oid_meaning).only q.element.content v.identifier parts.after_type inner parts.attr_type in
      let any = piece_only parts.after_type parts.attr_value.piece is.0 parts.attr_value.spells parts.attr_value.whole in
      rw (content_only 16 q.element is.1.tag, id, any, parts.attr_value.means) refl;
}

some_found : {A : Type 0} (xs vs : List A) → some_of xs ≡ Ok vs → (xs ≡ vs) × (vs ≢ [])
some_found [] vs given = cc
some_found (x ∷ xs) vs given = let same : x ∷ xs ≡ vs = cc in (same, λ none. let wrong = same ∙ none in cc)

some_only : {A : Type 0} (vs : List A) → vs ≢ [] → some_of vs ≡ Ok vs
some_only [] some = absurd (some refl)
some_only (x ∷ xs) some = refl

pub relative_meaning : IsMeaning (Holds 17 RelativeParts) (λ q. relative_name_in q.element)
unfolding relative_name_in
relative_meaning = record {
  found = λ q v spells below given.
      let content = two (content_in 17 q.element) _ v given in
      let tag = content_found 17 q.element content.0 content.1 in
      let inner : AllBelowBase 256 content.0 = subst (AllBelowBase 256) tag.1 (content_below q spells below) in
      let read = many_of attribute_at content.0 in
      let some = some_found read.0 v content.2 in
      let each : AsMany (One (Holds 16 AttributeParts)) content.0 read.0 read.1 = many_found (Holds 16 AttributeParts) (λ p. attribute_in p.element) attribute_meaning content.0 read.0 read.1 inner refl in
      let parts : RelativeParts content.0 v read.1 = record { some = some.1; each = subst (λ z. AsMany (One (Holds 16 AttributeParts)) content.0 z read.1) some.0 each } in
      (read.1, record { tag = tag.0; inner = subst (λ z. RelativeParts z v read.1) (sym tag.1) parts });
  only = λ q v spells below is.
      let read = many_only (Holds 16 AttributeParts) (λ p. attribute_in p.element) attribute_meaning v q.element.content is.0 (content_below q spells below) is.1.inner.each in
      rw (content_only 17 q.element is.1.tag, read) (some_only v is.1.inner.some);
}

many_rest : {A : Type 0} (M : Piece → A → Type 0) (vs : List A) (i r : List ℕ) → AsMany (One M) i vs r → (front : List ℕ) × (i ≡ front ++ r)
unfolding AsMany
many_rest M [] i r is = ([], is.0)
many_rest M (v ∷ vs) i r is =
    let more = many_rest M vs is.0 r is.2 in
    let front = is.1.piece.octets in
    (front ++ more.0, is.1.whole ∙ ap (λ z. front ++ z) more.1 ∙ sym (append_assoc front more.0 r))

-- the window of an element whose content leaves octets
pub window_is : (q : Piece) (spells : IsPiece q) (front left : List ℕ) → q.element.content ≡ front ++ left → q.octets ≡ window_to q.octets left ++ left
window_is q spells front left whole =
    let split : q.octets ≡ (spells.header ++ front) ++ left = spells.whole ∙ ap (λ z. spells.header ++ z) whole ∙ sym (append_assoc spells.header front left) in
    let window : window_to q.octets left ≡ spells.header ++ front = front_is q.octets (spells.header ++ front) left split in
    split ∙ ap (λ z. z ++ left) (sym window)

pub name_meaning : IsMeaning (HoldsWindow 16 NameParts (λ n. n.raw)) name_in
unfolding name_in
name_meaning = record {
  found = λ q v spells below given.
      let content = two (content_in 16 q.element) _ v given in
      let tag = content_found 16 q.element content.0 content.1 in
      let inner : AllBelowBase 256 content.0 = subst (AllBelowBase 256) tag.1 (content_below q spells below) in
      let read = many_of relative_name_at content.0 in
      let each : AsMany (One (Holds 17 RelativeParts)) content.0 read.0 read.1 = many_found (Holds 17 RelativeParts) (λ p. relative_name_in p.element) relative_meaning content.0 read.0 read.1 inner refl in
      let rest = many_rest (Holds 17 RelativeParts) read.0 content.0 read.1 each in
      let window = window_is q spells rest.0 read.1 (tag.1 ∙ rest.1) in
      let here : Name = record { sets = read.0; raw = window_to q.octets read.1 } in
      let same : ◌≡◌ {A = Name} here v = cc in
      subst (HoldsWindow 16 NameParts (λ n. n.raw) q) same (record {
        left = read.1;
        inside = record { tag = tag.0; inner = subst (λ z. AsMany (One (Holds 17 RelativeParts)) z read.0 read.1) (sym tag.1) each };
        window = window;
      });
  only = λ q v spells below is.
      let read = many_only (Holds 17 RelativeParts) (λ p. relative_name_in p.element) relative_meaning v.sets q.element.content is.left (content_below q spells below) is.inside.inner in
      rw (content_only 16 q.element is.inside.tag, read, front_is q.octets v.raw is.left is.window) refl;
}
