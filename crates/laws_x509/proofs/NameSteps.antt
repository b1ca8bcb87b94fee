-- By which names algorithms, attributes, names and keys are refused.
use Rattle.std.proofs.Common.{◌≡◌, ◌∙◌, ◌⊎◌, inl, inr, refl, sym, ap, subst, ℕ, List, [], ◌∷◌, Option, Some, None, Ok, Err}
use Rattle.std.specs.Int.Digits.{AllBelowBase}
use Rattle.asn1_core.specs.Elements.{Element}
use Rattle.asn1_any.specs.Cutting.{Piece}
use Rattle.x509_core.specs.Answers.{Answer, named, naming, ◌>>=◌}
use Rattle.x509_core.specs.Grammar.{NoneBegins, One, Holds, HoldsWindow}
use Rattle.x509_core.specs.Reading.{piece_at, content_in, oid_in, next, many_of}
use Rattle.x509_core.specs.declared.error.X509Error.{X509Error}
use Rattle.x509_core.specs.declared.error.X509Error.TheVariants as errors
use Rattle.x509_core.proofs.Grammars.{IsReading, next_reading, piece_found, piece_only}
use Rattle.x509_names.specs.Fields.{Algorithm, Attribute, Name, Key}
use Rattle.x509_names.specs.Leaves.{IsOid, IsAny, IsBits}
use Rattle.x509_names.specs.Names.{AlgorithmParts, AlgorithmIdentifier, NameParts, X509Name, KeyParts, SubjectPublicKeyInfo}
use Rattle.x509_names.specs.PublicKeys.{RsaParts, RSAPublicKey}
use Rattle.x509_names.specs.Reading.{oid_at, parameters_at, algorithm_in, algorithm_at, attribute_in, attribute_at, relative_name_at, name_in, name_at, bits_in, bits_at, key_in, key_at, rsa_key_in, rsa_key_at, window_to}
use Rattle.x509_names.proofs.KeyLaws.{key_meaning, rsa_meaning}
use Rattle.x509_names.proofs.LeafLaws.{oid_meaning, bits_meaning}
use Rattle.x509_names.proofs.NameLaws.{algorithm_meaning, name_meaning}
use Rattle.laws_x509.specs.Refused.{Then, Inside}
use Rattle.laws_x509.specs.NameRefusals.{NoIdentifier, AlgorithmRefused, NoAttribute, AttributeRefused, NoKeyBits, KeyRefused, RsaKeyRefused}
use Rattle.laws_x509.proofs.Steps.{which_step, piece_silent, content_silent, part_step, told_none, named_step, is_refused, none_told, element_step, inside_told, inside_only, apart, either_apart}

pub oids : IsReading (One IsOid) oid_at
oids = next_reading IsOid (λ q. oid_in q.element) oid_meaning

pub bits : IsReading (One IsBits) bits_at
bits = next_reading IsBits (λ q. bits_in q.element) bits_meaning

pub algorithms : IsReading AlgorithmIdentifier algorithm_at
algorithms = next_reading (Holds 16 AlgorithmParts) (λ q. algorithm_in q.element) algorithm_meaning

pub names : IsReading X509Name name_at
names = next_reading (HoldsWindow 16 NameParts (λ n. n.raw)) name_in name_meaning

pub keys : IsReading SubjectPublicKeyInfo key_at
keys = next_reading (HoldsWindow 16 KeyParts (λ k. k.raw)) key_in key_meaning

-- ---- algorithms

unfoldable algorithm_by : List ℕ → Answer Algorithm
algorithm_by content = do
  o ← naming errors.InvalidAlgorithmIdentifier (oid_at content)
  p ← parameters_at o.1
  Ok (record { identifier = o.0; parameters = p.0 })

algorithm_same : (q : Piece) → algorithm_in q.element ≡ content_in 16 q.element >>= algorithm_by
unfolding algorithm_in algorithm_by
algorithm_same q = refl

parameters_silent : (i : List ℕ) (e : X509Error) → parameters_at i ≡ Err (named e) → ⊥
parameters_silent [] e given = cc
parameters_silent (x ∷ s) e given =
    elim (which_step (piece_at (x ∷ s)) _ e given) [
      | inl here ↦ piece_silent (x ∷ s) e here
      | inr step ↦ let wrong = step.2 in cc
    ]

algorithm_parts : (content : List ℕ) (e : X509Error) → AllBelowBase 256 content → algorithm_by content ≡ Err (named e) → (e ≡ errors.InvalidAlgorithmIdentifier) × NoneBegins (One IsOid) content
unfolding algorithm_by
algorithm_parts content e below given =
    elim (named_step (One IsOid) oid_at oids errors.InvalidAlgorithmIdentifier content _ e below given) [
      | inl here ↦ here
      | inr step ↦ elim (which_step (parameters_at step.after) _ e step.refused) [
        | inl here ↦ absurd (parameters_silent step.after e here)
        | inr last ↦ let wrong = last.2 in cc
      ]
    ]

pub algorithm_told : (i : List ℕ) (e : X509Error) → AllBelowBase 256 i → algorithm_at i ≡ Err (named e) → (e ≡ errors.InvalidAlgorithmIdentifier) × NoIdentifier i
algorithm_told i e below given =
    apart (e ≡ errors.InvalidAlgorithmIdentifier) 16 (NoneBegins (One IsOid)) i
    (inside_told 16 (λ q. algorithm_in q.element) (λ q. algorithm_by) (λ o. (e ≡ errors.InvalidAlgorithmIdentifier) × NoneBegins (One IsOid) o) i e algorithm_same below (λ q b told. algorithm_parts q.element.content e b told) given)

no_oid : (content : List ℕ) → AllBelowBase 256 content → NoneBegins (One IsOid) content → algorithm_by content ≡ Err (named errors.InvalidAlgorithmIdentifier)
unfolding algorithm_by
no_oid content below none = rw (none_told (One IsOid) oid_at oids errors.InvalidAlgorithmIdentifier content below none) refl

pub no_algorithm : (i : List ℕ) → AllBelowBase 256 i → NoIdentifier i → algorithm_at i ≡ Err (named errors.InvalidAlgorithmIdentifier)
no_algorithm i below is =
    inside_only 16 (λ q. algorithm_in q.element) (λ q. algorithm_by) (NoneBegins (One IsOid)) i errors.InvalidAlgorithmIdentifier algorithm_same below (λ q b none. no_oid q.element.content b none) is

pub algorithm_found : (e : X509Error) (i : List ℕ) → AllBelowBase 256 i → algorithm_at i ≡ Err (named e) → AlgorithmRefused e i
algorithm_found e i below given = let is = algorithm_told i e below given in subst (λ z. AlgorithmRefused z i) (sym is.0) is.1

pub algorithm_only : (e : X509Error) (i : List ℕ) → AllBelowBase 256 i → AlgorithmRefused e i → algorithm_at i ≡ Err (named e)
algorithm_only errors.InvalidAlgorithmIdentifier i below is = no_algorithm i below is
algorithm_only e i below is = absurd is

-- ---- attributes

-- the element at the front
abbrev Same : Piece → Piece → Type 0
Same p q = q ≡ p

pieces : IsReading (One Same) piece_at
pieces = record {
  found = λ i v r below given.
      let is = piece_found i v r below given in
      let here : One Same i v r = record { piece = v; spells = is.spells; whole = is.whole; means = refl } in
      (here, is.below);
  only = λ i v r below is. piece_only i is.piece r is.spells is.whole ∙ ap (λ z. Ok (z, r)) (sym is.means);
}

no_any : (i : List ℕ) → NoneBegins (One Same) i → NoneBegins (One IsAny) i
no_any i none v r is = none is.piece r (record { piece = is.piece; spells = is.spells; whole = is.whole; means = refl })

no_same : (i : List ℕ) → NoneBegins (One IsAny) i → NoneBegins (One Same) i
no_same i none v r is = none is.piece.element r (record { piece = is.piece; spells = is.spells; whole = is.whole; means = refl })

abbrev NoPair : List ℕ → Type 0
NoPair content = NoneBegins (One IsOid) content ⊎ Then (One IsOid) (NoneBegins (One IsAny)) content

unfoldable attribute_by : List ℕ → Answer Attribute
attribute_by content = do
  o ← naming errors.InvalidX509Name (oid_at content)
  v ← naming errors.InvalidX509Name (piece_at o.1)
  Ok (record { identifier = o.0; value = v.0.element })

attribute_same : (q : Piece) → attribute_in q.element ≡ content_in 16 q.element >>= attribute_by
unfolding attribute_in attribute_by
attribute_same q = refl

attribute_parts : (content : List ℕ) (e : X509Error) → AllBelowBase 256 content → attribute_by content ≡ Err (named e) → (e ≡ errors.InvalidX509Name) × NoPair content
unfolding attribute_by
attribute_parts content e below given =
    elim (named_step (One IsOid) oid_at oids errors.InvalidX509Name content _ e below given) [
      | inl here ↦ (here.0, inl here.1)
      | inr step ↦ elim (named_step (One Same) piece_at pieces errors.InvalidX509Name step.after _ e step.below step.refused) [
        | inl here ↦ (here.0, inr (record { value = step.value; after = step.after; begins = step.begins; next = no_any step.after here.1 }))
        | inr last ↦ let wrong = last.refused in cc
      ]
    ]

attribute_told : (i : List ℕ) (e : X509Error) → AllBelowBase 256 i → attribute_at i ≡ Err (named e) → (e ≡ errors.InvalidX509Name) × NoAttribute i
attribute_told i e below given =
    apart (e ≡ errors.InvalidX509Name) 16 NoPair i
    (inside_told 16 (λ q. attribute_in q.element) (λ q. attribute_by) (λ o. (e ≡ errors.InvalidX509Name) × NoPair o) i e attribute_same below (λ q b told. attribute_parts q.element.content e b told) given)

no_pair : (content : List ℕ) → AllBelowBase 256 content → NoPair content → attribute_by content ≡ Err (named errors.InvalidX509Name)
unfolding attribute_by
no_pair content below (inl none) = rw (none_told (One IsOid) oid_at oids errors.InvalidX509Name content below none) refl
no_pair content below (inr is) =
    let id = oids.only content is.value is.after below is.begins in
    let after = (oids.found content is.value is.after below id).1 in
    rw (id, none_told (One Same) piece_at pieces errors.InvalidX509Name is.after after (no_same is.after is.next)) refl

no_attribute : (i : List ℕ) → AllBelowBase 256 i → NoAttribute i → attribute_at i ≡ Err (named errors.InvalidX509Name)
no_attribute i below is =
    inside_only 16 (λ q. attribute_in q.element) (λ q. attribute_by) NoPair i errors.InvalidX509Name attribute_same below (λ q b none. no_pair q.element.content b none) is

pub attribute_found : (e : X509Error) (i : List ℕ) → AllBelowBase 256 i → attribute_at i ≡ Err (named e) → AttributeRefused e i
attribute_found e i below given = let is = attribute_told i e below given in subst (λ z. AttributeRefused z i) (sym is.0) is.1

pub attribute_only : (e : X509Error) (i : List ℕ) → AllBelowBase 256 i → AttributeRefused e i → attribute_at i ≡ Err (named e)
attribute_only errors.InvalidX509Name i below is = no_attribute i below is
attribute_only e i below is = absurd is

-- ---- names

name_content_silent : (q : Piece) (e : X509Error) → name_in q ≡ Err (named e) → ⊥
unfolding name_in
name_content_silent q e given =
    elim (which_step (content_in 16 q.element) _ e given) [
      | inl here ↦ content_silent 16 q.element e here
      | inr step ↦ let wrong = step.2 in cc
    ]

pub name_silent : (i : List ℕ) (e : X509Error) → AllBelowBase 256 i → name_at i ≡ Err (named e) → ⊥
name_silent i e below given = let opened = element_step name_in i e below given in name_content_silent opened.piece e opened.refused

-- ---- keys

abbrev NoBits : List ℕ → Type 0
NoBits = Then AlgorithmIdentifier (NoneBegins (One IsBits))

unfoldable key_by : Piece → List ℕ → Answer Key
key_by q content = do
  a ← algorithm_at content
  k ← naming errors.InvalidSPKI (bits_at a.1)
  Ok (record { algorithm = a.0; key = k.0; raw = window_to q.octets k.1 })

key_same : (q : Piece) → key_in q ≡ content_in 16 q.element >>= key_by q
unfolding key_in key_by
key_same q = refl

abbrev KeyTold : X509Error → List ℕ → Type 0
KeyTold e content = ((e ≡ errors.InvalidAlgorithmIdentifier) × NoIdentifier content) ⊎ ((e ≡ errors.InvalidSPKI) × NoBits content)

key_parts : (q : Piece) (content : List ℕ) (e : X509Error) → AllBelowBase 256 content → key_by q content ≡ Err (named e) → KeyTold e content
unfolding key_by
key_parts q content e below given =
    elim (part_step AlgorithmIdentifier algorithm_at algorithms content _ e below given) [
      | inl here ↦ inl (algorithm_told content e below here)
      | inr step ↦ elim (named_step (One IsBits) bits_at bits errors.InvalidSPKI step.after _ e step.below step.refused) [
        | inl here ↦ inr (here.0, record { value = step.value; after = step.after; begins = step.begins; next = here.1 })
        | inr last ↦ let wrong = last.refused in cc
      ]
    ]

pub key_told : (i : List ℕ) (e : X509Error) → AllBelowBase 256 i → key_at i ≡ Err (named e) → ((e ≡ errors.InvalidAlgorithmIdentifier) × Inside 16 NoIdentifier i) ⊎ ((e ≡ errors.InvalidSPKI) × NoKeyBits i)
key_told i e below given =
    either_apart (e ≡ errors.InvalidAlgorithmIdentifier) (e ≡ errors.InvalidSPKI) 16 NoIdentifier NoBits i
    (inside_told 16 key_in key_by (KeyTold e) i e key_same below (λ q b told. key_parts q q.element.content e b told) given)

key_algorithm : (q : Piece) (content : List ℕ) → AllBelowBase 256 content → NoIdentifier content → key_by q content ≡ Err (named errors.InvalidAlgorithmIdentifier)
unfolding key_by
key_algorithm q content below is = rw (no_algorithm content below is) refl

key_bits : (q : Piece) (content : List ℕ) → AllBelowBase 256 content → NoBits content → key_by q content ≡ Err (named errors.InvalidSPKI)
unfolding key_by
key_bits q content below is =
    let algorithm = algorithms.only content is.value is.after below is.begins in
    let after = (algorithms.found content is.value is.after below algorithm).1 in
    rw (algorithm, none_told (One IsBits) bits_at bits errors.InvalidSPKI is.after after is.next) refl

pub key_found : (e : X509Error) (i : List ℕ) → AllBelowBase 256 i → key_at i ≡ Err (named e) → KeyRefused e i
key_found e i below given =
    elim (key_told i e below given) [
      | inl is ↦ subst (λ z. KeyRefused z i) (sym is.0) is.1
      | inr is ↦ subst (λ z. KeyRefused z i) (sym is.0) is.1
    ]

pub key_only : (e : X509Error) (i : List ℕ) → AllBelowBase 256 i → KeyRefused e i → key_at i ≡ Err (named e)
key_only errors.InvalidAlgorithmIdentifier i below is =
    inside_only 16 key_in key_by NoIdentifier i errors.InvalidAlgorithmIdentifier key_same below (λ q b none. key_algorithm q q.element.content b none) is
key_only errors.InvalidSPKI i below is =
    inside_only 16 key_in key_by NoBits i errors.InvalidSPKI key_same below (λ q b none. key_bits q q.element.content b none) is
key_only e i below is = absurd is

-- ---- RSA keys

rsa_keys : IsReading RSAPublicKey (next (λ q. rsa_key_in q.element))
rsa_keys = next_reading (Holds 16 RsaParts) (λ q. rsa_key_in q.element) rsa_meaning

pub rsa_found : (e : X509Error) (i : List ℕ) → AllBelowBase 256 i → rsa_key_at i ≡ Err (named e) → RsaKeyRefused e i
rsa_found e i below given =
    let is = told_none RSAPublicKey (next (λ q. rsa_key_in q.element)) rsa_keys errors.InvalidSPKI i e below given in
    subst (λ z. RsaKeyRefused z i) (sym is.0) is.1

pub rsa_only : (e : X509Error) (i : List ℕ) → AllBelowBase 256 i → RsaKeyRefused e i → rsa_key_at i ≡ Err (named e)
rsa_only errors.InvalidSPKI i below is = none_told RSAPublicKey (next (λ q. rsa_key_in q.element)) rsa_keys errors.InvalidSPKI i below is
rsa_only e i below is = absurd is
