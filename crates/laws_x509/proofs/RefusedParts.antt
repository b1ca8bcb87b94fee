-- Parts written out by hand are refused as the tables say.
use Rattle.std.proofs.Common.{◌≡◌, refl, ap, subst, ◌⊎◌, inl, inr, ℕ, ◌<◌, List, [], ◌∷◌, ◌++◌, true, false, length, lit<}
use Rattle.asn1_core.specs.Strict.{Head}
use Rattle.asn1_any.specs.Cutting.{Piece, IsPiece}
use Rattle.x509_core.specs.Grammar.{NoneBegins, One, Holds}
use Rattle.x509_core.specs.declared.error.X509Error.TheVariants as errors
use Rattle.x509_core.proofs.Grammars.{none_at_end, piece_only}
use Rattle.x509_core.proofs.Items.{tlv, piece, spelled, none_here, header_is}
use Rattle.x509_names.specs.Examples.{algorithm, algorithm_octets}
use Rattle.x509_names.specs.Leaves.{IsOid, IsInteger, IsBits, IsAny}
use Rattle.x509_names.specs.Names.{AlgorithmIdentifier}
use Rattle.x509_names.specs.PublicKeys.{RsaParts}
use Rattle.x509_names.proofs.Items.{oid_is, algorithm_is}
use Rattle.x509_time.specs.Examples.{start, start_octets}
use Rattle.x509_time.specs.Times.{Time, IsTime, utc_time, general_time, ASN1Time}
use Rattle.x509_time.specs.Updates.{NextUpdate, there, at_end, cut_tag, no_time}
use Rattle.x509_time.proofs.HeaderLaws.{cut_no_header, one_head}
use Rattle.x509_time.proofs.Items.{start_is}
use Rattle.laws_x509.specs.Refused.{Then, Inside}
use Rattle.laws_x509.specs.NameRefusals.{NoIdentifier, AlgorithmRefused, NoAttribute, AttributeRefused, KeyRefused, RsaKeyRefused}
use Rattle.laws_x509.specs.PartRefusals.{TimeRefused, NoValidity, ValidityRefused, UpdateRefused}
use Rattle.laws_x509.specs.RefusedOctets as refused

pub sequence : (Q : List ℕ → Type 0) (content rest : List ℕ) → length content < 128 → Q content → Inside 16 Q (tlv 0 true 16 content ++ rest)
sequence Q content rest short is = record {
  piece = piece 0 true 16 content;
  after = rest;
  spells = spelled 0 true 16 content (lit< tt) (lit< tt) short;
  whole = refl;
  tag = refl;
  inner = is;
}

-- the element at the front means the value
pub meant_here : {A : Type 0} (M : Piece → A → Type 0) (p : Piece) (rest : List ℕ) → IsPiece p → (v : A) (r : List ℕ) → One M (p.octets ++ rest) v r → M p v
meant_here M p rest spells v r is =
    let mine = piece_only (p.octets ++ rest) p rest spells refl in
    let other = piece_only (p.octets ++ rest) is.piece r is.spells is.whole in
    let both : ◌≡◌ {A = Piece × List ℕ} (is.piece, r) (p, rest) = cc in
    subst (λ z. M z v) (ap (λ (z : Piece × List ℕ). z.0) both) is.means

pub no_identifier : NoIdentifier refused.empty
no_identifier = sequence (NoneBegins (One IsOid)) [] [] (lit< tt) (none_at_end IsOid)

pub no_type : AttributeRefused errors.InvalidX509Name refused.empty
no_type = sequence (λ o. NoneBegins (One IsOid) o ⊎ Then (One IsOid) (NoneBegins (One IsAny)) o) [] [] (lit< tt) (inl (none_at_end IsOid))

pub no_value : AttributeRefused errors.InvalidX509Name refused.no_value
no_value = sequence (λ o. NoneBegins (One IsOid) o ⊎ Then (One IsOid) (NoneBegins (One IsAny)) o) (0x06 ∷ 0x02 ∷ 0x2a ∷ 0x03 ∷ []) [] (lit< tt)
    (inr (record { value = 0x2a ∷ 0x03 ∷ []; after = []; begins = oid_is (0x2a ∷ 0x03 ∷ []) [] (lit< tt); next = none_at_end IsAny }))

pub no_key_algorithm : KeyRefused errors.InvalidAlgorithmIdentifier refused.no_key_algorithm
no_key_algorithm = sequence NoIdentifier refused.empty [] (lit< tt) no_identifier

pub no_key_bits : KeyRefused errors.InvalidSPKI refused.no_key_bits
no_key_bits = sequence (Then AlgorithmIdentifier (NoneBegins (One IsBits))) algorithm_octets [] (lit< tt) (record { value = algorithm; after = []; begins = algorithm_is []; next = none_at_end IsBits })

pub no_rsa_key : RsaKeyRefused errors.InvalidSPKI refused.empty
no_rsa_key = none_here (Holds 16 RsaParts) (piece 0 true 16 []) [] (spelled 0 true 16 [] (lit< tt) (lit< tt) (lit< tt)) (λ v holds. none_at_end IsInteger v.modulus holds.1.inner.after_modulus holds.1.inner.modulus)

-- ---- times

no_sequence : (v : Time) → IsTime (piece 0 true 16 []) v → ⊥
no_sequence v (utc_time is form) = cc
no_sequence v (general_time is form) = cc

pub no_time_there : TimeRefused errors.InvalidDate refused.empty
no_time_there = none_here IsTime (piece 0 true 16 []) [] (spelled 0 true 16 [] (lit< tt) (lit< tt) (lit< tt)) no_sequence

abbrev NoTimes : List ℕ → Type 0
NoTimes content = NoneBegins ASN1Time content ⊎ Then ASN1Time (NoneBegins ASN1Time) content

pub no_start : NoValidity refused.empty
no_start = sequence NoTimes [] [] (lit< tt) (inl (none_at_end IsTime))

pub no_end : NoValidity refused.no_end
no_end = sequence NoTimes start_octets [] (lit< tt) (inr (record { value = start; after = []; begins = start_is []; next = none_at_end IsTime }))

constructed : (v : Time) → IsTime (piece 0 true 23 []) v → ⊥
constructed v (utc_time is form) = cc is.leaf.primitive
constructed v (general_time is form) = cc is.leaf.primitive

abbrev head : Head
head = record { class = 0; constructed = true; tag = 23; size = 0 }

pub no_update : UpdateRefused errors.InvalidDate refused.constructed_time
no_update v r (there t value is) = constructed t (meant_here IsTime (piece 0 true 23 []) [] (spelled 0 true 23 [] (lit< tt) (lit< tt) (lit< tt)) t r is)
no_update v r (at_end none value rest) = cc none
no_update v r (cut_tag cut value rest) = cut_no_header refused.constructed_time head [] cut (header_is 0 true 23 0 [] (lit< tt) (lit< tt) (lit< tt))
no_update v r (no_time n value rest) =
    n.no_utc_time (ap (λ (h : Head). h.tag) (one_head refused.constructed_time n.head head n.after_header [] n.header (header_is 0 true 23 0 [] (lit< tt) (lit< tt) (lit< tt))))
