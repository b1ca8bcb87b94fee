-- What the parts of a certificate or list, as they are in a tree, are written as, and which parts
-- are.
use Rattle.std.specs.Prelude.{◌≡◌, ℕ, ◌≤◌, length, List, [], ◌∷◌}
use Rattle.std.specs.List.{concat, AllByRecursion}
use Rattle.asn1_core.specs.Elements.{Element, element_octets}
use Rattle.cert_model.specs.Fields.{CivilTime, Entry}
use Rattle.cert_model.specs.Octets.{sequence_octets, optional_octets, number_octets, bit_field_octets, algorithm_octets, name_octets, validity_octets, key_octets, time_octets, entries_octets}
use Rattle.cert_model.specs.Range.{IfThere, IsAny, IsNumber, AreBits, IsAlgorithm, IsName, IsKey, IsTimeField, AreExtensions}
use Rattle.cert_model.specs.Pieces.{TbsPieces, Signed, TbsListPieces}

-- an element of this context-specific tag
pub record IsTagged (tag : ℕ) (e : Element) : Type 0 where
  pub any : IsAny e
  pub class : e.class ≡ 2
  pub number : e.tag ≡ tag

-- no more content octets than an object may have
abbrev pub HasSmallContent : Element → Type 0
HasSmallContent e = length e.content ≤ 4_294_967_295

abbrev pub both_times : CivilTime × CivilTime → List ℕ
both_times v = validity_octets v.0 v.1

abbrev pub AreTimes : CivilTime × CivilTime → Type 0
AreTimes v = IsTimeField v.0 × IsTimeField v.1

unfoldable pub tbs_pieces_octets : TbsPieces → List ℕ
tbs_pieces_octets p =
    sequence_octets (concat (optional_octets element_octets p.version ∷ number_octets p.serial ∷ algorithm_octets p.signature
    ∷ name_octets p.issuer ∷ both_times p.validity ∷ name_octets p.subject ∷ key_octets p.key
    ∷ optional_octets element_octets p.issuer_id ∷ optional_octets element_octets p.subject_id ∷ optional_octets element_octets p.extensions ∷ []))

pub record AreTbsPieces (p : TbsPieces) : Type 0 where
  pub version : IfThere (IsTagged 0) p.version
  pub serial : IsNumber p.serial
  pub signature : IsAlgorithm p.signature
  pub issuer : IsName p.issuer
  pub validity : AreTimes p.validity
  pub subject : IsName p.subject
  pub key : IsKey p.key
  pub issuer_id : IfThere (IsTagged 1) p.issuer_id
  pub subject_id : IfThere (IsTagged 2) p.subject_id
  pub extensions : IfThere (IsTagged 3) p.extensions

abbrev pub signed_octets : {A : Type 0} → (A → List ℕ) → Signed A → List ℕ
signed_octets write s = sequence_octets (concat (write s.signed ∷ algorithm_octets s.algorithm ∷ bit_field_octets s.signature_value ∷ []))

pub record AreSigned (A : Type 0) (Is : A → Type 0) (s : Signed A) : Type 0 where
  pub signed : Is s.signed
  pub algorithm : IsAlgorithm s.algorithm
  pub signature_value : AreBits s.signature_value

-- an entry, whatever the list's version
pub record AreEntryFields (e : Entry) : Type 0 where
  pub serial : IsNumber e.serial
  pub date : IsTimeField e.date
  pub extensions : AreExtensions e.extensions

unfoldable pub tbs_list_pieces_octets : TbsListPieces → List ℕ
tbs_list_pieces_octets p =
    sequence_octets (concat (optional_octets (λ version. number_octets (version ∷ [])) p.version ∷ algorithm_octets p.signature
    ∷ name_octets p.issuer ∷ time_octets p.this_update ∷ optional_octets time_octets p.next_update
    ∷ entries_octets p.entries ∷ optional_octets element_octets p.extensions ∷ []))

pub record AreTbsListPieces (p : TbsListPieces) : Type 0 where
  pub version : IfThere (λ version. version ≡ 1) p.version
  pub signature : IsAlgorithm p.signature
  pub issuer : IsName p.issuer
  pub this_update : IsTimeField p.this_update
  pub next_update : IfThere IsTimeField p.next_update
  pub entries : AllByRecursion AreEntryFields p.entries
  pub extensions : IfThere (IsTagged 0) p.extensions
