-- The worked items have these first faults.
use Rattle.std.proofs.Common.{◌≡◌, refl, sym, ℕ, List, [], ◌∷◌, true, false, Some, subst, lit<, lit≤}
use Rattle.asn1_core.specs.Elements.{Element}
use Rattle.asn1_core.specs.Reading.{identity_at, length_at, ber_header_at, strict_at}
use Rattle.asn1_core.specs.Strict.{Head, IsHead}
use Rattle.asn1_core.specs.declared.error.Needed.TheVariants as needed
use Rattle.asn1_core.specs.declared.outcome.Err.TheVariants as refusals
use Rattle.der_tree.specs.Access.{content_in, universal}
use Rattle.der_tree.specs.Object.{IsCut}
use Rattle.der_tree.specs.Shape.{IsObject, IsContent, AreObjects, BeginsWithObject}
use Rattle.der_tree.specs.Tree.{null, Tree, node, leaf, sequence, Trees, none, more, octets, all_octets}
use Rattle.der_tree.proofs.Cuts.{cut_missing, cut_once}
use Rattle.der_tree.proofs.Objects.{object_parts, no_sequence}
use Rattle.cert_model.specs.Reads.{number_at}
use Rattle.cert_faults.specs.declared.places.Expected.TheVariants as wants
use Rattle.cert_faults.specs.declared.places.Field.TheVariants as fields
use Rattle.cert_faults.specs.Steps.{missing, unlike, whole}
use Rattle.cert_faults.specs.Elements.{header, part, IsBroken, elements, inner}
use Rattle.cert_faults.specs.Items.{before, certificate_front, IsCertificateFault}
use Rattle.cert_faults.specs.Fault.{HeadsBy, IsFirstFault}
use Rattle.cert_faults.proofs.Broken.{broken_some}
use Rattle.laws_items.specs.Classes.{empty_tree, null_octets}
use Rattle.laws_items.specs.Faults.{null_header, null_serial, serial_fault, cut_null, cut_fault, no_parts, missing_fault}
use Rattle.laws_items.proofs.OfClasses.{empty_is_object, no_certificate}

-- a NULL as a serial number

abbrev null_tree : Tree
null_tree = node (record { class = 0; constructed = false; tag = 5; size = 0 }) null_octets (leaf null)

abbrev pair_octets : List ℕ
pair_octets = 0x30 ∷ 0x02 ∷ null_octets

abbrev pair_tree : Tree
pair_tree = node (record { class = 0; constructed = true; tag = 16; size = 2 }) pair_octets (sequence (more null_tree none))

abbrev serial_tree : Tree
serial_tree = node (record { class = 0; constructed = true; tag = 16; size = 4 }) null_serial (sequence (more pair_tree none))

null_cut : IsCut null_octets (universal false 5 [])
null_cut = record { in_range = record { class = lit< tt; tag = lit< tt; size = lit< tt }; size = lit≤ tt; octets = refl }

pair_cut : IsCut pair_octets (universal true 16 null_octets)
pair_cut = record { in_range = record { class = lit< tt; tag = lit< tt; size = lit< tt }; size = lit≤ tt; octets = refl }

serial_cut : IsCut null_serial (universal true 16 pair_octets)
serial_cut = record { in_range = record { class = lit< tt; tag = lit< tt; size = lit< tt }; size = lit≤ tt; octets = refl }

null_object : IsObject 48 null_tree
unfolding IsObject IsContent
null_object = (lit< tt, universal false 5 [], refl, null_cut, (record { class = refl; constructed = refl; tag = refl }, refl))

pair_object : IsObject 49 pair_tree
unfolding IsObject IsContent AreObjects
pair_object = (lit< tt, universal true 16 null_octets, refl, pair_cut, (record { class = refl; constructed = refl; tag = refl }, refl, (null_object, tt)))

serial_object : IsObject 50 serial_tree
unfolding IsObject IsContent AreObjects
serial_object = (lit< tt, universal true 16 pair_octets, refl, serial_cut, (record { class = refl; constructed = refl; tag = refl }, refl, (pair_object, tt)))

no_serial : IsCertificateFault 6 serial_tree (unlike (whole fields.SerialNumber) wants.NumberFromZero 2)
unfolding certificate_front number_at
no_serial = before refl

null_there : HeadsBy (ber_header_at null_octets) (Some (null_header 0))
unfolding ber_header_at identity_at length_at
null_there = (null_header 0, refl, refl)

pub serial_is_first : IsFirstFault null_serial serial_fault
serial_is_first = (
  unlike (whole fields.SerialNumber) wants.NumberFromZero 2,
  inner serial_tree serial_object refl no_serial,
  record { field = refl; part = refl; expected = refl; offset = refl; found = null_there },
)

-- a NULL that is cut

abbrev rest_octets : List ℕ
rest_octets = 0x05 ∷ 0x01 ∷ []

abbrev cut_head : Head
cut_head = record { class = 0; constructed = false; tag = 5; size = 1 }

cut_is_head : IsHead cut_head
cut_is_head = record { class = lit< tt; tag = lit< tt; size = lit< tt }

none_begins : (k : ℕ) → BeginsWithObject k rest_octets → ⊥
none_begins k p =
    let m = object_parts k p.0 p.2 in
    cut_missing cut_head rest_octets [] 1 (cut_is_head, refl) refl [] (lit< tt) (octets p.0, p.1, m.element, m.cut, p.3)

no_parts_spell : (ts : Trees) → AreObjects 49 ts → rest_octets ≡ all_octets ts → ⊥
unfolding AreObjects
no_parts_spell none p e = cc
no_parts_spell (more t ts) p e = none_begins 49 (t, all_octets ts, p.0, e)

holder_cut : IsCut cut_null (universal true 16 rest_octets)
holder_cut = record { in_range = record { class = lit< tt; tag = lit< tt; size = lit< tt }; size = lit≤ tt; octets = refl }

no_object_begins : BeginsWithObject 50 cut_null → ⊥
no_object_begins p =
    let m = object_parts 50 p.0 p.2 in
    let once = cut_once (octets p.0) cut_null m.element (universal true 16 rest_octets) p.1 [] m.cut holder_cut (sym p.3) in
    let holds : IsContent 49 (universal true 16 rest_octets) (content_in p.0) = subst (λ (e : Element). IsContent 49 e (content_in p.0)) once.0 m.content in
    no_sequence 49 (universal true 16 rest_octets) (record { class = refl; constructed = refl; tag = refl }) no_parts_spell (content_in p.0) holds

cut_is_broken : IsBroken 49 (whole fields.Item) rest_octets 2 (unlike (whole fields.Item) wants.WholeElement 2)
unfolding strict_at identity_at length_at
cut_is_broken = broken_some 49 (whole fields.Item) rest_octets 2 _ (lit< tt) (header (refusals.Incomplete (needed.Size 1)) refl refl)

nothing_spelled : AreObjects 49 none
unfolding AreObjects
nothing_spelled = tt

holder_is_broken : IsBroken 50 (whole fields.Item) cut_null 4 (unlike (whole fields.Item) wants.WholeElement 2)
unfolding strict_at identity_at length_at
holder_is_broken = broken_some 50 (whole fields.Item) cut_null 4 _ (lit< tt)
    (part (universal true 16 rest_octets) [] none rest_octets refl refl nothing_spelled refl (λ e. cc) (none_begins 49) cut_is_broken)

cut_there : HeadsBy (ber_header_at rest_octets) (Some (null_header 1))
unfolding ber_header_at identity_at length_at
cut_there = (null_header 1, refl, refl)

pub cut_is_first : IsFirstFault cut_null cut_fault
cut_is_first = (
  unlike (whole fields.Item) wants.WholeElement 2,
  elements no_object_begins holder_is_broken,
  record { field = refl; part = refl; expected = refl; offset = refl; found = cut_there },
)

-- a first part that is missing
pub missing_is_first : IsFirstFault no_parts missing_fault
missing_is_first = (
  missing (whole fields.TbsCertificate) wants.Sequence 0,
  inner empty_tree empty_is_object refl no_certificate,
  record { field = refl; part = refl; expected = refl; offset = refl; found = refl },
)
