-- From parts to fields and back.
use Rattle.std.proofs.Common.{◌≡◌, ◌≢◌, ◌∙◌, sym, ap, refl, ℕ, zero, suc, ◌^◌, ◌<◌, ◌≤◌, ◌==◌, ◌&&◌, ◌||◌, List, [], ◌∷◌, Bool, true, false, Option, Some, None, nat_lt, if◌then◌else◌, lit<, subst, arith, option_map}
use Rattle.std.specs.List.{AllByRecursion}
use Rattle.std.proofs.lemmas.Bool.{eqb-true, eq-eqb, lt-ltb, ltb-true}
use Rattle.std.proofs.lemmas.Bool.Decides.{nat_tests}
use Rattle.asn1_core.specs.Elements.{Element, element_octets}
use Rattle.der_tree.specs.Table.{is_bit_string}
use Rattle.der_tree.specs.Tree.{Tree, octets}
use Rattle.der_tree.specs.Shape.{IsObject}
use Rattle.cert_model.specs.Fields.{Bits, Extension, Entry, Certificate, RevocationList}
use Rattle.cert_model.specs.Octets.{optional_octets, number_octets, bits_content, implicit_bits_octets, explicit_octets, version_octets, extensions_octets, tagged_extensions_octets, tbs_certificate_octets, certificate_octets, tbs_cert_list_octets, list_octets}
use Rattle.cert_model.specs.Range.{IfThere, AreBits, AreExtensions, AreCertificateFields, IsEntry, AreListFields}
use Rattle.cert_model.specs.Pieces.{TbsPieces, tbs_at, Signed, signed_at, TbsListPieces, tbs_list_at}
use Rattle.cert_model.specs.PieceOctets.{IsTagged, tbs_pieces_octets, AreTbsPieces, signed_octets, AreSigned, AreEntryFields, tbs_list_pieces_octets, AreTbsListPieces}
use Rattle.cert_model.specs.Assembly.{version_number, version_in, bits_in, id_in, AreExtensionsIn, is_there, is_some, implies, fits_version, certificate_from, is_version_two, entries_fit, list_from}
use Rattle.cert_model.proofs.Cases.{chosen, both_true}
use Rattle.cert_model.proofs.Certificates.{signed_found, signed_only, tbs_parts, tbs_laws}
use Rattle.cert_model.proofs.RevocationLists.{tbs_list_parts, tbs_list_laws}

abbrev element_of : Bool → ℕ → List ℕ → Element
element_of constructed tag content = record { class = 2; constructed = constructed; tag = tag; content = content }

tagged_is : (tag : ℕ) (b : Bool) (e : Element) → IsTagged tag e → e.constructed ≡ b → e ≡ element_of b tag e.content
tagged_is tag b e p c =
    ap (λ z. record e { class = z }) p.class ∙ ap (λ z. record e { class = 2; constructed = z }) c ∙ ap (λ z. record e { class = 2; constructed = b; tag = z }) p.number

is_tagged_element : (tag : ℕ) (b : Bool) (s : List ℕ) → tag < 2 ^ 32 → IsTagged tag (element_of b tag s)
is_tagged_element tag b s small = record { any = record { class = lit< tt; tag = small }; class = refl; number = refl }

-- the version

version_element : ℕ → Option Element
version_element zero = None
version_element (suc v) = Some (element_of true 0 (number_octets (suc v ∷ [])))

version_spelled : (v : ℕ) → version_octets v ≡ optional_octets element_octets (version_element v)
unfolding version_element
version_spelled zero = refl
version_spelled (suc v) = let test : nat_lt 0 (suc v) ≡ true = lt-ltb 0 (suc v) (omega arith) in rw test refl

one_or_two : (v : ℕ) → (v == 1 || v == 2) ≡ true → (0 < v) × (v ≤ 2)
one_or_two v e = (grind (arith, nat_tests), grind (arith, nat_tests))

version_written : (v : ℕ) → 0 < v → version_octets v ≡ element_octets (element_of true 0 (number_octets (v ∷ [])))
version_written v p = let test : nat_lt 0 v ≡ true = lt-ltb 0 v p in rw test refl

version_content : (s : List ℕ) (v : ℕ) → version_number s ≡ Some v → (0 < v) × (v ≤ 2) × (s ≡ number_octets (v ∷ []))
version_content [] v e = cc
version_content (a ∷ []) v e = cc
version_content (a ∷ b ∷ []) v e = cc
version_content (a ∷ b ∷ w ∷ []) v e =
    let test = chosen (a == 2 && b == 1 && (w == 1 || w == 2)) w v e in
    let outer = both_true (a == 2 && b == 1) (w == 1 || w == 2) test.0 in
    let inner = both_true (a == 2) (b == 1) outer.0 in
    let range = one_or_two w outer.1 in
    let is : a ∷ b ∷ w ∷ [] ≡ 2 ∷ 1 ∷ v ∷ [] = ap (λ z. z ∷ b ∷ w ∷ []) (eqb-true a 2 inner.0) ∙ ap (λ z. 2 ∷ z ∷ w ∷ []) (eqb-true b 1 inner.1) ∙ ap (λ z. 2 ∷ 1 ∷ z ∷ []) test.1 in
    (omega (arith, range.0, test.1), omega (arith, range.1, test.1), is)
version_content (a ∷ b ∷ w ∷ x ∷ s) v e = cc

if_true : {A : Type 0} (b : Bool) (o : Option A) (x : A) → (if b then o else None) ≡ Some x → (b ≡ true) × (o ≡ Some x)
if_true true o x e = (refl, e)
if_true false o x e = cc

if_false : {A : Type 0} (b : Bool) (o : Option A) (x : A) → (if b then None else o) ≡ Some x → (b ≡ false) × (o ≡ Some x)
if_false true o x e = cc
if_false false o x e = (refl, e)

version_found : (o : Option Element) (v : ℕ) → IfThere (IsTagged 0) o → version_in o ≡ Some v → (v ≤ 2) × (optional_octets element_octets o ≡ version_octets v)
version_found None v p e =
    let same : 0 ≡ v = cc in
    (omega (arith, same), ap version_octets same)
version_found (Some e) v p read =
    let test = if_true e.constructed (version_number e.content) v read in
    let content = version_content e.content v test.1 in
    let is : e ≡ element_of true 0 (number_octets (v ∷ [])) = tagged_is 0 true e p test.0 ∙ ap (element_of true 0) content.2 in
    (content.1, ap element_octets is ∙ sym (version_written v content.0))

version_only : (v : ℕ) → v ≤ 2 → version_in (version_element v) ≡ Some v
unfolding version_element
version_only zero p = refl
version_only (suc zero) p = refl
version_only (suc (suc zero)) p = refl
version_only (suc (suc (suc v))) p = absurd (omega arith)

version_tagged : (v : ℕ) → IfThere (IsTagged 0) (version_element v)
unfolding version_element
version_tagged zero = tt
version_tagged (suc v) = is_tagged_element 0 true (number_octets (suc v ∷ [])) (lit< tt)

-- unique identifiers

abbrev id_element : ℕ → Bits → Element
id_element tag b = element_of false tag (bits_content b)

id_step : (tag : ℕ) (e : Element) (s : List ℕ) (i : Option Bits) → e ≡ element_of false tag s → bits_in s ≡ Some i → IfThere AreBits i × (element_octets e ≡ optional_octets (implicit_bits_octets tag) i)
id_step tag e [] i is read = cc
id_step tag e (unused ∷ s) i is read =
    let here : Bits = record { unused = unused; octets = s } in
    let test = chosen (is_bit_string (unused ∷ s)) (Some here) i read in
    subst (λ (z : Option Bits). IfThere AreBits z × (element_octets e ≡ optional_octets (implicit_bits_octets tag) z)) test.1 (test.0, ap element_octets is)

id_found : (tag : ℕ) (o : Option Element) (i : Option Bits) → IfThere (IsTagged tag) o → id_in o ≡ Some i → IfThere AreBits i × (optional_octets element_octets o ≡ optional_octets (implicit_bits_octets tag) i)
id_found tag None i p e =
    let same : None ≡ i = cc in
    subst (λ (z : Option Bits). IfThere AreBits z × (optional_octets element_octets None ≡ optional_octets (implicit_bits_octets tag) z)) same (tt, refl)
id_found tag (Some e) i p read =
    let test = if_false e.constructed (bits_in e.content) i read in
    id_step tag e e.content i (tagged_is tag false e p test.0) test.1

id_only : (tag : ℕ) (i : Option Bits) → IfThere AreBits i → id_in (option_map (id_element tag) i) ≡ Some i
id_only tag None p = refl
id_only tag (Some b) p = let test : is_bit_string (b.unused ∷ b.octets) ≡ true = p in rw test refl

id_tagged : (tag : ℕ) (i : Option Bits) → tag < 2 ^ 32 → IfThere (IsTagged tag) (option_map (id_element tag) i)
id_tagged tag None small = tt
id_tagged tag (Some b) small = is_tagged_element tag false (bits_content b) small

id_spelled : (tag : ℕ) (i : Option Bits) → optional_octets element_octets (option_map (id_element tag) i) ≡ optional_octets (implicit_bits_octets tag) i
id_spelled tag None = refl
id_spelled tag (Some b) = refl

-- extensions

extensions_element : ℕ → List Extension → Option Element
extensions_element tag [] = None
extensions_element tag (x ∷ es) = Some (element_of true tag (extensions_octets (x ∷ es)))

tagged_extensions : (tag : ℕ) (es : List Extension) → es ≢ [] → tagged_extensions_octets tag es ≡ explicit_octets tag (extensions_octets es)
tagged_extensions tag [] p = absurd (p refl)
tagged_extensions tag (x ∷ es) p = refl

extensions_read : (tag : ℕ) (o : Option Element) (es : List Extension) → IfThere (IsTagged tag) o → AreExtensionsIn o es → AreExtensions es × (optional_octets element_octets o ≡ tagged_extensions_octets tag es)
extensions_read tag None es p q = (subst AreExtensions (sym q) tt, ap (tagged_extensions_octets tag) (sym q))
extensions_read tag (Some e) es p q =
    let is : e ≡ element_of true tag (extensions_octets es) = tagged_is tag true e p q.0 ∙ ap (element_of true tag) (sym q.1.spelled) in
    (q.1.in_range, ap element_octets is ∙ sym (tagged_extensions tag es q.1.some))

extensions_in : (tag : ℕ) (es : List Extension) → AreExtensions es → AreExtensionsIn (extensions_element tag es) es
unfolding extensions_element
extensions_in tag [] p = refl
extensions_in tag (x ∷ es) p = (refl, record { some = λ is. cc; in_range = p; spelled = refl })

extensions_tagged : (tag : ℕ) (es : List Extension) → tag < 2 ^ 32 → IfThere (IsTagged tag) (extensions_element tag es)
unfolding extensions_element
extensions_tagged tag [] small = tt
extensions_tagged tag (x ∷ es) small = is_tagged_element tag true (extensions_octets (x ∷ es)) small

extensions_spelled : (tag : ℕ) (es : List Extension) → optional_octets element_octets (extensions_element tag es) ≡ tagged_extensions_octets tag es
unfolding extensions_element
extensions_spelled tag [] = refl
extensions_spelled tag (x ∷ es) = refl

-- which versions have what

there_if : {A : Type 0} (o : Option A) (b : Bool) → implies (is_there o) b ≡ true → o ≢ None → b ≡ true
there_if None b e p = absurd (p refl)
there_if (Some x) b e p = e

if_there : {A : Type 0} (o : Option A) (b : Bool) → (o ≢ None → b ≡ true) → implies (is_there o) b ≡ true
if_there None b p = refl
if_there (Some x) b p = p (λ e. cc)

some_then : {A : Type 0} (xs : List A) (b : Bool) → implies (is_some xs) b ≡ true → xs ≢ [] → b ≡ true
some_then [] b e p = absurd (p refl)
some_then (x ∷ xs) b e p = e

then_some : {A : Type 0} (xs : List A) (b : Bool) → (xs ≢ [] → b ≡ true) → implies (is_some xs) b ≡ true
then_some [] b p = refl
then_some (x ∷ xs) b p = p (λ e. cc)

-- certificates

pub certificate_found : (k : ℕ) (t : Tree) (s : Signed TbsPieces) (v : ℕ) (i j : Option Bits) (es : List Extension) → IsObject k t → signed_at tbs_at t ≡ Some s →
    version_in s.signed.version ≡ Some v → id_in s.signed.issuer_id ≡ Some i → id_in s.signed.subject_id ≡ Some j → AreExtensionsIn s.signed.extensions es → fits_version v i j es ≡ true →
    AreCertificateFields (certificate_from s v i j es) × (certificate_octets (certificate_from s v i j es) ≡ octets t)
unfolding certificate_octets tbs_certificate_octets tbs_pieces_octets
certificate_found k t s v i j es o read version issuer subject extensions fits =
    let m = signed_found tbs_parts AreTbsPieces tbs_laws k t s o read in
    let p = m.0.signed in
    let a = version_found s.signed.version v p.version version in
    let b = id_found 1 s.signed.issuer_id i p.issuer_id issuer in
    let c = id_found 2 s.signed.subject_id j p.subject_id subject in
    let d = extensions_read 3 s.signed.extensions es p.extensions extensions in
    let outer = both_true (implies (is_there i) (nat_lt 0 v) && implies (is_there j) (nat_lt 0 v)) (implies (is_some es) (v == 2)) fits in
    let inner = both_true (implies (is_there i) (nat_lt 0 v)) (implies (is_there j) (nat_lt 0 v)) outer.0 in (
      record {
        version = a.0;
        serial = p.serial;
        signature = p.signature;
        issuer = p.issuer;
        not_before = p.validity.0;
        not_after = p.validity.1;
        subject = p.subject;
        key = p.key;
        issuer_id = b.0;
        subject_id = c.0;
        extensions = d.0;
        algorithm = m.0.algorithm;
        signature_value = m.0.signature_value;
        issuer_id_from = λ is. ltb-true 0 v (there_if i (nat_lt 0 v) inner.0 is);
        subject_id_from = λ is. ltb-true 0 v (there_if j (nat_lt 0 v) inner.1 is);
        extensions_from = λ is. eqb-true v 2 (some_then es (v == 2) outer.1 is);
      },
      rw (← a.1, ← b.1, ← c.1, ← d.1) m.1,
    )

pieces_of : Certificate → Signed TbsPieces
pieces_of c = record {
  signed = record {
    version = version_element c.version;
    serial = c.serial;
    signature = c.signature;
    issuer = c.issuer;
    validity = (c.not_before, c.not_after);
    subject = c.subject;
    key = c.key;
    issuer_id = option_map (id_element 1) c.issuer_id;
    subject_id = option_map (id_element 2) c.subject_id;
    extensions = extensions_element 3 c.extensions;
  };
  algorithm = c.algorithm;
  signature_value = c.signature_value;
}

-- what the tree of a certificate with these fields is read as
pub record ReadsCertificate (t : Tree) (c : Certificate) : Type 0 where
  pub pieces : Signed TbsPieces
  pub read : signed_at tbs_at t ≡ Some pieces
  pub version : version_in pieces.signed.version ≡ Some c.version
  pub issuer_id : id_in pieces.signed.issuer_id ≡ Some c.issuer_id
  pub subject_id : id_in pieces.signed.subject_id ≡ Some c.subject_id
  pub extensions : AreExtensionsIn pieces.signed.extensions c.extensions
  pub fits : fits_version c.version c.issuer_id c.subject_id c.extensions ≡ true
  pub same : certificate_from pieces c.version c.issuer_id c.subject_id c.extensions ≡ c

pub certificate_only : (k : ℕ) (t : Tree) (c : Certificate) → IsObject k t → AreCertificateFields c → certificate_octets c ≡ octets t → ReadsCertificate t c
unfolding certificate_octets tbs_certificate_octets tbs_pieces_octets pieces_of
certificate_only k t c o q e =
    let s = pieces_of c in
    let are : AreSigned TbsPieces AreTbsPieces s = record {
      signed = record {
        version = version_tagged c.version;
        serial = q.serial;
        signature = q.signature;
        issuer = q.issuer;
        validity = (q.not_before, q.not_after);
        subject = q.subject;
        key = q.key;
        issuer_id = id_tagged 1 c.issuer_id (lit< tt);
        subject_id = id_tagged 2 c.subject_id (lit< tt);
        extensions = extensions_tagged 3 c.extensions (lit< tt);
      };
      algorithm = q.algorithm;
      signature_value = q.signature_value;
    } in
    let spelled : signed_octets tbs_pieces_octets s ≡ octets t =
    rw (← version_spelled c.version, id_spelled 1 c.issuer_id, id_spelled 2 c.subject_id, extensions_spelled 3 c.extensions) e in
    let first = if_there c.issuer_id (nat_lt 0 c.version) (λ is. lt-ltb 0 c.version (q.issuer_id_from is)) in
    let second = if_there c.subject_id (nat_lt 0 c.version) (λ is. lt-ltb 0 c.version (q.subject_id_from is)) in
    let third = then_some c.extensions (c.version == 2) (λ is. eq-eqb c.version 2 (q.extensions_from is)) in
    record {
      pieces = s;
      read = signed_only tbs_parts AreTbsPieces tbs_laws k t s o are spelled;
      version = version_only c.version q.version;
      issuer_id = id_only 1 c.issuer_id q.issuer_id;
      subject_id = id_only 2 c.subject_id q.subject_id;
      extensions = extensions_in 3 c.extensions q.extensions;
      fits = rw (first, second, third) refl;
      same = refl;
    }

-- lists

version_two : (version : Option ℕ) → is_version_two version ≡ true → version ≡ Some 1
version_two None e = cc
version_two (Some v) e = ap (λ z. Some z) (eqb-true v 1 e)

entries_found : (version : Option ℕ) (es : List Entry) → AllByRecursion AreEntryFields es → entries_fit version es ≡ true → IfThere (λ v. v ≡ 1) version → AllByRecursion (IsEntry version) es
entries_found version [] p e v = tt
entries_found version (x ∷ es) p e v =
    let both = both_true (implies (is_some x.extensions) (is_version_two version)) (entries_fit version es) e in
    let first : IsEntry version x = record { serial = p.0.serial; date = p.0.date; extensions = p.0.extensions; extensions_from = λ is. version_two version (some_then x.extensions (is_version_two version) both.0 is) } in
    (first, entries_found version es p.1 both.1 v)

is_two : (version : Option ℕ) → version ≡ Some 1 → is_version_two version ≡ true
is_two version e = ap is_version_two e

entries_only : (version : Option ℕ) (es : List Entry) → AllByRecursion (IsEntry version) es → AllByRecursion AreEntryFields es × (entries_fit version es ≡ true)
entries_only version [] p = (tt, refl)
entries_only version (x ∷ es) p =
    let rest = entries_only version es p.1 in
    let first : AreEntryFields x = record { serial = p.0.serial; date = p.0.date; extensions = p.0.extensions } in
    let test = then_some x.extensions (is_version_two version) (λ is. is_two version (p.0.extensions_from is)) in
    ((first, rest.0), rw (test, rest.1) refl)

pub list_found : (k : ℕ) (t : Tree) (s : Signed TbsListPieces) (es : List Extension) → IsObject k t → signed_at tbs_list_at t ≡ Some s → AreExtensionsIn s.signed.extensions es →
    (entries_fit s.signed.version s.signed.entries && implies (is_some es) (is_version_two s.signed.version)) ≡ true →
    AreListFields (list_from s es) × (list_octets (list_from s es) ≡ octets t)
unfolding list_octets tbs_cert_list_octets tbs_list_pieces_octets
list_found k t s es o read extensions fits =
    let m = signed_found tbs_list_parts AreTbsListPieces tbs_list_laws k t s o read in
    let p = m.0.signed in
    let d = extensions_read 0 s.signed.extensions es p.extensions extensions in
    let both = both_true (entries_fit s.signed.version s.signed.entries) (implies (is_some es) (is_version_two s.signed.version)) fits in (
      record {
        version = p.version;
        signature = p.signature;
        issuer = p.issuer;
        this_update = p.this_update;
        next_update = p.next_update;
        entries = entries_found s.signed.version s.signed.entries p.entries both.0 p.version;
        extensions = d.0;
        algorithm = m.0.algorithm;
        signature_value = m.0.signature_value;
        extensions_from = λ is. version_two s.signed.version (some_then es (is_version_two s.signed.version) both.1 is);
      },
      rw (← d.1) m.1,
    )

list_pieces_of : RevocationList → Signed TbsListPieces
list_pieces_of l = record {
  signed = record {
    version = l.version;
    signature = l.signature;
    issuer = l.issuer;
    this_update = l.this_update;
    next_update = l.next_update;
    entries = l.entries;
    extensions = extensions_element 0 l.extensions;
  };
  algorithm = l.algorithm;
  signature_value = l.signature_value;
}

-- what the tree of a list with these fields is read as
pub record ReadsList (t : Tree) (l : RevocationList) : Type 0 where
  pub pieces : Signed TbsListPieces
  pub read : signed_at tbs_list_at t ≡ Some pieces
  pub extensions : AreExtensionsIn pieces.signed.extensions l.extensions
  pub fits : (entries_fit pieces.signed.version pieces.signed.entries && implies (is_some l.extensions) (is_version_two pieces.signed.version)) ≡ true
  pub same : list_from pieces l.extensions ≡ l

pub list_only : (k : ℕ) (t : Tree) (l : RevocationList) → IsObject k t → AreListFields l → list_octets l ≡ octets t → ReadsList t l
unfolding list_octets tbs_cert_list_octets tbs_list_pieces_octets list_pieces_of
list_only k t l o q e =
    let s = list_pieces_of l in
    let entries = entries_only l.version l.entries q.entries in
    let are : AreSigned TbsListPieces AreTbsListPieces s = record {
      signed = record {
        version = q.version;
        signature = q.signature;
        issuer = q.issuer;
        this_update = q.this_update;
        next_update = q.next_update;
        entries = entries.0;
        extensions = extensions_tagged 0 l.extensions (lit< tt);
      };
      algorithm = q.algorithm;
      signature_value = q.signature_value;
    } in
    let spelled : signed_octets tbs_list_pieces_octets s ≡ octets t = rw (extensions_spelled 0 l.extensions) e in
    let test = then_some l.extensions (is_version_two l.version) (λ is. is_two l.version (q.extensions_from is)) in
    record {
      pieces = s;
      read = signed_only tbs_list_parts AreTbsListPieces tbs_list_laws k t s o are spelled;
      extensions = extensions_in 0 l.extensions q.extensions;
      fits = rw (entries.1, test) refl;
      same = refl;
    }
