-- Rows of lists that revoke, one after the other.
use Rattle.std.specs.Prelude.{slice_get}
use Rattle.std.proofs.Common.{◌≡◌, ◌∙◌, ap, sym, subst, refl, ℕ, ◌+◌, ◌<◌, ◌≤◌, cond, eq-eqb, List, [], ◌∷◌, ◌++◌, length, length-append, get_or, arith, Some, None, Vec, Global, inl, inr}
use Rattle.std.specs.List.{Contains}
use Rattle.std.specs.Cmp.{unsigned_tied}
use Rattle.std.specs.Ordering.{nat_cmp, eq_by_cmp}
use Rattle.std.specs.BTreeMap as mapped
use Rattle.std.specs.BTreeMap.{BTreeMap, is_at}
use Rattle.std.specs.Map.{lookup}
use Rattle.std.proofs.Math.ListN.{get_or-append}
use Rattle.std.proofs.Math.Seq.{get_or-append_seam}
use Rattle.std.proofs.lemmas.Bool.{cases_Bool, cond-true, cond-false}
use Rattle.jiff_core.specs.declared.civil.datetime.DateTime.{DateTime}
use Rattle.cert_graph.specs.Entries.{IsAt}
use Rattle.cert_graph.proofs.Gathering.{E}
use Rattle.cert_graph.proofs.PlacesOfNodes.{element_at}
use Rattle.cert_judge.specs.declared.items.CertificateItem.{CertificateItem}
use Rattle.cert_judge.specs.declared.items.ReadItem.{ReadItem}
use Rattle.cert_judge.specs.declared.items.ReadItem.TheVariants.{Certificate as certificate_read, List as list_read, Other as other_read}
use Rattle.cert_judge.specs.Items.{IsListWith}
use Rattle.cert_judge.proofs.Grouping.{element}
use Rattle.cert_reasons.specs.Listed.{ArePlaces, IsInForceAt, IsOf, HasSerialAt}
use Rattle.certpath_why.specs.Firsts.{AreFirsts}
use Rattle.certpath_why.specs.Kinds.{AreWrittenBy, kind_cmp}
use Rattle.certpath_why.specs.Reached.{ArePositions}
use Rattle.certpath_why.specs.RevokingRows.{ArePlacesOf, AreNumbered, AreRevokersOf, AreRowsKept, HasNumber, IsNumberedAt, IsRowOf}
use Rattle.certpath_why.specs.SerialRows.{AreSerialRows, IsSerialKey}
use Rattle.certpath_why.specs.declared.revoking.Revokers.{Revokers}
use Rattle.certpath_why.specs.declared.revoking.RevokingRows.{RevokingRows}
use Rattle.certpath_why.specs.declared.revoking.SerialRows.{SerialRows}
use Rattle.certpath_why.proofs.Against.{list_there}
use Rattle.certpath_why.proofs.Keeping.{kept_more}
use Rattle.certpath_why.proofs.Numbering.{head_is, tail_is}
use Rattle.certpath_why.proofs.Tailing.{no_first, written_more, written_none}

some_none : {n : ℕ} → Some n ≡ None → ⊥
some_none e = cc

one_read : {x y : CertificateItem} → certificate_read x ≡ certificate_read y → x ≡ y
one_read e = cc

-- ---- rows

pub rows_same : (rows : List (Vec ℕ Global)) → AreRowsKept rows rows
rows_same rows = record { many = λ n lt. lt; same = λ n r lt. refl }

pub rows_pushed : (old new : List (Vec ℕ Global)) (row : Vec ℕ Global) → new ≡ old ++ row ∷ [] → AreRowsKept old new
rows_pushed old new row is =
    let long = length-append old (row ∷ []) in
    let longer = ap length is in record {
      many = λ n lt. omega (arith, lt);
      same = λ n r lt. ap (λ l. get_or l n r) is ∙ get_or-append old (row ∷ []) r n lt;
    }

pub row_kept : (xs : List ReadItem) (moment : DateTime) (old new : List (Vec ℕ Global)) (x : CertificateItem) (n : ℕ) → AreRowsKept old new → IsRowOf xs moment old x n → IsRowOf xs moment new x n
row_kept xs moment old new x n k h = (k.many n h.0, λ r. subst (λ (v : Vec ℕ Global). ArePlacesOf xs moment x v.items) (sym (k.same n r h.0)) (h.1 r))

-- the row that was pushed
pub row_new : (xs : List ReadItem) (moment : DateTime) (old new : List (Vec ℕ Global)) (x : CertificateItem) (row : Vec ℕ Global) → new ≡ old ++ row ∷ [] → ArePlacesOf xs moment x row.items → IsRowOf xs moment new x (length old)
row_new xs moment old new x row is are =
    let long = length-append old (row ∷ []) in
    let longer = ap length is in (
      omega arith,
      λ r. subst (λ (v : Vec ℕ Global). ArePlacesOf xs moment x v.items) (sym (ap (λ l. get_or l (length old) r) is ∙ get_or-append_seam old row [] r)) are,
    )

-- that of another certificate with the same issuer and serial number
row_as : (xs : List ReadItem) (moment : DateTime) (rows : List (Vec ℕ Global)) (x y : CertificateItem) (n : ℕ) → x.issuer.now ≡ y.issuer.now → x.fields.serial.now ≡ y.fields.serial.now → IsRowOf xs moment rows x n → IsRowOf xs moment rows y n
row_as xs moment rows x y n issuer serial h = (
  h.0,
  λ r. subst (λ i. ArePlaces (λ s. IsInForceAt xs moment i s × HasSerialAt xs y.fields.serial.now s) (get_or rows n r).items) issuer
      (subst (λ k. ArePlaces (λ s. IsInForceAt xs moment x.issuer.now s × HasSerialAt xs k s) (get_or rows n r).items) serial (h.1 r)),
)

-- ---- issuers and serial numbers

pub serials_none : (xs : List ReadItem) (moment : DateTime) (s : SerialRows) (row : Vec ℕ Global) → s.rows.items ≡ row ∷ [] → row.items ≡ [] → s.by_serial.entries ≡ [] → AreSerialRows xs moment s
serials_none xs moment s row is empty none =
    let long = ap length is in record {
      some = omega arith;
      empty = λ r. ap (λ l. (get_or l 0 r).items) is ∙ empty;
      by_serial = written_none xs (IsSerialKey xs) (IsRowOf xs moment s.rows.items) s.by_serial none;
    }

-- without lists of its issuer its row is empty
pub row_without : (xs : List ReadItem) (moment : DateTime) (x : CertificateItem) (s : SerialRows) (places : List ℕ) → ArePositions (λ p. IsAt xs p (IsListWith (IsOf x.issuer.now))) places → None ≡ slice_get places 0 → AreSerialRows xs moment s
    → IsRowOf xs moment s.rows.items x 0
row_without xs moment x s places are none h =
    let nothing : ArePlacesOf xs moment x [] = record {
      ascends = λ k lt. absurd (omega arith);
      exact = λ p. (
        λ c. absurd (let lt = c.1 in omega arith),
        λ f.
            let l = list_there xs moment x.issuer.now p f.0 in
            absurd (no_first places none p ((are.exact p).1 (f.0.0, λ d. subst (IsListWith (IsOf x.issuer.now)) (sym (l.1.1 d)) l.2))),
      );
    } in
    (h.some, λ r. subst (ArePlacesOf xs moment x) (sym (h.empty r)) nothing)

one_issuer : (n m : List ℕ) (z : ReadItem) → IsListWith (IsOf n) z → IsListWith (IsOf m) z → n ≡ m
one_issuer n m (certificate_read c) a b = absurd a
one_issuer n m (list_read l) a b = sym a ∙ b
one_issuer n m (other_read o) a b = absurd a

serial_alike : (xs : List ReadItem) (p q : ℕ) (x y : CertificateItem) (key : List ℕ) → IsSerialKey xs p x key → IsSerialKey xs q y key → (x.issuer.now ≡ y.issuer.now) × (x.fields.serial.now ≡ y.fields.serial.now)
serial_alike xs p q x y key a b =
    let same = sym a.2 ∙ b.2 in
    let z = element xs a.0 a.1.0 in
    let there = subst (λ i. IsAt xs i (IsListWith (IsOf y.issuer.now))) (sym (head_is same)) b.1 in
    (one_issuer x.issuer.now y.issuer.now (get_or xs a.0 z.0) (a.1.1 z.0) (there.1 z.0), tail_is same)

-- a certificate more
pub serials_more : (xs : List ReadItem) (moment : DateTime) (old new : SerialRows) (p : ℕ) (x : CertificateItem) (key row : Vec ℕ Global) → AreSerialRows xs moment old → IsSerialKey xs p x key.items
    → new.rows.items ≡ old.rows.items ++ row ∷ [] → ArePlacesOf xs moment x row.items
    → ((q : Vec ℕ Global) → mapped.get kind_cmp new.by_serial q ≡ cond (E key.items q.items) (Some (length old.rows.items)) (mapped.get kind_cmp old.by_serial q)) → AreSerialRows xs moment new
serials_more xs moment old new p x key row h is all are update =
    let kept = rows_pushed old.rows.items new.rows.items row all in
    let own = row_new xs moment old.rows.items new.rows.items x row all are in
    let before : AreWrittenBy xs (IsSerialKey xs) (IsRowOf xs moment new.rows.items) old.by_serial = λ kind found has q y at k. row_kept xs moment old.rows.items new.rows.items y found kept (h.by_serial kind found has q y at k) in
    record {
      some = kept.many 0 h.some;
      empty = λ r. ap (λ (v : Vec ℕ Global). v.items) (kept.same 0 r h.some) ∙ h.empty r;
      by_serial = written_more xs (IsSerialKey xs) (IsRowOf xs moment new.rows.items) old.by_serial new.by_serial key (length old.rows.items) before
          (λ q y at k. let e = serial_alike xs p q x y key.items is k in row_as xs moment new.rows.items x y (length old.rows.items) e.0 e.1 own) update;
    }

-- ---- numbers of certificates

pub numbered_none : (xs : List ReadItem) (moment : DateTime) (rows : List (Vec ℕ Global)) (m : BTreeMap ℕ ℕ) → ((p n : ℕ) → mapped.get nat_cmp m p ≡ Some n → ⊥) → AreNumbered xs moment rows m
numbered_none xs moment rows m none p n is = absurd (none p n is)

pub numbered_more : (xs : List ReadItem) (moment : DateTime) (old new : List (Vec ℕ Global)) (m l : BTreeMap ℕ ℕ) (p n : ℕ) (x : CertificateItem) → AreRowsKept old new → AreNumbered xs moment old m → IsAt xs p (λ z. z ≡ certificate_read x) → IsRowOf xs moment new x n
    → ((q : ℕ) → mapped.get nat_cmp l q ≡ cond (eq_by_cmp nat_cmp p q) (Some n) (mapped.get nat_cmp m q)) → AreNumbered xs moment new l
numbered_more xs moment old new m l p n x kept h at own update = kept_more (IsNumberedAt xs moment new) m l p n
    (λ q k is. let b = h q k is in (kept.many k b.0, λ y there. row_kept xs moment old new y k kept (b.1 y there)))
    (own.0, λ y there. subst (λ (v : CertificateItem). IsRowOf xs moment new v n) (one_read (sym (at.1 (certificate_read x)) ∙ there.1 (certificate_read x))) own) update

-- an empty map has nothing
pub map_none : (m : BTreeMap ℕ ℕ) → m.entries ≡ [] → (p n : ℕ) → mapped.get nat_cmp m p ≡ Some n → ⊥
map_none m empty p n is =
    let none : mapped.get nat_cmp m p ≡ None = ap (λ es. lookup (is_at (nat_cmp p)) es) empty in
    some_none (sym is ∙ none)

pub has_more : (m l : BTreeMap ℕ ℕ) (p n : ℕ) → ((q : ℕ) → mapped.get nat_cmp l q ≡ cond (eq_by_cmp nat_cmp p q) (Some n) (mapped.get nat_cmp m q)) → (q : ℕ) → HasNumber m q → HasNumber l q
has_more m l p n update q h none = elim (cases_Bool (eq_by_cmp nat_cmp p q)) [
  | inl eq ↦ some_none (sym (update q ∙ cond-true _ _ _ eq) ∙ none)
  | inr un ↦ h (sym (update q ∙ cond-false _ _ _ un) ∙ none)
]

pub has_own : (m l : BTreeMap ℕ ℕ) (p n : ℕ) → ((q : ℕ) → mapped.get nat_cmp l q ≡ cond (eq_by_cmp nat_cmp p q) (Some n) (mapped.get nat_cmp m q)) → HasNumber l p
has_own m l p n update none = some_none (sym (update p ∙ cond-true _ _ _ (unsigned_tied p p ∙ eq-eqb p p refl)) ∙ none)

-- ---- the lists of a row

pub revokers_there : (xs : List ReadItem) (moment : DateTime) (rows : RevokingRows) (n : ℕ) (x : CertificateItem) (r : Revokers) → AreFirsts rows.rows.items rows.firsts.items → IsRowOf xs moment rows.rows.items x n → r.number ≡ get_or rows.firsts.items n 0
    → ((d : Vec ℕ Global) → r.lists.now ≡ (get_or rows.rows.items r.number d).items) → AreRevokersOf xs moment rows.rows.items x r
revokers_there xs moment rows n x r firsts h is row =
    let all = rows.rows.items in
    let first = get_or rows.firsts.items n 0 in
    let f = firsts.each n h.0 in
    let low = f.0 in
    let lt = h.0 in
    let own : IsRowOf xs moment all x first = (omega arith, λ d. subst (ArePlacesOf xs moment x) (sym ((f.1 d).has d)) (h.1 d)) in
    let there = subst (IsRowOf xs moment all x) (sym is) own in
    let d = (element_at all r.number there.0).0 in
    record { is_row = there; row = row; are = subst (ArePlacesOf xs moment x) (sym (row d)) (there.1 d) }
