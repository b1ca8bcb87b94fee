-- Serial numbers that are asked about, and sets of those of lists.
use Rattle.std.specs.Prelude.{◌↔◌, ◌⊎◌, IsTrue, IfSome, OnOk, option_copied}
use Rattle.std.proofs.Common.{◌≡◌, ◌∙◌, sym, refl, subst, ap, ℕ, ◌+◌, ◌<◌, Bool, true, cond, List, [], ◌∷◌, ◌++◌, length, length-append, arith, get_or, inl, inr, Bor, Option, Some, None, Result, Ok, Err}
use Rattle.std.specs.List.{Any, list_any}
use Rattle.std.specs.Ordering.{nat_cmp, eq_by_cmp}
use Rattle.std.specs.Cmp.{unsigned_tied}
use Rattle.std.specs.BTreeMap as mapped
use Rattle.std.specs.BTreeMap.{BTreeMap, is_at as is_key}
use Rattle.std.specs.BTreeSet as sorted
use Rattle.std.specs.BTreeSet.{BTreeSet}
use Rattle.std.proofs.Math.ListN.{get_or-append}
use Rattle.std.proofs.Math.Seq.{get_or-append_seam}
use Rattle.std.proofs.lemmas.Bool.{cases_Bool, eqb-true, false≢true}
use Rattle.cert_graph.specs.Entries.{IsAt}
use Rattle.cert_graph.proofs.EntryFacts.{is_at}
use Rattle.cert_judge.specs.declared.judged.JudgedCertificate.{JudgedCertificate}
use Rattle.cert_judge.specs.declared.judged.JudgedList.{JudgedList}
use Rattle.cert_judge.specs.declared.judged.JudgedItem.{JudgedItem}
use Rattle.cert_judge.specs.declared.judged.JudgedItem.TheVariants.{Certificate as certificate_judged, List as list_judged, Other as other_judged}
use Rattle.cert_judge.specs.Standing.{WithCertificate, WithList}
use Rattle.cert_judge.specs.Serials.{IfCertificate, HasEqual, IsSetOf, AreSetsAt, AreAsked}
use Rattle.cert_judge.proofs.Sets.{E, R, same}
use Rattle.cert_judge.proofs.Before.{SomeBefore, before_more, before_same}
use Rattle.cert_judge.proofs.StandingFacts.{default_is, set_cases, set_left, set_right}

-- one more of those that are asked about, which has a property
pub asked_more : (P : Bor (List ℕ) → Type 0) (xs : List (Bor (List ℕ))) (k : ℕ) (t : Bor (List ℕ)) → k < length xs → t ≡ get_or xs k t → P t → (first was is : Bool) (s : Bor (List ℕ)) → is ≡ cond (E t.now s.now) true was
    → (IsTrue was ↔ (IsTrue first ⊎ SomeBefore (λ t. (t.now ≡ s.now) × P t) xs k)) → IsTrue is ↔ (IsTrue first ⊎ SomeBefore (λ t. (t.now ≡ s.now) × P t) xs (k + 1))
asked_more P xs k t lt at p first was is s update h =
    let m = before_more (λ (t : Bor (List ℕ)). (t.now ≡ s.now) × P t) xs k t lt at in
    let d = same t.now s.now in (
      λ i. elim (set_cases (E t.now s.now) was (sym update ∙ i)) [
        | inl new ↦ inr (m.1 (inr (d.0 new, p)))
        | inr old ↦ elim (h.0 old) [ inl x ↦ inl x | inr x ↦ inr (m.1 (inl x)) ]
      ],
      λ y. update ∙ elim y [
        | inl x ↦ set_right (E t.now s.now) was (h.1 (inl x))
        | inr x ↦ elim (m.0 x) [ inl old ↦ set_right (E t.now s.now) was (h.1 (inr old)) | inr new ↦ set_left (E t.now s.now) was (d.1 new.0) ]
      ],
    )

-- one more, which has not
pub asked_same : (P : Bor (List ℕ) → Type 0) (xs : List (Bor (List ℕ))) (k : ℕ) (t : Bor (List ℕ)) → k < length xs → t ≡ get_or xs k t → (P t → ⊥) → (first was : Bool) (s : Bor (List ℕ))
    → (IsTrue was ↔ (IsTrue first ⊎ SomeBefore (λ t. (t.now ≡ s.now) × P t) xs k)) → IsTrue was ↔ (IsTrue first ⊎ SomeBefore (λ t. (t.now ≡ s.now) × P t) xs (k + 1))
asked_same P xs k t lt at none first was s h =
    let m = before_same (λ (t : Bor (List ℕ)). (t.now ≡ s.now) × P t) xs k t lt at (λ x. none x.1) in (
      λ i. elim (h.0 i) [ inl x ↦ inl x | inr x ↦ inr (m.1 x) ],
      λ y. h.1 (elim y [ inl x ↦ inl x | inr x ↦ inr (m.0 x) ]),
    )

-- of those that are asked about the ones in a list's set are those of the list
pub asked_in_set : (serials asked : List (Bor (List ℕ))) (set : BTreeSet (Bor (List ℕ))) → IsSetOf serials set → (s : Bor (List ℕ)) → HasEqual s.now asked
    → Any (λ t. (t.now ≡ s.now) × IsTrue (sorted.contains R set t)) asked ↔ HasEqual s.now serials
asked_in_set serials asked set h s e = (
  λ x. subst (λ l. HasEqual l serials) x.4.0 ((h x.1).0 x.4.1),
  λ x. (e.0, e.1, e.2, e.3, (e.4, (h e.1).1 (subst (λ l. HasEqual l serials) (sym e.4) x))),
)

pub if_mapped : (P Q : JudgedCertificate → Type 0) → ((c : JudgedCertificate) → P c → Q c) → (j : JudgedItem) → IfCertificate P j → IfCertificate Q j
if_mapped P Q f (certificate_judged c) h = f c h
if_mapped P Q f (list_judged l) h = tt
if_mapped P Q f other_judged h = tt

with_if : (P Q : JudgedCertificate → Type 0) → ((c : JudgedCertificate) → P c → Q c) → (j : JudgedItem) → WithCertificate P j → IfCertificate Q j
with_if P Q f (certificate_judged c) h = f c h
with_if P Q f (list_judged l) h = tt
with_if P Q f other_judged h = tt

none_if : (Q : JudgedCertificate → Type 0) (j : JudgedItem) → (WithCertificate (λ c. Unit {0}) j → ⊥) → IfCertificate Q j
none_if Q (certificate_judged c) h = absurd (h tt)
none_if Q (list_judged l) h = tt
none_if Q other_judged h = tt

-- the serial numbers of the certificates at the first places
abbrev pub AskedBefore : List JudgedItem → List ℕ → ℕ → List (Bor (List ℕ)) → Type 0
AskedBefore js places k asked = (v : ℕ) → SomeBefore (λ p. p ≡ v) places k → v < length js → IsAt js v (IfCertificate (λ c. HasEqual c.serial.now asked))

equal_more : (asked : List (Bor (List ℕ))) (t : Bor (List ℕ)) (serial : List ℕ) → HasEqual serial asked → HasEqual serial (asked ++ t ∷ [])
equal_more asked t serial h =
    let lt = h.2 in
    let n = length-append asked (t ∷ []) in
    (h.0, h.1, omega (arith, n), get_or-append asked (t ∷ []) h.1 h.0 lt ∙ h.3, h.4)

equal_last : (asked : List (Bor (List ℕ))) (t : Bor (List ℕ)) → HasEqual t.now (asked ++ t ∷ [])
equal_last asked t =
    let n = length-append asked (t ∷ []) in
    (length asked, t, omega (arith, n), get_or-append_seam asked t [] t, refl)

step : (js : List JudgedItem) (places : List ℕ) (k p : ℕ) (asked more : List (Bor (List ℕ))) → k < length places → p ≡ get_or places k p → AskedBefore js places k asked → ((serial : List ℕ) → HasEqual serial asked → HasEqual serial more)
    → (p < length js → IsAt js p (IfCertificate (λ c. HasEqual c.serial.now more))) → AskedBefore js places (k + 1) more
step js places k p asked more lt at before keep here = λ v s within.
    elim ((before_more (λ (q : ℕ). q ≡ v) places k p lt at).0 s) [
      | inl old ↦ let h = before v old within in (h.0, λ d. if_mapped _ _ (λ c. keep c.serial.now) _ (h.1 d))
      | inr e ↦ subst (λ (v : ℕ). v < length js → IsAt js v (IfCertificate (λ c. HasEqual c.serial.now more))) e here within
    ]

pub before_found : (js : List JudgedItem) (places : List ℕ) (k p : ℕ) (asked : List (Bor (List ℕ))) (t : Bor (List ℕ)) → k < length places → p ≡ get_or places k p → AskedBefore js places k asked
    → IsAt js p (WithCertificate (λ c. c.serial ≡ t)) → AskedBefore js places (k + 1) (asked ++ t ∷ [])
before_found js places k p asked t lt at before h =
    let more : List (Bor (List ℕ)) = asked ++ t ∷ [] in
    let P : JudgedCertificate → Type 0 = λ c. c.serial ≡ t in
    let Q : JudgedCertificate → Type 0 = λ c. HasEqual c.serial.now more in
    step js places k p asked more lt at before (equal_more asked t)
    (λ within. (within, λ d. with_if P Q (λ c e. subst (λ (b : Bor (List ℕ)). HasEqual b.now more) (sym e) (equal_last asked t)) (get_or js p d) (h.1 d)))

pub before_none : (js : List JudgedItem) (places : List ℕ) (k p : ℕ) (asked : List (Bor (List ℕ))) → k < length places → p ≡ get_or places k p → AskedBefore js places k asked
    → (IsAt js p (WithCertificate (λ c. Unit {0})) → ⊥) → AskedBefore js places (k + 1) asked
before_none js places k p asked lt at before none =
    let Q : JudgedCertificate → Type 0 = λ c. HasEqual c.serial.now asked in
    step js places k p asked asked lt at before (λ serial h. h)
    (λ within. (within, λ d. none_if Q (get_or js p d) (λ u. none (is_at js p (get_or js p d) within (default_is js p d within) (WithCertificate (λ c. Unit {0})) u))))

-- all places were gone over
pub before_asked : (js : List JudgedItem) (places : List ℕ) (k : ℕ) (asked : List (Bor (List ℕ))) → k ≡ length places → AskedBefore js places k asked → AreAsked js places asked
before_asked js places k asked end h = λ v c within. let lt = c.1 in h v (c.0, v, omega arith, c.2, refl) within

abbrev IfSetOf : List (Bor (List ℕ)) → Option (BTreeSet (Bor (List ℕ))) → Type 0
IfSetOf serials (Some set) = IsSetOf serials set
IfSetOf serials None = Unit {0}

-- one set more
pub sets_more : (js : List JudgedItem) (sets more : BTreeMap ℕ (BTreeSet (Bor (List ℕ)))) (p : ℕ) (set : BTreeSet (Bor (List ℕ))) (l : JudgedList) → AreSetsAt js sets → IsAt js p (λ j. j ≡ list_judged l) → IsSetOf l.serials.items set
    → ((q : ℕ) → mapped.get nat_cmp more q ≡ cond (eq_by_cmp nat_cmp p q) (Some set) (mapped.get nat_cmp sets q)) → AreSetsAt js more
sets_more js sets more p set l before at is update = λ q found e.
    elim (cases_Bool (eq_by_cmp nat_cmp p q)) [
      | inl one ↦
          let place : p ≡ q = eqb-true p q (sym (unsigned_tied p q) ∙ one) in
          let this : Some set ≡ Some found = sym (ap (λ b. cond b (Some set) (mapped.get nat_cmp sets q)) one) ∙ sym (update q) ∙ e in
          let its : IsSetOf l.serials.items found = subst (λ o. IfSetOf l.serials.items o) this is in
          subst (λ (v : ℕ). IsAt js v (WithList (λ l. IsSetOf l.serials.items found))) place (at.0, λ d. subst (WithList (λ l. IsSetOf l.serials.items found)) (sym (at.1 d)) its)
      | inr other ↦ before q found (sym (ap (λ b. cond b (Some set) (mapped.get nat_cmp sets q)) other) ∙ sym (update q) ∙ e)
    ]

-- what is known of a list
pub known_set : (js : List JudgedItem) (sets : BTreeMap ℕ (BTreeSet (Bor (List ℕ)))) (p : ℕ) (l : JudgedList) (serials : List (Bor (List ℕ))) (o : Option (Bor (BTreeSet (Bor (List ℕ))))) → AreSetsAt js sets → IsAt js p (λ j. j ≡ list_judged l)
    → serials ≡ l.serials.items → option_copied o ≡ mapped.get nat_cmp sets p → IfSome o (λ set. IsSetOf serials set.now)
known_set js sets p l serials None at here same e = tt
known_set js sets p l serials (Some set) at here same e =
    subst (λ ts. IsSetOf ts set.now) (sym same) (subst (WithList (λ l. IsSetOf l.serials.items set.now)) (here.1 (list_judged l)) ((at p set.now (sym e)).1 (list_judged l)))

-- a set of none
pub set_empty : (set : BTreeSet (Bor (List ℕ))) → sorted.IsEmpty set → (s : Bor (List ℕ)) → IsTrue (sorted.contains R set s) → ⊥
set_empty set e s h = false≢true (subst (λ ks. list_any (is_key (R s)) ks ≡ true) e h)

-- of a list the serial numbers that are asked about were added
pub list_asked : {X Y : Type 0} (r : Result X Y) (old new set : BTreeSet (Bor (List ℕ))) (serials asked : List (Bor (List ℕ))) → IsSetOf serials set
    → OnOk r ((s : Bor (List ℕ)) → IsTrue (sorted.contains R new s) ↔ (IsTrue (sorted.contains R old s) ⊎ Any (λ t. (t.now ≡ s.now) × IsTrue (sorted.contains R set t)) asked))
    → OnOk r ((s : Bor (List ℕ)) → HasEqual s.now asked → IsTrue (sorted.contains R new s) ↔ (IsTrue (sorted.contains R old s) ⊎ HasEqual s.now serials))
list_asked (Ok x) old new set serials asked known h = λ s wanted.
    let a = asked_in_set serials asked set known s wanted in
    let i = h s in (
      λ x. elim (i.0 x) [ inl y ↦ inl y | inr y ↦ inr (a.0 y) ],
      λ x. i.1 (elim x [ inl y ↦ inl y | inr y ↦ inr (a.1 y) ]),
    )
list_asked (Err e) old new set serials asked known h = tt
