-- One place more is judged by.
use Rattle.std.specs.Prelude.{◌↔◌, ◌⊎◌, IsTrue}
use Rattle.std.proofs.Common.{◌≡◌, ◌∙◌, sym, refl, ℕ, ◌+◌, ◌<◌, Bool, true, false, List, length, get_or, inl, inr, Bor, cond}
use Rattle.std.specs.List.{Any, Contains}
use Rattle.std.specs.BTreeSet as sorted
use Rattle.std.specs.BTreeSet.{BTreeSet}
use Rattle.cert_graph.specs.Entries.{IsAt}
use Rattle.cert_judge.specs.declared.judged.JudgedList.{JudgedList}
use Rattle.cert_judge.specs.declared.judged.JudgedItem.{JudgedItem}
use Rattle.cert_judge.specs.declared.judged.JudgedCertificate.{JudgedCertificate}
use Rattle.cert_judge.proofs.Grouping.{element}
use Rattle.cert_judge.specs.Standing.{WithCertificate, WithList, IsUsedBy, HasSerial, IsUsedAt, IsUsedAgainstAt, StandsBy, IsIssuedAt, IsIssuedBeside}
use Rattle.cert_judge.specs.Serials.{IfCertificate, HasEqual, AreAsked}
use Rattle.std.proofs.lemmas.Bool.{false≢true}
use Rattle.std.proofs.lemmas.List.{get_or_default}
use Rattle.cert_graph.proofs.EntryFacts.{is_at, has_at}
use Rattle.cert_judge.specs.declared.judged.JudgedItem.TheVariants.{Certificate as certificate_judged, List as list_judged, Other as other_judged}
use Rattle.cert_judge.proofs.Sets.{E, R, same}
use Rattle.cert_judge.proofs.Before.{SomeBefore, none_before, before_more, before_same}

-- what the lists at the first places say
pub record IsStanding (V : List ℕ → List ℕ → Type 0) (js : List JudgedItem) (key places : List ℕ) (asked : List (Bor (List ℕ))) (k : ℕ) (listed : Bool) (revoked : BTreeSet (Bor (List ℕ))) : Type 0 where
  pub lists : IsTrue listed ↔ SomeBefore (IsUsedAt V js key) places k
  pub serials : (s : Bor (List ℕ)) → HasEqual s.now asked → IsTrue (sorted.contains R revoked s) ↔ SomeBefore (IsUsedAgainstAt V js key s.now) places k

pub default_is : {X : Type 0} (xs : List X) (k : ℕ) (d : X) → k < length xs → get_or xs k d ≡ get_or xs k (get_or xs k d)
default_is xs k d lt = get_or_default xs k d (get_or xs k d) lt

pub set_cases : (b c : Bool) → IsTrue (cond b true c) → IsTrue b ⊎ IsTrue c
set_cases true c h = inl refl
set_cases false c h = inr h

pub set_left : (b c : Bool) → IsTrue b → IsTrue (cond b true c)
set_left true c h = refl
set_left false c h = absurd (false≢true h)

pub set_right : (b c : Bool) → IsTrue c → IsTrue (cond b true c)
set_right true c h = refl
set_right false c h = h

-- one serial number more in a set
pub one_serial : (xs : List (Bor (List ℕ))) (k : ℕ) (t : Bor (List ℕ)) → k < length xs → t ≡ get_or xs k t → (first was is : Bool) (s : Bor (List ℕ)) → is ≡ cond (E t.now s.now) true was
    → (IsTrue was ↔ (IsTrue first ⊎ SomeBefore (λ t. t.now ≡ s.now) xs k)) → IsTrue is ↔ (IsTrue first ⊎ SomeBefore (λ t. t.now ≡ s.now) xs (k + 1))
one_serial xs k t lt at first was is s update h =
    let m = before_more (λ (t : Bor (List ℕ)). t.now ≡ s.now) xs k t lt at in
    let d = same t.now s.now in (
      λ i. elim (set_cases (E t.now s.now) was (sym update ∙ i)) [
        | inl new ↦ inr (m.1 (inr (d.0 new)))
        | inr old ↦ elim (h.0 old) [ inl x ↦ inl x | inr x ↦ inr (m.1 (inl x)) ]
      ],
      λ y. update ∙ elim y [
        | inl x ↦ set_right (E t.now s.now) was (h.1 (inl x))
        | inr x ↦ elim (m.0 x) [ inl old ↦ set_right (E t.now s.now) was (h.1 (inr old)) | inr new ↦ set_left (E t.now s.now) was (d.1 new) ]
      ],
    )

-- a list at a place, with what it says
list_used : (V : List ℕ → List ℕ → Type 0) (js : List JudgedItem) (key : List ℕ) (p : ℕ) (l : JudgedList) → p < length js → list_judged l ≡ get_or js p (list_judged l) → IsUsedBy V key l → IsUsedAt V js key p
list_used V js key p l lt at u = is_at js p (list_judged l) lt at (WithList (IsUsedBy V key)) u

against_iff : (V : List ℕ → List ℕ → Type 0) (js : List JudgedItem) (key serial : List ℕ) (p : ℕ) (l : JudgedList) → p < length js → list_judged l ≡ get_or js p (list_judged l) → IsUsedBy V key l → HasSerial serial l ↔ IsUsedAgainstAt V js key serial p
against_iff V js key serial p l lt at u = (
  λ h. is_at js p (list_judged l) lt at (WithList (λ l. IsUsedBy V key l × HasSerial serial l)) (u, h),
  λ h. (has_at js p (list_judged l) at (WithList (λ l. IsUsedBy V key l × HasSerial serial l)) h).1,
)

used_of : (V : List ℕ → List ℕ → Type 0) (key serial : List ℕ) (j : JudgedItem) → WithList (λ l. IsUsedBy V key l × HasSerial serial l) j → WithList (IsUsedBy V key) j
used_of V key serial (certificate_judged j) h = h
used_of V key serial (list_judged j) h = h.0
used_of V key serial other_judged h = h

pub standing_none : (V : List ℕ → List ℕ → Type 0) (js : List JudgedItem) (key places : List ℕ) (asked : List (Bor (List ℕ))) (revoked : BTreeSet (Bor (List ℕ))) → ((s : Bor (List ℕ)) → IsTrue (sorted.contains R revoked s) → ⊥) → IsStanding V js key places asked 0 false revoked
standing_none V js key places asked revoked empty = record {
  lists = (λ h. absurd (false≢true h), λ h. absurd (none_before _ places h));
  serials = λ s a. (λ h. absurd (empty s h), λ h. absurd (none_before _ places h));
}

-- a list that is used
pub standing_used : (V : List ℕ → List ℕ → Type 0) (js : List JudgedItem) (key places : List ℕ) (asked : List (Bor (List ℕ))) (k p : ℕ) (l : JudgedList) (listed : Bool) (revoked more : BTreeSet (Bor (List ℕ))) → IsStanding V js key places asked k listed revoked
    → k < length places → p ≡ get_or places k p → IsAt js p (λ j. j ≡ list_judged l) → IsUsedBy V key l
    → ((s : Bor (List ℕ)) → HasEqual s.now asked → IsTrue (sorted.contains R more s) ↔ (IsTrue (sorted.contains R revoked s) ⊎ HasSerial s.now l)) → IsStanding V js key places asked (k + 1) true more
standing_used V js key places asked k p l listed revoked more h lt at there u add = let within = there.0 in let is = sym (there.1 (list_judged l)) in record {
  lists = (λ t. (before_more (IsUsedAt V js key) places k p lt at).1 (inr (list_used V js key p l within is u)), λ t. refl);
  serials = λ s wanted.
      let m = before_more (IsUsedAgainstAt V js key s.now) places k p lt at in
      let a = against_iff V js key s.now p l within is u in (
        λ t. m.1 (elim ((add s wanted).0 t) [ inl x ↦ inl ((h.serials s wanted).0 x) | inr x ↦ inr (a.0 x) ]),
        λ t. (add s wanted).1 (elim (m.0 t) [ inl x ↦ inl ((h.serials s wanted).1 x) | inr x ↦ inr (a.1 x) ]),
      );
}

-- anything else
pub standing_same : (V : List ℕ → List ℕ → Type 0) (js : List JudgedItem) (key places : List ℕ) (asked : List (Bor (List ℕ))) (k p : ℕ) (listed : Bool) (revoked : BTreeSet (Bor (List ℕ))) → IsStanding V js key places asked k listed revoked
    → k < length places → p ≡ get_or places k p → (IsUsedAt V js key p → ⊥) → IsStanding V js key places asked (k + 1) listed revoked
standing_same V js key places asked k p listed revoked h lt at none = record {
  lists = let m = before_same (IsUsedAt V js key) places k p lt at none in (λ t. m.1 (h.lists.0 t), λ t. h.lists.1 (m.0 t));
  serials = λ s wanted. let m = before_same (IsUsedAgainstAt V js key s.now) places k p lt at (λ x. none (x.0, λ d. used_of V key s.now (get_or js p d) (x.1 d))) in (λ t. m.1 ((h.serials s wanted).0 t), λ t. (h.serials s wanted).1 (m.0 t));
}

pub cert_mapped : (P Q : JudgedCertificate → Type 0) → ((c : JudgedCertificate) → P c → Q c) → (j : JudgedItem) → WithCertificate P j → WithCertificate Q j
cert_mapped P Q f (certificate_judged c) h = f c h
cert_mapped P Q f (list_judged l) h = h
cert_mapped P Q f other_judged h = h

with_both : (A P Q : JudgedCertificate → Type 0) → ((c : JudgedCertificate) → A c → P c → Q c) → (j : JudgedItem) → IfCertificate A j → WithCertificate P j → WithCertificate Q j
with_both A P Q f (certificate_judged c) a h = f c a h
with_both A P Q f (list_judged l) a h = h
with_both A P Q f other_judged a h = h

-- A certificate whose serial number is not in the set is not revoked, and the other way round, if
-- its serial number was asked about.
pub issued_iff : (V : List ℕ → List ℕ → Type 0) (demand : Bool) (js : List JudgedItem) (places key : List ℕ) (asked : List (Bor (List ℕ))) (listed : Bool) (revoked : BTreeSet (Bor (List ℕ))) → (IsTrue listed ↔ Any (IsUsedAt V js key) places)
    → ((s : Bor (List ℕ)) → HasEqual s.now asked → IsTrue (sorted.contains R revoked s) ↔ Any (IsUsedAgainstAt V js key s.now) places) → (demand ≡ true → IsTrue listed)
    → AreAsked js places asked → (v : ℕ) → Contains places v → IsIssuedBeside V revoked js key v ↔ IsIssuedAt V demand js places key v
issued_iff V demand js places key asked listed revoked lists serials demanded all v at = (
  λ h. (h.0, λ d. with_both _ _ _ (λ c a x. (x.0, record { kept = λ u. x.1 ((serials c.serial a).1 u); listed = λ e. lists.0 (demanded e) })) (get_or js v d) ((all v at h.0).1 d) (h.1 d)),
  λ h. (h.0, λ d. with_both _ _ _ (λ c a x. (x.0, λ t. x.1.kept ((serials c.serial a).0 t))) (get_or js v d) ((all v at h.0).1 d) (h.1 d)),
)

stands_listed : (V : List ℕ → List ℕ → Type 0) (demand : Bool) (js : List JudgedItem) (places key : List ℕ) (j : JudgedItem) → demand ≡ true → WithCertificate (λ c. V key c.octets.now × StandsBy V demand js places key c.serial.now) j → Any (IsUsedAt V js key) places
stands_listed V demand js places key (certificate_judged c) d h = h.1.listed d
stands_listed V demand js places key (list_judged l) d h = absurd h
stands_listed V demand js places key other_judged d h = absurd h

-- if a list is demanded and none is used, no certificate counts as issued
pub none_issued : (V : List ℕ → List ℕ → Type 0) (demand : Bool) (js : List JudgedItem) (places key : List ℕ) (listed : Bool) → (IsTrue listed ↔ Any (IsUsedAt V js key) places) → demand ≡ true → listed ≡ false → (v : ℕ) → IsIssuedAt V demand js places key v → ⊥
none_issued V demand js places key listed lists d un v h =
    let j = element js v h.0 in
    false≢true (sym un ∙ lists.1 (stands_listed V demand js places key j.0 d (has_at js v j.0 j.1 (WithCertificate (λ c. V key c.octets.now × StandsBy V demand js places key c.serial.now)) h)))
