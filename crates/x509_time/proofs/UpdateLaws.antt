-- The reader of a next update takes what the relation says, and no more.
use Rattle.std.proofs.Common.{◌≡◌, ◌≢◌, ◌∙◌, sym, ap, refl, subst, ◌⊎◌, inl, inr, ◌==◌, ◌&&◌, not, Bool, true, false, ℕ, List, [], ◌∷◌, length, Option, Some, None, is_some, option_map, Ok, Err}
use Rattle.std.specs.Int.Digits.{AllBelowBase}
use Rattle.std.specs.Result.{result_ok}
use Rattle.std.proofs.lemmas.Bool.{and_parts, or_cases, or_left, or_right, eqb-true, false_from_ne_true}
use Rattle.std.proofs.lemmas.List.{nil_from_length}
use Rattle.asn1_core.specs.Strict.{Head}
use Rattle.asn1_any.specs.Cutting.{Piece}
use Rattle.asn1_times.specs.Readers.{der_generalized_time_at}
use Rattle.asn1_times.specs.declared.datetime.ASN1DateTime.{ASN1DateTime}
use Rattle.x509_core.specs.Answers.{Answer}
use Rattle.x509_core.specs.Grammar.{One}
use Rattle.x509_core.specs.Reading.{piece_at, first_piece, front_header_at}
use Rattle.x509_core.proofs.Grammars.{IsReading, piece_found, piece_only, none_at_end}
use Rattle.x509_time.specs.Times.{Time, IsTime, utc_time, general_time, ASN1Time}
use Rattle.x509_time.specs.Updates.{IsGeneralTime, IsCutTag, IsNoTime, NextUpdate, there, at_end, cut_tag, no_time}
use Rattle.x509_time.specs.Reading.{time_at, is_general_time, begins_general_time, is_cut_tag, is_other_header, is_absent, update_by, next_update_at}
use Rattle.x509_time.proofs.HeaderLaws.{cut_found, cut_only, cut_no_header, front_found, front_only, element_header, one_head, no_header, other_found, other_only, test_false}
use Rattle.x509_time.proofs.TimeLaws.{content_found, content_only, time_reading}

-- whether a GeneralizedTime begins the octets
abbrev begins : List ℕ → Bool
begins i = begins_general_time (option_map (λ p. p.element) (first_piece i))

some_by : {A : Type 0} (o : Option A) → is_some o ≡ true → (x : A) × (o ≡ Some x)
some_by (Some x) e = (x, refl)
some_by None e = cc

begins_by : (i : List ℕ) (o : Answer (Piece × List ℕ)) → AllBelowBase 256 i → piece_at i ≡ o → begins_general_time (option_map (λ (p : Piece). p.element) (option_map (λ (p : Piece × List ℕ). p.0) (result_ok o))) ≡ true
    → (t : ASN1DateTime) × (r : List ℕ) × One IsGeneralTime i t r
unfolding is_general_time
begins_by i (Err y) below read e = cc
begins_by i (Ok x) below read e =
    let piece = x.0.element in
    let both = and_parts (not piece.constructed && (piece.tag == 24)) (is_some (der_generalized_time_at piece.content)) e in
    let form = and_parts (not piece.constructed) (piece.tag == 24) both.0 in
    let some = some_by (der_generalized_time_at piece.content) both.1 in
    let found = piece_found i x.0 x.1 below read in (
      some.0,
      x.1,
      record {
        piece = x.0;
        spells = found.spells;
        whole = found.whole;
        means = record { leaf = record { tag_is = eqb-true piece.tag 24 form.1; primitive = plainly piece.constructed form.0 }; meant = content_found piece.content some.0 some.1 };
      },
    )
  where
    plainly : (b : Bool) → not b ≡ true → b ≡ false
    plainly true e = cc
    plainly false e = refl

general_there : (i : List ℕ) → AllBelowBase 256 i → begins i ≡ true → (t : ASN1DateTime) × (r : List ℕ) × One IsGeneralTime i t r
general_there i below e = begins_by i (piece_at i) below refl e

general_begins : (i : List ℕ) (t : ASN1DateTime) (r : List ℕ) → One IsGeneralTime i t r → begins i ≡ true
unfolding is_general_time
general_begins i t r is =
    rw (piece_only i is.piece r is.spells is.whole, is.means.leaf.primitive, is.means.leaf.tag_is, content_only is.piece.element.content t is.means.meant) refl

-- ---- no time

other_by : (i : List ℕ) (o : Answer (Head × List ℕ)) → AllBelowBase 256 i → front_header_at i ≡ o → is_other_header o (begins i) ≡ true → IsNoTime i
other_by i (Err y) below read e = cc
other_by i (Ok h) below read e =
    let other = other_found h (begins i) e in
    record {
      head = h.0;
      after_header = h.1;
      header = front_found i h below read;
      size = other.size;
      no_utc_time = other.no_utc;
      no_general_time = λ same t r is. let yes = general_begins i t r is in let no = other.no_general same in cc;
    }

absent_found : (i : List ℕ) → AllBelowBase 256 i → is_absent i ≡ true → IsCutTag i ⊎ IsNoTime i
unfolding is_absent
absent_found i below e =
    elim (or_cases (is_cut_tag i) (is_other_header (front_header_at i) (begins i)) e) [
      | inl cut ↦ inl (cut_found i below cut)
      | inr other ↦ inr (other_by i (front_header_at i) below refl other)
    ]

cut_absent : (i : List ℕ) → IsCutTag i → is_absent i ≡ true
unfolding is_absent
cut_absent i is = or_left (is_cut_tag i) (is_other_header (front_header_at i) (begins i)) (cut_only i is)

other_absent : (i : List ℕ) → AllBelowBase 256 i → IsNoTime i → is_absent i ≡ true
unfolding is_absent
other_absent i below is =
    let none : is.head.tag ≡ 24 → begins i ≡ false = λ same. false_from_ne_true (begins i) (λ yes. let g = general_there i below yes in is.no_general_time same g.0 g.1 g.2) in
    let test = other_only is.head is.after_header (begins i) (record { size = is.size; no_utc = is.no_utc_time; no_general = none }) in
    or_right (is_cut_tag i) (is_other_header (front_header_at i) (begins i)) (rw (front_only i is.head is.after_header is.header) test)

no_time_in : (i : List ℕ) (n : IsNoTime i) (v : Time) (r : List ℕ) → (is : One IsTime i v r) → IsTime is.piece v → ⊥
no_time_in i n v r is (utc_time leaf form) =
    let same = one_head i n.head _ n.after_header _ n.header (element_header IsTime i v r is) in
    n.no_utc_time (ap (λ (h : Head). h.tag) same ∙ leaf.leaf.tag_is)
no_time_in i n v r is (general_time leaf form) =
    let same = one_head i n.head _ n.after_header _ n.header (element_header IsTime i v r is) in
    n.no_general_time (ap (λ (h : Head). h.tag) same ∙ leaf.leaf.tag_is) leaf.meant.fields r (record {
      piece = is.piece;
      spells = is.spells;
      whole = is.whole;
      means = record { leaf = leaf.leaf; meant = leaf.meant.spelled };
    })

no_time_read : (i : List ℕ) → IsCutTag i ⊎ IsNoTime i → (v : Time) (r : List ℕ) → ASN1Time i v r → ⊥
no_time_read i (inl cut) v r is = cut_no_header i _ _ cut (element_header IsTime i v r is)
no_time_read i (inr n) v r is = no_time_in i n v r is is.means

-- ---- the whole

full : (i : List ℕ) → i ≢ [] → (length i == 0) ≡ false
full i some = test_false (length i) 0 (λ e. some (nil_from_length i e))

found_by : (i : List ℕ) (o : Answer (Time × List ℕ)) (b : Bool) (v : Option Time) (r : List ℕ) → AllBelowBase 256 i → time_at i ≡ o → is_absent i ≡ b → update_by b i o ≡ Ok (v, r)
    → NextUpdate i v r × AllBelowBase 256 r
found_by i (Ok t) b v r below read test given =
    let both : ◌≡◌ {A = Option Time × List ℕ} (Some t.0, t.1) (v, r) = cc in
    let value : Some t.0 ≡ v = ap (λ (z : Option Time × List ℕ). z.0) both in
    let rest : t.1 ≡ r = ap (λ (z : Option Time × List ℕ). z.1) both in
    let is = time_reading.found i t.0 t.1 below read in
    (there t.0 (sym value) (subst (ASN1Time i t.0) rest is.0), subst (AllBelowBase 256) rest is.1)
found_by i (Err y) true v r below read test given =
    let both : ◌≡◌ {A = Option Time × List ℕ} (None, i) (v, r) = cc in
    let value : None ≡ v = ap (λ (z : Option Time × List ℕ). z.0) both in
    let rest : i ≡ r = ap (λ (z : Option Time × List ℕ). z.1) both in
    (elim (absent_found i below test) [ inl cut ↦ cut_tag cut (sym value) (sym rest) | inr n ↦ no_time n (sym value) (sym rest) ], subst (AllBelowBase 256) rest below)
found_by i (Err y) false v r below read test given = cc

update_found : (i : List ℕ) (v : Option Time) (r : List ℕ) → AllBelowBase 256 i → next_update_at i ≡ Ok (v, r) → NextUpdate i v r × AllBelowBase 256 r
unfolding next_update_at
update_found [] v r below given =
    let both : ◌≡◌ {A = Option Time × List ℕ} (None, []) (v, r) = cc in
    let value : None ≡ v = ap (λ (z : Option Time × List ℕ). z.0) both in
    let rest : [] ≡ r = ap (λ (z : Option Time × List ℕ). z.1) both in
    (at_end refl (sym value) (sym rest), subst (AllBelowBase 256) rest below)
update_found (x ∷ s) v r below given =
    let test = full (x ∷ s) (λ e. cc e) in
    let by = rw test at given in
    found_by (x ∷ s) (time_at (x ∷ s)) (is_absent (x ∷ s)) v r below refl refl by

unread_by : (i : List ℕ) (o : Answer (Time × List ℕ)) → AllBelowBase 256 i → time_at i ≡ o → IsCutTag i ⊎ IsNoTime i → update_by true i o ≡ Ok (None, i)
unread_by i (Ok t) below read absent = absurd (no_time_read i absent t.0 t.1 (time_reading.found i t.0 t.1 below read).0)
unread_by i (Err y) below read absent = refl

absent_only : (i : List ℕ) → AllBelowBase 256 i → i ≢ [] → is_absent i ≡ true → IsCutTag i ⊎ IsNoTime i → next_update_at i ≡ Ok (None, i)
unfolding next_update_at
absent_only i below some test absent = rw (full i some, test) (unread_by i (time_at i) below refl absent)

update_only : (i : List ℕ) (v : Option Time) (r : List ℕ) → AllBelowBase 256 i → NextUpdate i v r → next_update_at i ≡ Ok (v, r)
unfolding next_update_at
update_only i v r below (there t value is) =
    let some : i ≢ [] = λ e. none_at_end IsTime t r (subst (λ z. ASN1Time z t r) e is) in
    rw (full i some, time_reading.only i t r below is, value) refl
update_only i v r below (at_end none value rest) = rw (none, value, rest) (rw none refl)
update_only i v r below (cut_tag cut value rest) =
    let some : i ≢ [] = λ e. let wrong = sym cut.whole ∙ e in cc in
    rw (value, rest) (absent_only i below some (cut_absent i cut) (inl cut))
update_only i v r below (no_time n value rest) =
    let some : i ≢ [] = λ e. let read = subst (λ z. front_header_at z ≡ Ok (n.head, n.after_header)) e (front_only i n.head n.after_header n.header) in let wrong = sym no_header ∙ read in cc in
    rw (value, rest) (absent_only i below some (other_absent i below n) (inr n))

pub update_reading : IsReading NextUpdate next_update_at
update_reading = record { found = update_found; only = update_only }
