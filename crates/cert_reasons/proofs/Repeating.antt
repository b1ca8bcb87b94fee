-- Extensions whose identifier was seen before.
use Rattle.std.specs.Prelude.{◌↔◌, IsTrue}
use Rattle.std.proofs.Common.{◌≡◌, ◌∙◌, sym, subst, refl, ℕ, ◌+◌, ◌<◌, Bool, true, false, not, cond, List, [], ◌∷◌, ◌++◌, map, take, length, length-append, arith, get_or, inl, inr, Bor}
use Rattle.std.specs.List.{Any}
use Rattle.std.specs.BTreeSet as sorted
use Rattle.std.specs.BTreeSet.{BTreeSet}
use Rattle.std.proofs.Math.ListN.{get_or-append}
use Rattle.std.proofs.Math.Seq.{get_or-append_seam}
use Rattle.std.proofs.lemmas.Bool.{cases_lt}
use Rattle.std.proofs.lemmas.List.{get_or-take, length-take, take-map}
use Rattle.cert_model.specs.Fields.{Extension}
use Rattle.cert_model.specs.View.{ext_view}
use Rattle.cert_model.specs.declared.fields.ExtField.{ExtField}
use Rattle.cert_judge.proofs.Before.{SomeBefore, none_before, before_more}
use Rattle.cert_judge.proofs.Mapped.{any_to, any_from}
use Rattle.cert_judge.proofs.SerialFacts.{set_empty}
use Rattle.cert_judge.proofs.Sets.{E, R, same}
use Rattle.cert_judge.proofs.StandingFacts.{set_cases, set_left, set_right}
use Rattle.cert_reasons.specs.Certificates.{IsRepeat}
use Rattle.cert_reasons.specs.Repeats.{AreRepeats}
use Rattle.cert_reasons.proofs.Certain.{taken, viewed_at}

-- the identifiers of the first extensions, and which of them repeat one
pub record AreSeen (es : List ExtField) (k : ℕ) (seen : BTreeSet (Bor (List ℕ))) (repeats : List Bool) : Type 0 where
  pub known : (s : Bor (List ℕ)) → IsTrue (sorted.contains R seen s) ↔ SomeBefore (λ (e : ExtField). e.identifier.now ≡ s.now) es k
  pub marked : AreRepeats es k repeats

taken_iff : {X : Type 0} (P : X → Type 0) (xs : List X) (k : ℕ) → k < length xs → Any P (take k xs) ↔ SomeBefore P xs k
taken_iff P xs k lt = (
  λ h. let less = taken xs k h.0 h.2 in (h.0, h.1, less, sym (get_or-take k xs h.0 h.1 less) ∙ h.3, h.4),
  λ h. let less = h.2 in let long = length-take k xs in (h.0, h.1, omega arith, get_or-take k xs h.0 h.1 less ∙ h.3, h.4),
)

repeat_iff : (es : List ExtField) (k : ℕ) (x : ExtField) → k < length es → x ≡ get_or es k x → SomeBefore (λ (e : ExtField). e.identifier.now ≡ x.identifier.now) es k ↔ IsRepeat (map ext_view es) k
repeat_iff es k x lt at =
    let P : Extension → Type 0 = λ d. d.identifier ≡ x.identifier.now in
    let v = viewed_at es k x lt at (λ (e : Extension). Any (λ (d : Extension). d.identifier ≡ e.identifier) (take k (map ext_view es))) in
    let t = taken_iff (λ (e : ExtField). P (ext_view e)) es k lt in
    let same = take-map ext_view k es in (
      λ h. v.0 (subst (λ ds. Any P ds) (sym same) (any_to ext_view P (take k es) (t.1 h))),
      λ h. t.0 (any_from ext_view P (take k es) (subst (λ ds. Any P ds) same (v.1 h))),
    )

pub seen_none : (es : List ExtField) (seen : BTreeSet (Bor (List ℕ))) → sorted.IsEmpty seen → AreSeen es 0 seen []
seen_none es seen empty = record {
  known = λ s. (λ h. absurd (set_empty seen empty s h), λ h. absurd (none_before _ es h));
  marked = record { count = refl; each = λ p b lt. absurd (omega arith) };
}

not_added : (added was : Bool) → added ≡ not was → not added ≡ was
not_added true true e = cc
not_added true false e = refl
not_added false true e = refl
not_added false false e = cc

pub seen_more : (es : List ExtField) (k : ℕ) (x : ExtField) (seen new : BTreeSet (Bor (List ℕ))) (repeats : List Bool) (added : Bool) → k < length es → x ≡ get_or es k x → AreSeen es k seen repeats → added ≡ not (sorted.contains R seen x.identifier)
    → ((s : Bor (List ℕ)) → sorted.contains R new s ≡ cond (E x.identifier.now s.now) true (sorted.contains R seen s)) → AreSeen es (k + 1) new (repeats ++ not added ∷ [])
seen_more es k x seen new repeats added lt at h is update = record {
  known = λ s.
      let m = before_more (λ (e : ExtField). e.identifier.now ≡ s.now) es k x lt at in
      let d = same x.identifier.now s.now in (
        λ i. elim (set_cases (E x.identifier.now s.now) (sorted.contains R seen s) (sym (update s) ∙ i)) [ inl one ↦ m.1 (inr (d.0 one)) | inr old ↦ m.1 (inl ((h.known s).0 old)) ],
        λ y. update s ∙ elim (m.0 y) [
          | inl old ↦ set_right (E x.identifier.now s.now) (sorted.contains R seen s) ((h.known s).1 old)
          | inr one ↦ set_left (E x.identifier.now s.now) (sorted.contains R seen s) (d.1 one)
        ],
      );
  marked = record {
    count = let long = length-append repeats (not added ∷ []) in let c = h.marked.count in omega arith;
    each = λ p b less. let c = h.marked.count in elim (cases_lt p k) [
      | inl under ↦
          let within : p < length repeats = omega arith in
          subst (λ r. IsTrue r ↔ IsRepeat (map ext_view es) p) (sym (get_or-append repeats (not added ∷ []) b p within)) (h.marked.each p b under)
      | inr past ↦
          let end : length repeats ≡ p = omega arith in
          let here : k ≡ p = omega arith in
          let last : get_or (repeats ++ not added ∷ []) p b ≡ not added = subst (λ i. get_or (repeats ++ not added ∷ []) i b ≡ not added) end (get_or-append_seam repeats (not added) [] b) in
          let was : not added ≡ sorted.contains R seen x.identifier = not_added added _ is in
          let r = repeat_iff es k x lt at in
          let s = h.known x.identifier in
          let this : IsTrue (sorted.contains R seen x.identifier) ↔ IsRepeat (map ext_view es) k = (λ t. r.0 (s.0 t), λ t. s.1 (r.1 t)) in
          subst (λ r. IsTrue r ↔ IsRepeat (map ext_view es) p) (sym (last ∙ was)) (subst (λ i. IsTrue (sorted.contains R seen x.identifier) ↔ IsRepeat (map ext_view es) i) here this)
    ];
  };
}
