-- Reasons against the definitions of judging.
use Rattle.std.specs.Prelude.{◌↔◌, IsTrue}
use Rattle.std.proofs.Common.{Bool, true, false, not, ◌≤◌, map, ◌≡◌, ◌∙◌, ap, sym, subst, refl, ℕ, zero, suc, ◌<◌, List, [], length, take, arith, get_or, inl, inr}
use Rattle.std.specs.List.{Contains}
use Rattle.std.proofs.lemmas.Bool.{cases_lt}
use Rattle.std.proofs.lemmas.List.{get_or_default, get_or-take, length-take, length-map}
use Rattle.cert_graph.specs.Entries.{IsAt}
use Rattle.cert_model.specs.Fields.{Identifier, CivilTime, Extension, Certificate}
use Rattle.cert_model.specs.Extended.{EachUnder, basic_constraints, key_usage}
use Rattle.cert_judge.specs.Judging.{HasConstraints, HasUsage, IsProcessed, IsUsable}
use Rattle.cert_judge.proofs.Grouping.{element}
use Rattle.cert_reasons.specs.declared.certificates.Unusable.{Unusable}
use Rattle.cert_reasons.specs.declared.certificates.Unusable.TheVariants.{NotYetValid, Expired, Repeats, Unprocessed, BadConstraints, BadUsage}
use Rattle.cert_model.specs.declared.fields.ExtField.{ExtField}
use Rattle.cert_model.specs.View.{ext_view}
use Rattle.cert_judge.proofs.Agreement.{mapped_default}
use Rattle.cert_reasons.specs.Order.{AreAll}
use Rattle.cert_reasons.specs.Certificates.{HasReason, order_of}

-- a position among the first k is below k
pub taken : {X : Type 0} (xs : List X) (k i : ℕ) → i < length (take k xs) → i < k
taken xs k i lt = let le = length-take k xs in omega arith

pub no_reason : (P : Identifier → Type 0) (moment : CivilTime) (c : Certificate) (r : Unusable) → IsUsable P moment c → HasReason P moment c r → ⊥
unfolding EachUnder
no_reason P moment c NotYetValid u h = h u.valid.begun
no_reason P moment c Expired u h = h u.valid.lasts
no_reason P moment c (Repeats k) u h =
    let e = element c.extensions k h.0 in
    let a = h.1 e.0 in
    let long : a.0 < length (take k c.extensions) = a.2 in
    let at : get_or (take k c.extensions) a.0 a.1 ≡ get_or c.extensions a.0 a.1 = get_or-take k c.extensions a.0 a.1 (taken c.extensions k a.0 long) in
    let same : (get_or c.extensions k a.1).identifier ≡ (get_or c.extensions k e.0).identifier = ap (λ (x : Extension). x.identifier) (get_or_default c.extensions k a.1 e.0 h.0) in
    u.extensions.distinct a.0 k a.1 (taken c.extensions k a.0 long) h.0 (ap (λ (x : Extension). x.identifier) (sym at ∙ a.3) ∙ a.4 ∙ sym same)
no_reason P moment c (Unprocessed k) u h = let e = element c.extensions k h.0 in h.1 e.0 (u.extensions.processed k e.0 h.0)
no_reason P moment c (BadConstraints k) u h = let e = element c.extensions k h.0 in (h.1 e.0).1 (u.extensions.constraints k e.0 h.0 (h.1 e.0).0)
no_reason P moment c (BadUsage k) u h = let e = element c.extensions k h.0 in (h.1 e.0).1 (u.extensions.usage k e.0 h.0 (h.1 e.0).0)

-- what holds of each element, up to refutation, holds of all
pub up_to : {X : Type 0} (P : X → Type 0) (xs : List X) → ((k : ℕ) (x : X) → k < length xs → x ≡ get_or xs k x → (P x → ⊥) → ⊥) → (n : ℕ) → n ≤ length xs → (((k : ℕ) (d : X) → k < n → P (get_or xs k d)) → ⊥) → ⊥
up_to P xs each zero le refuted = refuted (λ k d lt. absurd (omega arith))
up_to P xs each (suc n) le refuted =
    up_to P xs each n (omega arith) (λ below.
    let lt : n < length xs = omega arith in
    let e = element xs n lt in
    each n e.0 lt e.1 (λ p. refuted (λ k d less. elim (cases_lt k n) [
      | inl under ↦ below k d under
      | inr past ↦
          let same : n ≡ k = omega arith in
          subst (λ i. P (get_or xs i d)) same (subst P (e.1 ∙ get_or_default xs n e.0 d lt) p)
    ])))

-- a certificate to which no reason applies is not unusable
pub not_unusable : (P : Identifier → Type 0) (moment : CivilTime) (c : Certificate) → ((r : Unusable) → HasReason P moment c r → ⊥) → (IsUsable P moment c → ⊥) → ⊥
unfolding EachUnder
not_unusable P moment c none refuted =
    let es = c.extensions in
    none NotYetValid (λ begun. none Expired (λ lasts.
    up_to (IsProcessed P) es (λ k x lt at bad. none (Unprocessed k) (lt, λ d p. bad (subst (IsProcessed P) (sym (at ∙ get_or_default es k x d lt)) p))) (length es) (omega arith) (λ processed.
    up_to (λ (e : Extension). e.identifier ≡ basic_constraints → HasConstraints e.value) es
    (λ k x lt at bad. bad (λ a. absurd (none (BadConstraints k) (lt, λ d. subst (λ (e : Extension). (e.identifier ≡ basic_constraints) × (HasConstraints e.value → ⊥)) (at ∙ get_or_default es k x d lt) (a, λ b. bad (λ z. b)))))) (length es) (omega arith) (λ constraints.
    up_to (λ (e : Extension). e.identifier ≡ key_usage → HasUsage e.value) es
    (λ k x lt at bad. bad (λ a. absurd (none (BadUsage k) (lt, λ d. subst (λ (e : Extension). (e.identifier ≡ key_usage) × (HasUsage e.value → ⊥)) (at ∙ get_or_default es k x d lt) (a, λ b. bad (λ z. b)))))) (length es) (omega arith) (λ usage.
    refuted (record {
      valid = record { begun = begun; lasts = lasts };
      extensions = record {
        distinct = λ i j d lt end same. none (Repeats j) (
          end,
          λ x. (
            i,
            get_or es i d,
            (let long = length-take j es in omega arith),
            get_or-take j es i (get_or es i d) lt ∙ get_or_default es i (get_or es i d) d (omega arith),
            same ∙ ap (λ (e : Extension). e.identifier) (get_or_default es j d x end),
          ),
        );
        processed = processed;
        constraints = constraints;
        usage = usage;
      };
    }))))))

-- reasons of one position in the order are one
reason_at : ℕ → ℕ → Unusable
reason_at zero k = NotYetValid
reason_at (suc zero) k = Expired
reason_at (suc (suc zero)) k = Repeats k
reason_at (suc (suc (suc zero))) k = Unprocessed k
reason_at (suc (suc (suc (suc zero)))) k = BadConstraints k
reason_at (suc (suc (suc (suc (suc n))))) k = BadUsage k

abbrev again : ℕ × ℕ → Unusable
again p = reason_at p.0 p.1

told : (r : Unusable) → again (order_of r) ≡ r
unfolding reason_at
told NotYetValid = refl
told Expired = refl
told (Repeats k) = refl
told (Unprocessed k) = refl
told (BadConstraints k) = refl
told (BadUsage k) = refl

pub same_reason : (r s : Unusable) → order_of r ≡ order_of s → r ≡ s
same_reason r s e = sym (told r) ∙ ap again e ∙ told s

pub extension_place : (P : Identifier → Type 0) (moment : CivilTime) (c : Certificate) (r : Unusable) (n kind : ℕ) → HasReason P moment c r → (order_of r).0 ≡ kind → 2 ≤ kind → length c.extensions ≤ n → (order_of r).1 < n
extension_place P moment c NotYetValid n kind h e le end = absurd (omega arith)
extension_place P moment c Expired n kind h e le end = absurd (omega arith)
extension_place P moment c (Repeats k) n kind h e le end = let lt = h.0 in omega arith
extension_place P moment c (Unprocessed k) n kind h e le end = let lt = h.0 in omega arith
extension_place P moment c (BadConstraints k) n kind h e le end = let lt = h.0 in omega arith
extension_place P moment c (BadUsage k) n kind h e le end = let lt = h.0 in omega arith

pub moment_place : (r : Unusable) (kind : ℕ) → (order_of r).0 ≡ kind → kind < 2 → (order_of r).1 < 1
moment_place NotYetValid kind e lt = omega arith
moment_place Expired kind e lt = omega arith
moment_place (Repeats k) kind e lt = absurd (omega arith)
moment_place (Unprocessed k) kind e lt = absurd (omega arith)
moment_place (BadConstraints k) kind e lt = absurd (omega arith)
moment_place (BadUsage k) kind e lt = absurd (omega arith)

pub kinds_end : (r : Unusable) → (order_of r).0 < 6
kinds_end NotYetValid = omega arith
kinds_end Expired = omega arith
kinds_end (Repeats k) = omega arith
kinds_end (Unprocessed k) = omega arith
kinds_end (BadConstraints k) = omega arith
kinds_end (BadUsage k) = omega arith

pub all_of_usable : (P : Identifier → Type 0) (moment : CivilTime) (c : Certificate) → IsUsable P moment c → AreAll order_of (HasReason P moment c) []
all_of_usable P moment c u = record {
  exact = λ r. (λ h. let lt = h.1 in absurd (omega arith), λ h. absurd (no_reason P moment c r u h));
  ordered = λ i j d lt end. absurd (omega arith);
}

-- if the list of all reasons is empty, none applies
pub none_stands : (P : Identifier → Type 0) (moment : CivilTime) (c : Certificate) (rs : List Unusable) → AreAll order_of (HasReason P moment c) rs → rs ≡ [] → (r : Unusable) → HasReason P moment c r → ⊥
none_stands P moment c rs all e r h = let at = subst (λ (xs : List Unusable). Contains xs r) e ((all.exact r).1 h) in let lt = at.1 in absurd (omega arith)

-- what holds of the extension at a position
pub viewed_at : (xs : List ExtField) (k : ℕ) (x : ExtField) → k < length xs → x ≡ get_or xs k x → (P : Extension → Type 0) → P (ext_view x) ↔ IsAt (map ext_view xs) k P
viewed_at xs k x lt at P = (
  λ p. (let long = length-map xs ext_view in omega arith, λ d. subst P (mapped_default ext_view xs k x d at lt) p),
  λ h. subst P (sym (mapped_default ext_view xs k x (ext_view x) at lt)) (h.1 (ext_view x)),
)

pub not_iff : {P : Type 0} (b : Bool) → (IsTrue b ↔ P) → (IsTrue (not b) ↔ (P → ⊥))
not_iff true h = (λ t. absurd (cc), λ n. absurd (n (h.0 refl)))
not_iff false h = (λ t p. let e = h.1 p in absurd (cc), λ n. refl)

pub viewed_by : {X Y : Type 0} (f : X → Y) (xs : List X) (k : ℕ) (x : X) → k < length xs → x ≡ get_or xs k x → (P : Y → Type 0) → P (f x) ↔ IsAt (map f xs) k P
viewed_by f xs k x lt at P = (
  λ p. (let long = length-map xs f in omega arith, λ d. subst P (mapped_default f xs k x d at lt) p),
  λ h. subst P (sym (mapped_default f xs k x (f x) at lt)) (h.1 (f x)),
)
