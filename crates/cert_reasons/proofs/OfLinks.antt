-- Reasons against links.
use Rattle.std.proofs.Common.{◌≡◌, ◌∙◌, ◌+◌, ◌<◌, ◌≤◌, ap, sym, subst, refl, ℕ, zero, suc, arith, length, Bool, true, false, List, [], ◌∷◌, ◌++◌, get_or, inl, inr}
use Rattle.std.specs.List.Sorted.{IsStrictlyIncreasing}
use Rattle.std.proofs.lemmas.Bool.{cases_lt}
use Rattle.std.proofs.lemmas.List.{get_or_default}
use Rattle.std.proofs.lemmas.List.Elements.{Contains-get_or}
use Rattle.std.proofs.lemmas.List.Kept.{AllPairs-from_increasing}
use Rattle.cert_model.specs.Fields.{Certificate}
use Rattle.cert_model.specs.Octets.{name_octets}
use Rattle.cert_judge.specs.Revoking.{Item, JudgingContext, HasUsedList}
use Rattle.cert_judge.specs.ItemGraph.{IsIssuedUnder}
use Rattle.cert_judge.proofs.Grouping.{element}
use Rattle.cert_reasons.specs.declared.links.Unlinked.{Unlinked}
use Rattle.cert_reasons.specs.declared.links.Unlinked.TheVariants.{NotVouched, KeyIdsDiffer, RevokedBy, NoUsedList}
use Rattle.cert_reasons.specs.declared.links.Findings.{Findings}
use Rattle.cert_reasons.specs.Found.{HasFoundReason}
use Rattle.cert_reasons.specs.Links.{Revokes, HasLinkReason, link_order}
use Rattle.cert_reasons.specs.Order.{AreUpTo}
use Rattle.cert_reasons.proofs.Ordered.{up_more, up_next, up_skip}

pub no_reason : (r : JudgingContext) (items : List Item) (x : Item) (c : Certificate) (name key : List ℕ) (Agree : Type 0) (reason : Unlinked) → IsIssuedUnder r items x c name key → Agree → HasLinkReason r items x c name key Agree reason → ⊥
no_reason r items x c name key Agree NotVouched i a h = h i.vouched
no_reason r items x c name key Agree KeyIdsDiffer i a h = h a
no_reason r items x c name key Agree (RevokedBy p) i a h = let y = element items p h.0 in let l = h.1 y.0 in i.satisfied.kept (get_or items p y.0, l.0, (p, h.0, get_or_default items p (get_or items p y.0) y.0 h.0), l.1, l.2)
no_reason r items x c name key Agree NoUsedList i a h = h.1 (i.satisfied.listed h.0)

-- what is demanded is not missing
demanded : (demand : Bool) (Has : Type 0) → (demand ≡ true → (Has → ⊥) → ⊥) → ((demand ≡ true → Has) → ⊥) → ⊥
demanded true Has h refuted = h refl (λ y. refuted (λ d. y))
demanded false Has h refuted = refuted (λ d. absurd (cc))

-- a certificate of this issuer to whose link no reason applies is not unlinked
pub not_unlinked : (r : JudgingContext) (items : List Item) (x : Item) (c : Certificate) (name key : List ℕ) (Agree : Type 0) → name_octets c.issuer ≡ name → ((reason : Unlinked) → HasLinkReason r items x c name key Agree reason → ⊥) → (IsIssuedUnder r items x c name key → Agree → ⊥) → ⊥
not_unlinked r items x c name key Agree named none refuted =
    none NotVouched (λ vouched. none KeyIdsDiffer (λ agree.
    demanded r.demand_lists (HasUsedList r items name key) (λ d has. none NoUsedList (d, has)) (λ listed.
    refuted (record {
      issuer = named;
      vouched = vouched;
      satisfied = record {
        kept = λ v. none (RevokedBy v.2.0) (v.2.1, λ d. subst (Revokes r name key c.serial) (sym v.2.2 ∙ get_or_default items v.2.0 v.0 d v.2.1) (v.1, v.3, v.4));
        listed = listed;
      };
    }) agree)))

reason_at : ℕ → ℕ → Unlinked
reason_at zero k = NotVouched
reason_at (suc zero) k = KeyIdsDiffer
reason_at (suc (suc zero)) k = RevokedBy k
reason_at (suc (suc (suc n))) k = NoUsedList

abbrev again : ℕ × ℕ → Unlinked
again p = reason_at p.0 p.1

told : (r : Unlinked) → again (link_order r) ≡ r
unfolding reason_at
told NotVouched = refl
told KeyIdsDiffer = refl
told (RevokedBy k) = refl
told NoUsedList = refl

pub same_reason : (r s : Unlinked) → link_order r ≡ link_order s → r ≡ s
same_reason r s e = sym (told r) ∙ ap again e ∙ told s

pub alone_place : (r : Unlinked) (kind : ℕ) → (link_order r).0 ≡ kind → (kind ≡ 2 → ⊥) → (link_order r).1 < 1
alone_place NotVouched kind e n = omega arith
alone_place KeyIdsDiffer kind e n = omega arith
alone_place (RevokedBy k) kind e n = absurd (n (sym e))
alone_place NoUsedList kind e n = omega arith

-- ---- places of lists, one after another

-- a number is above the first k of some places, and not above the others
pub record IsBehind (ps : List ℕ) (k n : ℕ) : Type 0 where
  pub below : (j : ℕ) → j < k → get_or ps j 0 < n
  pub above : (j : ℕ) → k ≤ j → j < length ps → n ≤ get_or ps j 0

-- the first k of the lists that revoke were added
abbrev pub RevokedUpTo : Findings → ℕ → List Unlinked → Type 0
RevokedUpTo f k rs = (n : ℕ) × IsBehind f.revoking.now k n × AreUpTo link_order (HasFoundReason f) (2, n) rs

-- no reason between two of the places
between : (f : Findings) (k n : ℕ) (r : Unlinked) → IsStrictlyIncreasing f.revoking.now → IsBehind f.revoking.now k n → HasFoundReason f r → (link_order r).0 ≡ 2 → n ≤ (link_order r).1 → (link_order r).1 < get_or f.revoking.now k 0 → ⊥
between f k n NotVouched up b s e from to = absurd (omega arith)
between f k n KeyIdsDiffer up b s e from to = absurd (omega arith)
between f k n (RevokedBy m) up b s e from to =
    let ps = f.revoking.now in
    let lt : s.0 < length ps = s.1 in
    let is : get_or ps s.0 0 ≡ m = get_or_default ps s.0 0 m lt ∙ s.2 in
    elim (cases_lt s.0 k) [
      | inl less ↦ let below = b.below s.0 less in omega arith
      | inr past ↦ elim (cases_lt k s.0) [
        | inl more ↦ let above = AllPairs-from_increasing ps up k s.0 0 more lt in omega arith
        | inr same ↦
            let here : s.0 ≡ k = omega arith in
            let at : get_or ps k 0 ≡ m = subst (λ i. get_or ps i 0 ≡ m) here is in
            omega arith
      ]
    ]
between f k n NoUsedList up b s e from to = absurd (omega arith)

pub revoked_none : (f : Findings) (rs : List Unlinked) → AreUpTo link_order (HasFoundReason f) (2, 0) rs → RevokedUpTo f 0 rs
revoked_none f rs h = (0, record { below = λ j lt. absurd (omega arith); above = λ j le lt. omega arith }, h)

pub revoked_more : (f : Findings) (k : ℕ) (rs : List Unlinked) → IsStrictlyIncreasing f.revoking.now → k < length f.revoking.now → RevokedUpTo f k rs → RevokedUpTo f (k + 1) (rs ++ RevokedBy (get_or f.revoking.now k 0) ∷ [])
revoked_more f k rs up lt h =
    let ps = f.revoking.now in
    let p = get_or ps k 0 in
    let n = h.0 in
    let b : IsBehind ps k n = h.1 in
    let le : n ≤ p = b.above k (omega arith) lt in
    let skipped = up_skip link_order (HasFoundReason f) rs 2 n p le h.2 (λ r s e from to. between f k n r up b s e from to) in (
      p + 1,
      record {
        below = λ j less. elim (cases_lt j k) [
          | inl under ↦ let below = b.below j under in omega arith
          | inr past ↦ let same : k ≡ j = omega arith in subst (λ i. get_or ps i 0 < p + 1) same (let next : p < p + 1 = omega arith in next)
        ];
        above = λ j more within. let above = AllPairs-from_increasing ps up k j 0 (omega arith) within in omega arith;
      },
      up_more link_order (HasFoundReason f) rs (RevokedBy p) (λ r e. same_reason r (RevokedBy p) e) skipped (Contains-get_or ps k 0 lt),
    )

revoked_place : (f : Findings) (k n : ℕ) (r : Unlinked) → length f.revoking.now ≤ k → IsBehind f.revoking.now k n → HasFoundReason f r → (link_order r).0 ≡ 2 → (link_order r).1 < n
revoked_place f k n NotVouched end b s e = absurd (omega arith)
revoked_place f k n KeyIdsDiffer end b s e = absurd (omega arith)
revoked_place f k n (RevokedBy m) end b s e =
    let ps = f.revoking.now in
    let lt : s.0 < length ps = s.1 in
    let is : get_or ps s.0 0 ≡ m = get_or_default ps s.0 0 m lt ∙ s.2 in
    let below = b.below s.0 (omega arith) in
    omega arith
revoked_place f k n NoUsedList end b s e = absurd (omega arith)

pub revoked_all : (f : Findings) (k : ℕ) (rs : List Unlinked) → length f.revoking.now ≤ k → RevokedUpTo f k rs → AreUpTo link_order (HasFoundReason f) (3, 0) rs
revoked_all f k rs end h = up_next link_order (HasFoundReason f) rs 2 h.0 h.2 (λ r s e. revoked_place f k h.0 r end h.1 s e)

pub kinds_end : (r : Unlinked) → (link_order r).0 < 4
kinds_end NotVouched = omega arith
kinds_end KeyIdsDiffer = omega arith
kinds_end (RevokedBy k) = omega arith
kinds_end NoUsedList = omega arith
