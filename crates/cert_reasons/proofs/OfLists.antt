-- Reasons against lists.
use Rattle.std.specs.Prelude.{◌⊎◌, ◌↔◌, IsTrue}
use Rattle.std.proofs.Common.{[], ◌<◌, not, ◌≤◌, zero, suc, ◌≡◌, ◌∙◌, ap, sym, subst, refl, ℕ, Bool, true, false, List, length, arith, get_or, Some, None, Option, inl, inr}
use Rattle.std.specs.Option.{unwrap_or}
use Rattle.std.proofs.lemmas.List.{get_or_default}
use Rattle.cert_model.specs.Fields.{CivilTime, Extension, Entry, RevocationList}
use Rattle.cert_model.specs.Octets.{name_octets}
use Rattle.cert_model.specs.Class.{list}
use Rattle.cert_judge.specs.Moments.{IsNotAfter}
use Rattle.cert_judge.specs.Revoking.{Item, JudgingContext, AreUncritical, IsCurrent, IsPlain, IsUsedList}
use Rattle.cert_judge.proofs.Grouping.{element}
use Rattle.cert_judge.proofs.Mapped.{not_both}
use Rattle.cert_reasons.specs.declared.lists.Unused.{Unused}
use Rattle.cert_reasons.specs.declared.lists.Unused.TheVariants.{NotVouched, NoNextUpdate, NotYetCurrent, PastNextUpdate, CriticalOfList, CriticalOfEntry}
use Rattle.std.specs.List.{Contains, Any}
use Rattle.jiff_core.specs.declared.civil.datetime.DateTime.{DateTime}
use Rattle.cert_model.specs.View.{time_view}
use Rattle.cert_judge.specs.declared.items.ListItem.{ListItem}
use Rattle.cert_judge.specs.Vouching.{Vouching, vouching_alone}
use Rattle.cert_judge.specs.Items.{list_of, list_item, rules_by}
use Rattle.cert_reasons.specs.Order.{AreAll}
use Rattle.cert_reasons.specs.Lists.{HasListReason, HasReasonAmong, list_order}
use Rattle.cert_reasons.proofs.Certain.{up_to, not_iff}

none_some : {X : Type 0} (x : X) → Some x ≡ None → ⊥
none_some x e = cc

one_some : {X : Type 0} (x y : X) → Some x ≡ Some y → x ≡ y
one_some x y e = ap (λ o. unwrap_or o x) e

either : (b : Bool) → (b ≡ true → ⊥) → b ≡ false
either true h = absurd (h refl)
either false h = refl

next_of : (o : Option CivilTime) → (o ≡ None) ⊎ ((t : CivilTime) × (o ≡ Some t))
next_of None = inl refl
next_of (Some t) = inr (t, refl)

pub no_reason : (r : JudgingContext) (name key : List ℕ) (item : Item) (l : RevocationList) (reason : Unused) → IsUsedList r name key item l → HasListReason r key item l reason → ⊥
no_reason r name key item l NotVouched u h = h u.vouched
no_reason r name key item l NoNextUpdate u h = none_some u.current.next (sym u.current.told ∙ h)
no_reason r name key item l NotYetCurrent u h = h u.current.between.begun
no_reason r name key item l PastNextUpdate u h = h.2 (subst (IsNotAfter r.moment) (one_some u.current.next h.0 (sym u.current.told ∙ h.1)) u.current.between.lasts)
no_reason r name key item l (CriticalOfList k) u h = let e = element l.extensions k h.0 in not_both _ (h.1 e.0) (u.plain.extensions k e.0 h.0)
no_reason r name key item l (CriticalOfEntry k) u h = let e = element l.entries k h.0 in h.1 e.0 (u.plain.entries k e.0 h.0)

-- a list of this name to which no reason applies is not unused
pub not_unused : (r : JudgingContext) (name key : List ℕ) (item : Item) (l : RevocationList) → item.class ≡ list l → name_octets l.issuer ≡ name → ((reason : Unused) → HasListReason r key item l reason → ⊥) → (IsUsedList r name key item l → ⊥) → ⊥
not_unused r name key item l is named none refuted =
    none NotVouched (λ vouched. none NotYetCurrent (λ begun. elim (next_of l.next_update) [
      | inl e ↦ none NoNextUpdate e
      | inr t ↦ none PastNextUpdate (
        t.0,
        t.1,
        λ lasts.
            up_to (λ (n : Entry). AreUncritical n.extensions) l.entries (λ k x lt at bad. none (CriticalOfEntry k) (lt, λ d p. bad (subst (λ (n : Entry). AreUncritical n.extensions) (sym (at ∙ get_or_default l.entries k x d lt)) p))) (length l.entries) (omega arith) (λ entries.
            refuted (record {
              is_list = is;
              issuer = named;
              vouched = vouched;
              current = record { next = t.0; told = t.1; between = record { begun = begun; lasts = lasts } };
              plain = record {
                extensions = λ k d lt. either (get_or l.extensions k d).critical (λ t. none (CriticalOfList k) (lt, λ x. ap (λ (e : Extension). e.critical) (get_or_default l.extensions k x d lt) ∙ t));
                entries = entries;
              };
            })),
      )
    ]))

reason_at : ℕ → ℕ → Unused
reason_at zero k = NotVouched
reason_at (suc zero) k = NoNextUpdate
reason_at (suc (suc zero)) k = NotYetCurrent
reason_at (suc (suc (suc zero))) k = PastNextUpdate
reason_at (suc (suc (suc (suc zero)))) k = CriticalOfList k
reason_at (suc (suc (suc (suc (suc n))))) k = CriticalOfEntry k

abbrev again : ℕ × ℕ → Unused
again p = reason_at p.0 p.1

told : (r : Unused) → again (list_order r) ≡ r
unfolding reason_at
told NotVouched = refl
told NoNextUpdate = refl
told NotYetCurrent = refl
told PastNextUpdate = refl
told (CriticalOfList k) = refl
told (CriticalOfEntry k) = refl

pub same_reason : (r s : Unused) → list_order r ≡ list_order s → r ≡ s
same_reason r s e = sym (told r) ∙ ap again e ∙ told s

pub alone_place : (r : Unused) (kind : ℕ) → (list_order r).0 ≡ kind → kind < 4 → (list_order r).1 < 1
alone_place NotVouched kind e lt = omega arith
alone_place NoNextUpdate kind e lt = omega arith
alone_place NotYetCurrent kind e lt = omega arith
alone_place PastNextUpdate kind e lt = omega arith
alone_place (CriticalOfList k) kind e lt = absurd (omega arith)
alone_place (CriticalOfEntry k) kind e lt = absurd (omega arith)

pub kinds_end : (r : Unused) → (list_order r).0 < 6
kinds_end NotVouched = omega arith
kinds_end NoNextUpdate = omega arith
kinds_end NotYetCurrent = omega arith
kinds_end PastNextUpdate = omega arith
kinds_end (CriticalOfList k) = omega arith
kinds_end (CriticalOfEntry k) = omega arith

pub extension_place : (r : JudgingContext) (key : List ℕ) (item : Item) (l : RevocationList) (reason : Unused) (n : ℕ) → HasListReason r key item l reason → (list_order reason).0 ≡ 4 → length l.extensions ≤ n → (list_order reason).1 < n
extension_place r key item l NotVouched n h e end = absurd (omega arith)
extension_place r key item l NoNextUpdate n h e end = absurd (omega arith)
extension_place r key item l NotYetCurrent n h e end = absurd (omega arith)
extension_place r key item l PastNextUpdate n h e end = absurd (omega arith)
extension_place r key item l (CriticalOfList k) n h e end = let lt = h.0 in omega arith
extension_place r key item l (CriticalOfEntry k) n h e end = absurd (omega arith)

pub entry_place : (r : JudgingContext) (key : List ℕ) (item : Item) (l : RevocationList) (reason : Unused) (n : ℕ) → HasListReason r key item l reason → (list_order reason).0 ≡ 5 → length l.entries ≤ n → (list_order reason).1 < n
entry_place r key item l NotVouched n h e end = absurd (omega arith)
entry_place r key item l NoNextUpdate n h e end = absurd (omega arith)
entry_place r key item l NotYetCurrent n h e end = absurd (omega arith)
entry_place r key item l PastNextUpdate n h e end = absurd (omega arith)
entry_place r key item l (CriticalOfEntry k) n h e end = let lt = h.0 in omega arith
entry_place r key item l (CriticalOfList k) n h e end = absurd (omega arith)

pub past_iff : (moment t : CivilTime) (b : Bool) → (IsTrue b ↔ IsNotAfter moment t) → IsTrue (not b) ↔ ((u : CivilTime) × (Some t ≡ Some u) × (IsNotAfter moment u → ⊥))
past_iff moment t b h = let n = not_iff b h in (
  λ x. (t, refl, n.0 x),
  λ y. n.1 (subst (λ u. IsNotAfter moment u → ⊥) (sym (one_some t y.0 y.1)) y.2),
)

pub all_of_used : (r : JudgingContext) (name key : List ℕ) (item : Item) (l : RevocationList) → IsUsedList r name key item l → AreAll list_order (HasListReason r key item l) []
all_of_used r name key item l u = record {
  exact = λ x. (λ h. let lt = h.1 in absurd (omega arith), λ h. absurd (no_reason r name key item l x u h));
  ordered = λ i j d lt end. absurd (omega arith);
}

pub none_stands : (r : JudgingContext) (key : List ℕ) (item : Item) (l : RevocationList) (rs : List Unused) → AreAll list_order (HasListReason r key item l) rs → rs ≡ [] → (x : Unused) → HasListReason r key item l x → ⊥
none_stands r key item l rs all e x h = let at = subst (λ (xs : List Unused). Contains xs x) e ((all.exact x).1 h) in let lt = at.1 in absurd (omega arith)

-- ---- under several keys

-- a reason under a key that vouches for the list applies under all
keyed : (r : JudgingContext) (keys : List (List ℕ)) (item : Item) (l : RevocationList) (key : List ℕ) → r.Vouches key item.octets → ((reason : Unused) → HasReasonAmong r keys item l reason → ⊥) → (reason : Unused) → HasListReason r key item l reason → ⊥
keyed r keys item l key v none NotVouched h = h v
keyed r keys item l key v none NoNextUpdate h = none NoNextUpdate h
keyed r keys item l key v none NotYetCurrent h = none NotYetCurrent h
keyed r keys item l key v none PastNextUpdate h = none PastNextUpdate h
keyed r keys item l key v none (CriticalOfList k) h = none (CriticalOfList k) h
keyed r keys item l key v none (CriticalOfEntry k) h = none (CriticalOfEntry k) h

pub no_reason_among : (r : JudgingContext) (name : List ℕ) (keys : List (List ℕ)) (item : Item) (l : RevocationList) (reason : Unused) → Any (λ key. IsUsedList r name key item l) keys → HasReasonAmong r keys item l reason → ⊥
no_reason_among r name keys item l NotVouched u h = h u.0 u.1 u.2 (subst (λ key. r.Vouches key item.octets) (sym u.3) u.4.vouched)
no_reason_among r name keys item l NoNextUpdate u h = no_reason r name u.1 item l NoNextUpdate u.4 h
no_reason_among r name keys item l NotYetCurrent u h = no_reason r name u.1 item l NotYetCurrent u.4 h
no_reason_among r name keys item l PastNextUpdate u h = no_reason r name u.1 item l PastNextUpdate u.4 h
no_reason_among r name keys item l (CriticalOfList k) u h = no_reason r name u.1 item l (CriticalOfList k) u.4 h
no_reason_among r name keys item l (CriticalOfEntry k) u h = no_reason r name u.1 item l (CriticalOfEntry k) u.4 h

pub not_unused_among : (r : JudgingContext) (name : List ℕ) (keys : List (List ℕ)) (item : Item) (l : RevocationList) → item.class ≡ list l → name_octets l.issuer ≡ name → ((reason : Unused) → HasReasonAmong r keys item l reason → ⊥) → (Any (λ key. IsUsedList r name key item l) keys → ⊥) → ⊥
not_unused_among r name keys item l is named none refuted =
    none NotVouched
    (λ k d lt v. not_unused r name (get_or keys k d) item l is named (keyed r keys item l (get_or keys k d) v none) (λ u. refuted (k, get_or keys k d, lt, get_or_default keys k (get_or keys k d) d lt, u)))

module _ (moment : DateTime) (demand : Bool) (V : Vouching) (vouched : Bool) (keys : List (List ℕ)) where
  pub among_iff : (item : Item) (l : RevocationList) → (IsTrue vouched ↔ Any (λ key. V.Vouches key item.octets) keys) → (reason : Unused) → HasListReason (rules_by moment false (vouching_alone (λ k i. IsTrue vouched))) [] item l reason ↔ HasReasonAmong (rules_by moment demand V) keys item l reason
  among_iff item l is NotVouched = (
    λ n k d lt v. n (is.1 (k, get_or keys k d, lt, get_or_default keys k (get_or keys k d) d lt, v)),
    λ all t. let u = is.0 t in all u.0 u.1 u.2 (subst (λ key. V.Vouches key item.octets) (sym u.3) u.4),
  )
  among_iff item l is NoNextUpdate = (λ h. h, λ h. h)
  among_iff item l is NotYetCurrent = (λ h. h, λ h. h)
  among_iff item l is PastNextUpdate = (λ h. h, λ h. h)
  among_iff item l is (CriticalOfList k) = (λ h. h, λ h. h)
  among_iff item l is (CriticalOfEntry k) = (λ h. h, λ h. h)

  pub used_among_iff : (x : ListItem) → (IsTrue vouched ↔ Any (λ key. V.Vouches key x.octets.now) keys)
      → (IsTrue vouched × IsCurrent (time_view moment) (list_of x) × IsPlain (list_of x)) ↔ Any (λ key. IsUsedList (rules_by moment demand V) x.issuer.now key (list_item x) (list_of x)) keys
  used_among_iff x is = (
    λ h. let u = is.0 h.0 in (u.0, u.1, u.2, u.3, record { is_list = refl; issuer = sym x.issuer_is; vouched = u.4; current = h.1; plain = h.2 }),
    λ a. (is.1 (a.0, a.1, a.2, a.3, a.4.vouched), a.4.current, a.4.plain),
  )
