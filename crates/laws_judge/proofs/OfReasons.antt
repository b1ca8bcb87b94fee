-- Reasons, and none, at worked cases.
use Rattle.std.proofs.Common.{◌≡◌, ◌∙◌, ap, sym, subst, refl, zero, suc, ℕ, ◌<◌, true, false, List, [], ◌∷◌, arith, inl, inr}
use Rattle.std.specs.Prelude.{Any, Contains, IsTrue}
use Rattle.std.proofs.Math.Dec.{lit<}
use Rattle.std.proofs.lemmas.List.Elements.{All-cons, All-nil}
use Rattle.cert_graph.specs.Entries.{IsAt}
use Rattle.cert_model.specs.Class.{list}
use Rattle.cert_model.specs.Examples.{authority_b, issued_by_b, new_year, plain, revoking}
use Rattle.cert_model.specs.Extended.{EachUnder}
use Rattle.cert_model.specs.Fields.{Entry, Extension, Identifier, Number, RevocationList}
use Rattle.cert_model.specs.Octets.{key_octets, name_octets}
use Rattle.cert_judge.specs.Examples.{in_june, numbered, path_length_zero, told_apart, too_late, vouching_for_both}
use Rattle.cert_judge.specs.ItemGraph.{IsIssuedUnder, KeyIdsAgree}
use Rattle.cert_judge.specs.Judging.{IsProcessed, IsUsable}
use Rattle.cert_judge.specs.LawsOfItems.{rules_from}
use Rattle.cert_judge.specs.Moments.{IsNotAfter}
use Rattle.cert_judge.specs.Revoking.{AreUncritical, IsSatisfied, IsUsedList, JudgingContext}
use Rattle.cert_judge.proofs.ExampleLists.{names_no_key}
use Rattle.cert_judge.proofs.Examples.{authority_is_fit, june_valid, none, one, processed_extension}
use Rattle.cert_reasons.specs.Certificates.{HasReason, order_of}
use Rattle.cert_reasons.specs.Links.{HasLinkReason, Revokes, link_order}
use Rattle.cert_reasons.specs.Lists.{HasListReason, HasReasonAmong, list_order}
use Rattle.cert_reasons.specs.Order.{AreAll}
use Rattle.cert_reasons.specs.declared.certificates.Unusable.TheVariants as unusable
use Rattle.cert_reasons.specs.declared.certificates.Unusable.{Unusable}
use Rattle.cert_reasons.specs.declared.links.Unlinked.TheVariants as linking
use Rattle.cert_reasons.specs.declared.links.Unlinked.{Unlinked}
use Rattle.cert_reasons.specs.declared.lists.Unused.TheVariants as listing
use Rattle.cert_reasons.specs.declared.lists.Unused.{Unused}
use Rattle.cert_reasons.proofs.OfLinks.{no_reason as no_reason_of_link}
use Rattle.cert_reasons.proofs.OfLists.{no_reason as no_reason_of_list, no_reason_among}
use Rattle.cert_reasons.proofs.Worked.{one_reason}
use Rattle.laws_judge.specs.Worked.{is_purpose, numbered_list, purposed}
use Rattle.laws_judge.proofs.OfPaths.{no_list_apart}

abbrev both : JudgingContext
both = rules_from in_june false (vouching_for_both 1 2)

-- ---- certificates

-- a critical extKeyUsage, where a test processes it
pub usable_by_test : IsUsable (λ identifier. IsTrue (is_purpose identifier)) in_june purposed
unfolding IsProcessed
usable_by_test = record {
  valid = processed_extension.valid;
  extensions = record {
    distinct = processed_extension.extensions.distinct;
    processed = one (IsProcessed (λ identifier. IsTrue (is_purpose identifier))) (record { identifier = 0x55 ∷ 0x1d ∷ 0x25 ∷ []; critical = true; value = 0x30 ∷ 0x00 ∷ [] }) (λ c. inr refl);
    constraints = processed_extension.extensions.constraints;
    usage = processed_extension.extensions.usage;
  };
}

pub usable_authority : IsUsable (λ identifier. ⊥) in_june authority_b
usable_authority = authority_is_fit.usable

late : IsNotAfter too_late (new_year 2026) → ⊥
late h = elim h [
  | inl less ↦ omega arith
  | inr same ↦ let past = same.1 in cc
]

begun : IsNotAfter (new_year 2025) too_late
begun = inl (omega arith)

module _ (P : Identifier → Type 0) where
  expired_only : (r : Unusable) → HasReason P too_late plain r → unusable.Expired ≡ r
  expired_only unusable.NotYetValid h = absurd (h begun)
  expired_only unusable.Expired h = refl
  expired_only (unusable.Repeats k) h = absurd (omega (arith, h.0))
  expired_only (unusable.Unprocessed k) h = absurd (omega (arith, h.0))
  expired_only (unusable.BadConstraints k) h = absurd (omega (arith, h.0))
  expired_only (unusable.BadUsage k) h = absurd (omega (arith, h.0))

  pub expired : AreAll order_of (HasReason P too_late plain) (unusable.Expired ∷ [])
  expired = one_reason order_of (HasReason P too_late plain) unusable.Expired late expired_only

-- ---- lists

abbrev entry : Entry
entry = record { serial = 1 ∷ []; date = new_year 2025; extensions = [] }

pub used : (key : List ℕ) → IsUsedList both (name_octets revoking.issuer) key (numbered_list 2) revoking
used key = record {
  is_list = refl;
  issuer = refl;
  vouched = refl;
  current = record { next = new_year 2026; told = refl; between = june_valid };
  plain = record { extensions = none (λ x. x.critical ≡ false); entries = one (λ (n : Entry). AreUncritical n.extensions) entry (none (λ x. x.critical ≡ false)) };
}

pub used_by_one : (key other : List ℕ) → Any (λ k. IsUsedList both (name_octets revoking.issuer) k (numbered_list 2) revoking) (key ∷ other ∷ [])
used_by_one key other = (1, other, lit< tt, refl, used other)

pub no_list_reason : (key : List ℕ) (reason : Unused) → HasListReason both key (numbered_list 2) revoking reason → ⊥
no_list_reason key reason h = no_reason_of_list both (name_octets revoking.issuer) key (numbered_list 2) revoking reason (used key) h

pub no_reason_in_keys : (key other : List ℕ) (reason : Unused) → HasReasonAmong both (key ∷ other ∷ []) (numbered_list 2) revoking reason → ⊥
no_reason_in_keys key other reason h = no_reason_among both (name_octets revoking.issuer) (key ∷ other ∷ []) (numbered_list 2) revoking reason (used_by_one key other) h

-- no key vouches for the item of the octet 3
unvouched : (key : List ℕ) → IsTrue (vouching_for_both 1 2 key (3 ∷ [])) → ⊥
unvouched key v = cc

unvouched_only : (key : List ℕ) (reason : Unused) → HasListReason both key (numbered_list 3) revoking reason → listing.NotVouched ≡ reason
unvouched_only key listing.NotVouched h = refl
unvouched_only key listing.NoNextUpdate h = absurd (no_list_reason key listing.NoNextUpdate h)
unvouched_only key listing.NotYetCurrent h = absurd (no_list_reason key listing.NotYetCurrent h)
unvouched_only key listing.PastNextUpdate h = absurd (no_list_reason key listing.PastNextUpdate h)
unvouched_only key (listing.CriticalOfList k) h = absurd (no_list_reason key (listing.CriticalOfList k) h)
unvouched_only key (listing.CriticalOfEntry k) h = absurd (no_list_reason key (listing.CriticalOfEntry k) h)

pub list_reasons : (key : List ℕ) → AreAll list_order (HasListReason both key (numbered_list 3) revoking) (listing.NotVouched ∷ [])
list_reasons key = one_reason list_order (HasListReason both key (numbered_list 3) revoking) listing.NotVouched (unvouched key) (unvouched_only key)

among_only : (key other : List ℕ) (reason : Unused) → HasReasonAmong both (key ∷ other ∷ []) (numbered_list 3) revoking reason → listing.NotVouched ≡ reason
among_only key other listing.NotVouched h = refl
among_only key other listing.NoNextUpdate h = absurd (no_list_reason [] listing.NoNextUpdate h)
among_only key other listing.NotYetCurrent h = absurd (no_list_reason [] listing.NotYetCurrent h)
among_only key other listing.PastNextUpdate h = absurd (no_list_reason [] listing.PastNextUpdate h)
among_only key other (listing.CriticalOfList k) h = absurd (no_list_reason [] (listing.CriticalOfList k) h)
among_only key other (listing.CriticalOfEntry k) h = absurd (no_list_reason [] (listing.CriticalOfEntry k) h)

pub reasons_among : (key other : List ℕ) → AreAll list_order (HasReasonAmong both (key ∷ other ∷ []) (numbered_list 3) revoking) (listing.NotVouched ∷ [])
reasons_among key other =
    let P : List ℕ → Type 0 = λ k. IsTrue (vouching_for_both 1 2 k (3 ∷ [])) → ⊥ in
    one_reason list_order (HasReasonAmong both (key ∷ other ∷ []) (numbered_list 3) revoking) listing.NotVouched (All-cons P key (other ∷ []) (unvouched key) (All-cons P other [] (unvouched other) (All-nil P))) (among_only key other)

-- ---- links

satisfied : (name key : List ℕ) (serial : Number) → IsSatisfied both told_apart name key serial
satisfied name key serial = record { kept = λ r. no_list_apart r.0 r.1 r.2 r.3.is_list; listed = λ d. absurd cc }

pub issued : IsIssuedUnder both told_apart (numbered 1 issued_by_b) issued_by_b (name_octets authority_b.subject) (key_octets authority_b.key)
issued = record { issuer = refl; vouched = refl; satisfied = satisfied _ _ _ }

pub no_link_reason : (Agree : Type 0) → Agree → (reason : Unlinked) → HasLinkReason both told_apart (numbered 1 issued_by_b) issued_by_b (name_octets authority_b.subject) (key_octets authority_b.key) Agree reason → ⊥
no_link_reason Agree agree reason h =
    no_reason_of_link both told_apart (numbered 1 issued_by_b) issued_by_b (name_octets authority_b.subject) (key_octets authority_b.key) Agree reason issued agree h

module _ (Agree : Type 0) (agree : Agree) where
  link_only : (reason : Unlinked) → HasLinkReason both told_apart (numbered 3 issued_by_b) issued_by_b (name_octets authority_b.subject) (key_octets authority_b.key) Agree reason → linking.NotVouched ≡ reason
  link_only linking.NotVouched h = refl
  link_only linking.KeyIdsDiffer h = absurd (no_link_reason Agree agree linking.KeyIdsDiffer h)
  link_only (linking.RevokedBy p) h = absurd (no_link_reason Agree agree (linking.RevokedBy p) h)
  link_only linking.NoUsedList h = absurd (no_link_reason Agree agree linking.NoUsedList h)

  pub link_reasons : AreAll link_order (HasLinkReason both told_apart (numbered 3 issued_by_b) issued_by_b (name_octets authority_b.subject) (key_octets authority_b.key) Agree) (linking.NotVouched ∷ [])
  link_reasons =
      one_reason link_order (HasLinkReason both told_apart (numbered 3 issued_by_b) issued_by_b (name_octets authority_b.subject) (key_octets authority_b.key) Agree) linking.NotVouched (unvouched (key_octets authority_b.key)) link_only
