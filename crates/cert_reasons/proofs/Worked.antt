-- The definitions at examples.
use Rattle.std.specs.Prelude.{◌⊎◌}
use Rattle.std.proofs.Common.{◌≡◌, ap, sym, subst, refl, zero, suc, ℕ, ◌<◌, true, false, Some, None, List, [], ◌∷◌, arith, get_or, inl, inr, lit<}
use Rattle.std.specs.List.{Contains}
use Rattle.cert_graph.specs.Entries.{IsAt}
use Rattle.cert_model.specs.Fields.{Entry, Extension, Certificate}
use Rattle.cert_model.specs.Octets.{name_octets, key_octets, list_octets}
use Rattle.cert_model.specs.Extended.{basic_constraints, key_usage, name_constraints, policy_constraints, EachUnder, SomeUnder}
use Rattle.cert_model.specs.Examples.{key, new_year, plain, revoking}
use Rattle.cert_judge.specs.Moments.{IsNotAfter}
use Rattle.cert_judge.specs.Constraints.{BasicConstraints, basic_constraints_octets, IsBasicConstraints}
use Rattle.cert_judge.specs.Further.{no_identifier}
use Rattle.cert_judge.specs.Judging.{HasConstraints, HasUsage, IsProcessed, IsAuthority, IsSigner}
use Rattle.cert_judge.specs.Revoking.{Item, JudgingContext, AreUncritical, IsUsedList}
use Rattle.cert_judge.specs.Examples.{in_june, too_late, extended_by, extension, unconstrained, default_written, extended_key_usage, path_length_zero, certificate_item, list_item, vouching_for_all, vouching_but_for}
use Rattle.cert_judge.proofs.Examples.{none, one, june_valid, alone_distinct, default_is_written}
use Rattle.cert_judge.proofs.ExampleLists.{no_list}
use Rattle.cert_reasons.specs.declared.certificates.Unusable.{Unusable}
use Rattle.cert_reasons.specs.declared.certificates.Unusable.TheVariants as unusable
use Rattle.cert_reasons.specs.declared.issuers.NoIssuer.{NoIssuer}
use Rattle.cert_reasons.specs.declared.issuers.NoIssuer.TheVariants as issuing
use Rattle.cert_reasons.specs.declared.lists.Unused.{Unused}
use Rattle.cert_reasons.specs.declared.lists.Unused.TheVariants as listing
use Rattle.cert_reasons.specs.declared.links.Unlinked.{Unlinked}
use Rattle.cert_reasons.specs.declared.links.Unlinked.TheVariants as linking
use Rattle.cert_reasons.specs.Order.{IsBefore, AreAll}
use Rattle.cert_reasons.specs.Certificates.{IsRepeat, HasReason, order_of}
use Rattle.cert_reasons.specs.Issuers.{HasIssuerReason, issuer_order}
use Rattle.cert_reasons.specs.Lists.{HasListReason, HasReasonAmong, list_order}
use Rattle.cert_reasons.specs.Links.{Revokes, HasLinkReason, link_order}
use Rattle.cert_reasons.specs.Examples.{constrained_twice, authority_with_names, vouching_too_late, vouching_for_none}

-- ---- lists of one and two reasons

one_at : {R : Type 0} (x r : R) → Contains (x ∷ []) r → x ≡ r
one_at x r (zero, lt, is) = is
one_at x r (suc k, lt, is) = absurd (omega (arith, lt))

pub one_reason : {R : Type 0} (order : R → ℕ × ℕ) (S : R → Type 0) (x : R) → S x → ((r : R) → S r → x ≡ r) → AreAll order S (x ∷ [])
one_reason order S x here only = record {
  exact = λ r. (λ at. subst S (one_at x r at) here, λ s. (0, lit< tt, only r s));
  ordered = λ i j d lt end. absurd (omega arith);
}

two_at : {R : Type 0} (x y r : R) → Contains (x ∷ y ∷ []) r → (x ≡ r) ⊎ (y ≡ r)
two_at x y r (zero, lt, is) = inl is
two_at x y r (suc zero, lt, is) = inr is
two_at x y r (suc (suc k), lt, is) = absurd (omega (arith, lt))

two_ordered : {R : Type 0} (Q : R → R → Type 0) (x y : R) → Q x y → (i j : ℕ) (d : R) → i < j → j < 2 → Q (get_or (x ∷ y ∷ []) i d) (get_or (x ∷ y ∷ []) j d)
two_ordered Q x y q zero (suc zero) d lt end = q
two_ordered Q x y q zero zero d lt end = absurd (omega arith)
two_ordered Q x y q (suc i) zero d lt end = absurd (omega arith)
two_ordered Q x y q (suc i) (suc j) d lt end = absurd (omega arith)
two_ordered Q x y q zero (suc (suc j)) d lt end = absurd (omega arith)

two_reasons : {R : Type 0} (order : R → ℕ × ℕ) (S : R → Type 0) (x y : R) → IsBefore (order x) (order y) → S x → S y → ((r : R) → S r → (x ≡ r) ⊎ (y ≡ r)) → AreAll order S (x ∷ y ∷ [])
two_reasons order S x y before here there only = record {
  exact = λ r. (
    λ at. elim (two_at x y r at) [ inl e ↦ subst S e here | inr e ↦ subst S e there ],
    λ s. elim (only r s) [ inl e ↦ (0, lit< tt, e) | inr e ↦ (1, lit< tt, e) ],
  );
  ordered = two_ordered (λ r s. IsBefore (order r) (order s)) x y before;
}

-- ---- identifiers

basic_not_usage : basic_constraints ≡ key_usage → ⊥
basic_not_usage same = cc

names_not_usage : name_constraints ≡ key_usage → ⊥
names_not_usage same = cc

basic_not_names : basic_constraints ≡ name_constraints → ⊥
basic_not_names same = cc

basic_not_policy : basic_constraints ≡ policy_constraints → ⊥
basic_not_policy same = cc

names_not_policy : name_constraints ≡ policy_constraints → ⊥
names_not_policy same = cc

purpose_not_basic : extended_key_usage ≡ basic_constraints → ⊥
purpose_not_basic same = cc

purpose_not_usage : extended_key_usage ≡ key_usage → ⊥
purpose_not_usage same = cc

-- ---- certificates

late : IsNotAfter too_late (new_year 2026) → ⊥
late h = elim h [
  | inl less ↦ omega arith
  | inr same ↦ let past = same.1 in cc
]

begun : IsNotAfter (new_year 2025) too_late
begun = inl (omega arith)

expired_only : (r : Unusable) → HasReason no_identifier too_late plain r → unusable.Expired ≡ r
expired_only unusable.NotYetValid h = absurd (h begun)
expired_only unusable.Expired h = refl
expired_only (unusable.Repeats k) h = absurd (omega (arith, h.0))
expired_only (unusable.Unprocessed k) h = absurd (omega (arith, h.0))
expired_only (unusable.BadConstraints k) h = absurd (omega (arith, h.0))
expired_only (unusable.BadUsage k) h = absurd (omega (arith, h.0))

pub expired : AreAll order_of (HasReason no_identifier too_late plain) (unusable.Expired ∷ [])
expired = one_reason order_of (HasReason no_identifier too_late plain) unusable.Expired late expired_only

abbrev nothing_said : BasicConstraints
nothing_said = record { ca = false; path_len = None }

well_written : HasConstraints unconstrained
unfolding basic_constraints_octets
well_written = (nothing_said, record { in_range = tt; spelled = refl })

abbrev e : Extension
e = extension basic_constraints false unconstrained

uncritical : IsProcessed no_identifier e
unfolding IsProcessed
uncritical = λ c. absurd (cc)

second : (k : ℕ) → IsRepeat constrained_twice.extensions k → k ≡ 1
second zero h = let a = h.1 e in absurd (omega (arith, a.2))
second (suc zero) h = refl
second (suc (suc k)) h = absurd (omega (arith, h.0))

of_both : (P : Extension → Type 0) (k : ℕ) → IsAt constrained_twice.extensions k P → P e
of_both P zero h = h.1 e
of_both P (suc zero) h = h.1 e
of_both P (suc (suc k)) h = absurd (omega (arith, h.0))

both_processed : (k : ℕ) → IsAt constrained_twice.extensions k (λ x. IsProcessed no_identifier x → ⊥) → ⊥
both_processed k h = of_both (λ x. IsProcessed no_identifier x → ⊥) k h uncritical

both_written : (k : ℕ) → IsAt constrained_twice.extensions k (λ x. (x.identifier ≡ basic_constraints) × (HasConstraints x.value → ⊥)) → ⊥
both_written k h = let u = of_both (λ x. (x.identifier ≡ basic_constraints) × (HasConstraints x.value → ⊥)) k h in u.1 well_written

no_usage : (k : ℕ) → IsAt constrained_twice.extensions k (λ x. (x.identifier ≡ key_usage) × (HasUsage x.value → ⊥)) → ⊥
no_usage k h = let u = of_both (λ x. (x.identifier ≡ key_usage) × (HasUsage x.value → ⊥)) k h in basic_not_usage u.0

repeated_only : (r : Unusable) → HasReason no_identifier too_late constrained_twice r → (unusable.Expired ≡ r) ⊎ (unusable.Repeats 1 ≡ r)
repeated_only unusable.NotYetValid h = absurd (h begun)
repeated_only unusable.Expired h = inl refl
repeated_only (unusable.Repeats k) h = inr (ap unusable.Repeats (sym (second k h)))
repeated_only (unusable.Unprocessed k) h = absurd (both_processed k h)
repeated_only (unusable.BadConstraints k) h = absurd (both_written k h)
repeated_only (unusable.BadUsage k) h = absurd (no_usage k h)

-- two reasons at once: the moment, and the second of two equal extensions
pub expired_and_repeated : AreAll order_of (HasReason no_identifier too_late constrained_twice) (unusable.Expired ∷ unusable.Repeats 1 ∷ [])
expired_and_repeated =
    two_reasons order_of (HasReason no_identifier too_late constrained_twice) unusable.Expired (unusable.Repeats 1) (inl (lit< tt)) late (lit< tt, λ d. (0, e, lit< tt, refl, refl)) repeated_only

of_one : (x : Extension) (P : Extension → Type 0) (k : ℕ) → IsAt (x ∷ []) k P → P x
of_one x P zero h = h.1 x
of_one x P (suc k) h = absurd (omega (arith, h.0))

first_of_one : (x : Extension) (P : Extension → Type 0) (k : ℕ) → IsAt (x ∷ []) k P → k ≡ 0
first_of_one x P zero h = refl
first_of_one x P (suc k) h = absurd (omega (arith, h.0))

abbrev unknown : Extension
unknown = extension extended_key_usage true unconstrained

not_processed : IsProcessed no_identifier unknown → ⊥
unfolding IsProcessed
not_processed p = elim (p refl) [ inl here ↦ elim here [ inl same ↦ cc | inr same ↦ cc ] | inr more ↦ more ]

unprocessed_only : (r : Unusable) → HasReason no_identifier in_june (extended_by (unknown ∷ [])) r → unusable.Unprocessed 0 ≡ r
unprocessed_only unusable.NotYetValid h = absurd (h june_valid.begun)
unprocessed_only unusable.Expired h = absurd (h june_valid.lasts)
unprocessed_only (unusable.Repeats zero) h = let a = h.1 unknown in absurd (omega (arith, a.2))
unprocessed_only (unusable.Repeats (suc k)) h = absurd (omega (arith, h.0))
unprocessed_only (unusable.Unprocessed k) h = ap unusable.Unprocessed (sym (first_of_one unknown (λ x. IsProcessed no_identifier x → ⊥) k h))
unprocessed_only (unusable.BadConstraints k) h = let u = of_one unknown (λ x. (x.identifier ≡ basic_constraints) × (HasConstraints x.value → ⊥)) k h in absurd (purpose_not_basic u.0)
unprocessed_only (unusable.BadUsage k) h = let u = of_one unknown (λ x. (x.identifier ≡ key_usage) × (HasUsage x.value → ⊥)) k h in absurd (purpose_not_usage u.0)

pub unprocessed : AreAll order_of (HasReason no_identifier in_june (extended_by (unknown ∷ []))) (unusable.Unprocessed 0 ∷ [])
unprocessed = one_reason order_of (HasReason no_identifier in_june (extended_by (unknown ∷ []))) (unusable.Unprocessed 0) (lit< tt, λ d. not_processed) unprocessed_only

abbrev written : Extension
written = extension basic_constraints false default_written

written_uncritical : IsProcessed no_identifier written
unfolding IsProcessed
written_uncritical = λ c. absurd (cc)

not_written : HasConstraints default_written → ⊥
unfolding EachUnder
not_written b =
    default_is_written (record {
      valid = june_valid;
      extensions = record {
        distinct = alone_distinct written;
        processed = one (IsProcessed no_identifier) written written_uncritical;
        constraints = one (λ (x : Extension). x.identifier ≡ basic_constraints → HasConstraints x.value) written (λ same. b);
        usage = one (λ (x : Extension). x.identifier ≡ key_usage → HasUsage x.value) written (λ same. absurd (cc));
      };
    })

badly_only : (r : Unusable) → HasReason no_identifier in_june (extended_by (written ∷ [])) r → unusable.BadConstraints 0 ≡ r
badly_only unusable.NotYetValid h = absurd (h june_valid.begun)
badly_only unusable.Expired h = absurd (h june_valid.lasts)
badly_only (unusable.Repeats zero) h = let a = h.1 written in absurd (omega (arith, a.2))
badly_only (unusable.Repeats (suc k)) h = absurd (omega (arith, h.0))
badly_only (unusable.Unprocessed k) h = absurd (of_one written (λ x. IsProcessed no_identifier x → ⊥) k h written_uncritical)
badly_only (unusable.BadConstraints k) h = ap unusable.BadConstraints (sym (first_of_one written (λ x. (x.identifier ≡ basic_constraints) × (HasConstraints x.value → ⊥)) k h))
badly_only (unusable.BadUsage k) h = let u = of_one written (λ x. (x.identifier ≡ key_usage) × (HasUsage x.value → ⊥)) k h in absurd (basic_not_usage u.0)

-- the default written out is no DER (X.690, 11.5)
pub badly_written : AreAll order_of (HasReason no_identifier in_june (extended_by (written ∷ []))) (unusable.BadConstraints 0 ∷ [])
badly_written = one_reason order_of (HasReason no_identifier in_june (extended_by (written ∷ []))) (unusable.BadConstraints 0) (lit< tt, λ d. (refl, not_written)) badly_only

-- ---- issuers

no_authority : SomeUnder basic_constraints IsAuthority [] → ⊥
unfolding SomeUnder
no_authority h = absurd (omega (arith, h.1.1))

no_authority_only : (r : NoIssuer) → HasIssuerReason plain r → issuing.NoAuthority ≡ r
no_authority_only issuing.NoAuthority h = refl
no_authority_only (issuing.NoCertSigning k) h = absurd (omega (arith, h.0))
no_authority_only (issuing.NameConstraints k) h = absurd (omega (arith, h.0))
no_authority_only (issuing.PolicyConstraints k) h = absurd (omega (arith, h.0))

pub end_entity : AreAll issuer_order (HasIssuerReason plain) (issuing.NoAuthority ∷ [])
end_entity = one_reason issuer_order (HasIssuerReason plain) issuing.NoAuthority no_authority no_authority_only

abbrev zero_length : BasicConstraints
zero_length = record { ca = true; path_len = Some (0 ∷ []) }

authority_written : IsBasicConstraints path_length_zero.value zero_length
unfolding basic_constraints_octets
authority_written = record { in_range = record { number = record { shortest = refl; sign = refl }; small = lit< tt }; spelled = refl }

names_authority : SomeUnder basic_constraints IsAuthority authority_with_names.extensions
unfolding SomeUnder
names_authority = (path_length_zero, (0, lit< tt, refl), refl, (zero_length, authority_written, refl))

abbrev names : Extension
names = extension name_constraints false []

of_two : (P : Extension → Type 0) (k : ℕ) → IsAt authority_with_names.extensions k P → P path_length_zero ⊎ P names
of_two P zero h = inl (h.1 names)
of_two P (suc zero) h = inr (h.1 names)
of_two P (suc (suc k)) h = absurd (omega (arith, h.0))

no_key_usage : (k : ℕ) → IsAt authority_with_names.extensions k (λ x. (x.identifier ≡ key_usage) × (IsSigner x.value → ⊥)) → ⊥
no_key_usage k h = elim (of_two (λ x. (x.identifier ≡ key_usage) × (IsSigner x.value → ⊥)) k h) [ inl u ↦ basic_not_usage u.0 | inr u ↦ names_not_usage u.0 ]

no_policies : (k : ℕ) → IsAt authority_with_names.extensions k (λ x. x.identifier ≡ policy_constraints) → ⊥
no_policies k h = elim (of_two (λ x. x.identifier ≡ policy_constraints) k h) [ inl same ↦ basic_not_policy same | inr same ↦ names_not_policy same ]

names_second : (k : ℕ) → IsAt authority_with_names.extensions k (λ x. x.identifier ≡ name_constraints) → 1 ≡ k
names_second zero h = absurd (basic_not_names (h.1 names))
names_second (suc zero) h = refl
names_second (suc (suc k)) h = absurd (omega (arith, h.0))

names_only : (r : NoIssuer) → HasIssuerReason authority_with_names r → issuing.NameConstraints 1 ≡ r
names_only issuing.NoAuthority h = absurd (h names_authority)
names_only (issuing.NoCertSigning k) h = absurd (no_key_usage k h)
names_only (issuing.NameConstraints k) h = ap issuing.NameConstraints (names_second k h)
names_only (issuing.PolicyConstraints k) h = absurd (no_policies k h)

pub name_constraints_stand : AreAll issuer_order (HasIssuerReason authority_with_names) (issuing.NameConstraints 1 ∷ [])
name_constraints_stand = one_reason issuer_order (HasIssuerReason authority_with_names) (issuing.NameConstraints 1) (lit< tt, λ d. refl) names_only

-- ---- lists

abbrev entry : Entry
entry = record { serial = 1 ∷ []; date = new_year 2025; extensions = [] }

plain_entry : (k : ℕ) → IsAt revoking.entries k (λ n. AreUncritical n.extensions → ⊥) → ⊥
plain_entry zero h = h.1 entry (none (λ (x : Extension). x.critical ≡ false))
plain_entry (suc k) h = absurd (omega (arith, h.0))

unvouched_only : (r : Unused) → HasListReason (vouching_but_for (list_octets revoking)) (key_octets key) (list_item revoking) revoking r → listing.NotVouched ≡ r
unvouched_only listing.NotVouched h = refl
unvouched_only listing.NoNextUpdate h = absurd (cc)
unvouched_only listing.NotYetCurrent h = absurd (h june_valid.begun)
unvouched_only listing.PastNextUpdate h = let same : new_year 2026 ≡ h.0 = let o = h.1 in cc in absurd (h.2 (subst (IsNotAfter in_june) same june_valid.lasts))
unvouched_only (listing.CriticalOfList k) h = absurd (omega (arith, h.0))
unvouched_only (listing.CriticalOfEntry k) h = absurd (plain_entry k h)

pub unvouched : AreAll list_order (HasListReason (vouching_but_for (list_octets revoking)) (key_octets key) (list_item revoking) revoking) (listing.NotVouched ∷ [])
unvouched = one_reason list_order (HasListReason (vouching_but_for (list_octets revoking)) (key_octets key) (list_item revoking) revoking) listing.NotVouched (λ v. v refl) unvouched_only

past_only : (r : Unused) → HasListReason vouching_too_late (key_octets key) (list_item revoking) revoking r → listing.PastNextUpdate ≡ r
past_only listing.NotVouched h = absurd (h tt)
past_only listing.NoNextUpdate h = absurd (cc)
past_only listing.NotYetCurrent h = absurd (h begun)
past_only listing.PastNextUpdate h = refl
past_only (listing.CriticalOfList k) h = absurd (omega (arith, h.0))
past_only (listing.CriticalOfEntry k) h = absurd (plain_entry k h)

pub past : AreAll list_order (HasListReason vouching_too_late (key_octets key) (list_item revoking) revoking) (listing.PastNextUpdate ∷ [])
past = one_reason list_order (HasListReason vouching_too_late (key_octets key) (list_item revoking) revoking) listing.PastNextUpdate (new_year 2026, refl, late) past_only

none_among : (r : Unused) → HasReasonAmong (vouching_for_all false) (key_octets key ∷ []) (list_item revoking) revoking r → ⊥
none_among listing.NotVouched h = h 0 (key_octets key) (lit< tt) tt
none_among listing.NoNextUpdate h = cc
none_among listing.NotYetCurrent h = h june_valid.begun
none_among listing.PastNextUpdate h = let same : new_year 2026 ≡ h.0 = let o = h.1 in cc in h.2 (subst (IsNotAfter in_june) same june_valid.lasts)
none_among (listing.CriticalOfList k) h = absurd (omega (arith, h.0))
none_among (listing.CriticalOfEntry k) h = plain_entry k h

pub used_by_one : AreAll list_order (HasReasonAmong (vouching_for_all false) (key_octets key ∷ []) (list_item revoking) revoking) []
used_by_one = record { exact = λ r. (λ at. absurd (omega (arith, at.1)), λ h. absurd (none_among r h)); ordered = λ i j d lt end. absurd (omega arith) }

keyless_only : (r : Unused) → HasReasonAmong (vouching_for_all false) [] (list_item revoking) revoking r → listing.NotVouched ≡ r
keyless_only listing.NotVouched h = refl
keyless_only listing.NoNextUpdate h = absurd (cc)
keyless_only listing.NotYetCurrent h = absurd (h june_valid.begun)
keyless_only listing.PastNextUpdate h = let same : new_year 2026 ≡ h.0 = let o = h.1 in cc in absurd (h.2 (subst (IsNotAfter in_june) same june_valid.lasts))
keyless_only (listing.CriticalOfList k) h = absurd (omega (arith, h.0))
keyless_only (listing.CriticalOfEntry k) h = absurd (plain_entry k h)

-- a list of a name that nobody has
pub keyless : AreAll list_order (HasReasonAmong (vouching_for_all false) [] (list_item revoking) revoking) (listing.NotVouched ∷ [])
keyless = one_reason list_order (HasReasonAmong (vouching_for_all false) [] (list_item revoking) revoking) listing.NotVouched (none _) keyless_only

-- ---- links

used_list : IsUsedList (vouching_for_all false) (name_octets []) (key_octets key) (list_item revoking) revoking
used_list = record {
  is_list = refl;
  issuer = refl;
  vouched = tt;
  current = record { next = new_year 2026; told = refl; between = june_valid };
  plain = record { extensions = none (λ x. x.critical ≡ false); entries = one (λ (n : Entry). AreUncritical n.extensions) entry (none (λ x. x.critical ≡ false)) };
}

abbrev with_list : List Item
with_list = certificate_item plain ∷ list_item revoking ∷ []

revoked_only : (r : Unlinked) → HasLinkReason (vouching_for_all false) with_list (certificate_item plain) plain (name_octets []) (key_octets key) (Unit {0}) r → linking.RevokedBy 1 ≡ r
revoked_only linking.NotVouched h = absurd (h tt)
revoked_only linking.KeyIdsDiffer h = absurd (h tt)
revoked_only (linking.RevokedBy zero) h = let u = h.1 (certificate_item plain) in absurd (no_list (certificate_item plain) plain u.0 refl u.1.is_list)
revoked_only (linking.RevokedBy (suc zero)) h = refl
revoked_only (linking.RevokedBy (suc (suc k))) h = absurd (omega (arith, h.0))
revoked_only linking.NoUsedList h = let d = h.0 in absurd (cc)

pub revoked : AreAll link_order (HasLinkReason (vouching_for_all false) with_list (certificate_item plain) plain (name_octets []) (key_octets key) (Unit {0})) (linking.RevokedBy 1 ∷ [])
revoked =
    one_reason link_order (HasLinkReason (vouching_for_all false) with_list (certificate_item plain) plain (name_octets []) (key_octets key) (Unit {0})) (linking.RevokedBy 1) (lit< tt, λ d. (revoking, used_list, (0, entry, lit< tt, refl, refl))) revoked_only

alone_only : (r : Unlinked) → HasLinkReason vouching_for_none (certificate_item plain ∷ []) (certificate_item plain) plain (name_octets []) (key_octets key) (Unit {0}) r → (linking.NotVouched ≡ r) ⊎ (linking.NoUsedList ≡ r)
alone_only linking.NotVouched h = inl refl
alone_only linking.KeyIdsDiffer h = absurd (h tt)
alone_only (linking.RevokedBy zero) h = let u = h.1 (certificate_item plain) in absurd u.1.vouched
alone_only (linking.RevokedBy (suc k)) h = absurd (omega (arith, h.0))
alone_only linking.NoUsedList h = inr refl

-- two reasons at once: no voucher, and no list if lists are demanded
pub alone : AreAll link_order (HasLinkReason vouching_for_none (certificate_item plain ∷ []) (certificate_item plain) plain (name_octets []) (key_octets key) (Unit {0})) (linking.NotVouched ∷ linking.NoUsedList ∷ [])
alone =
    two_reasons link_order (HasLinkReason vouching_for_none (certificate_item plain ∷ []) (certificate_item plain) plain (name_octets []) (key_octets key) (Unit {0})) linking.NotVouched linking.NoUsedList (inl (lit< tt)) (λ v. v) (refl, λ u. u.3.vouched) alone_only

-- among certificates no list revokes
pub no_used : (r : JudgingContext) (c : Certificate) (name own serial : List ℕ) (k : ℕ) → IsAt (certificate_item c ∷ []) k (Revokes r name own serial) → ⊥
no_used r c name own serial zero h = let u = h.1 (certificate_item c) in no_list (certificate_item c) c u.0 refl u.1.is_list
no_used r c name own serial (suc k) h = omega (arith, h.0)
