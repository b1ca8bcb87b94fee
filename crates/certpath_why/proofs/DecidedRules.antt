-- What the definitions of judging say of certificates, lists and links holds if it isn't
-- refuted.
use Rattle.std.proofs.Common.{◌≡◌, ◌∙◌, sym, subst, refl, ℕ, ℤ, ◌<ℤ◌, ◌≤ℤ◌, Bool, false, List, get_or, arith, Option, Some, None, int_eq, inl, inr}
use Rattle.std.proofs.lemmas.Bool.Decides.{Decides-int_eq}
use Rattle.std.proofs.lemmas.Int.{by_lt_z, ints}
use Rattle.cert_model.specs.Class.{Class, certificate, list, other}
use Rattle.cert_model.specs.Extended.{EachUnder, IsWithout, SomeUnder, basic_constraints, key_usage}
use Rattle.cert_model.specs.Fields.{Certificate, CivilTime, Entry, Extension, Identifier, RevocationList}
use Rattle.cert_model.specs.Octets.{name_octets}
use Rattle.cert_model.specs.Range.{is_at_most}
use Rattle.cert_judge.specs.ItemGraph.{IsIssuedUnder, KeyIdsAgree}
use Rattle.cert_judge.specs.Judging.{IsAuthority, IsProcessed, IsUsable, MayIssue}
use Rattle.cert_judge.specs.LawsOfItems.{rules_from}
use Rattle.cert_judge.specs.Moments.{IsBetween, IsNotAfter, within_year}
use Rattle.cert_judge.specs.Revoking.{AreUncritical, HasUsedList, IsCurrent, IsPlain, IsUsedList, Item, JudgingContext}
use Rattle.certpath_why.specs.LawsOfLines.{IsDecided}
use Rattle.certpath_why.proofs.Deciding.{Decided, by_test, decided_all, decided_any, decided_as, decided_false, decided_same, decided_true, either, from_both, implied, settled}
use Rattle.certpath_why.proofs.DecidedValues.{authority_or_not, constraints_or_not, signer_or_not, usage_or_not}

-- ---- moments

not_both : (a b : ℤ) → a <ℤ b → b ≤ℤ a → ⊥
not_both a b less most = omega (arith, ints)

year_decided : (a b : ℤ) → Decided (a ≡ b)
year_decided a b = let d = Decides-int_eq a b in by_test (int_eq a b) (a ≡ b) d.0 d.1

not_after_or_not : (t u : CivilTime) → Decided (IsNotAfter t u)
not_after_or_not t u =
    by_lt_z {P = Decided (IsNotAfter t u)} t.year u.year (λ less. inl (inl less)) (λ most. elim (year_decided t.year u.year) [
      | inl same ↦ elim (decided_true (is_at_most (within_year t) (within_year u))) [
        | inl within ↦ inl (inr (same, within))
        | inr never ↦ inr (λ h. elim h [ inl less ↦ not_both t.year u.year less most | inr p ↦ never p.1 ])
      ]
      | inr never ↦ inr (λ h. elim h [ inl less ↦ not_both t.year u.year less most | inr p ↦ never p.0 ])
    ])

between_or_not : (a t b : CivilTime) → Decided (IsBetween a t b)
between_or_not a t b = from_both (IsBetween a t b) (λ i. i.begun) (λ i. i.lasts) (λ x y. record { begun = x; lasts = y }) (not_after_or_not a t) (not_after_or_not t b)

-- ---- certificates

processed_or_not : (P : Identifier → Type 0) → ((identifier : Identifier) → Decided (P identifier)) → (e : Extension) → Decided (IsProcessed P e)
unfolding IsProcessed
processed_or_not P test e = implied e.critical (either (either (decided_same e.identifier basic_constraints) (decided_same e.identifier key_usage)) (test e.identifier))

pub usable_stands : (P : Identifier → Type 0) → ((identifier : Identifier) → Decided (P identifier)) → (moment : CivilTime) (c : Certificate) → ((IsUsable P moment c → ⊥) → ⊥) → IsUsable P moment c
unfolding EachUnder
usable_stands P test moment c refuted =
    let es = c.extensions in
    record {
      valid = record {
        begun = settled (not_after_or_not c.not_before moment) (λ never. refuted (λ u. never u.valid.begun));
        lasts = settled (not_after_or_not moment c.not_after) (λ never. refuted (λ u. never u.valid.lasts));
      };
      extensions = record {
        distinct = λ i j d lt end same. refuted (λ u. u.extensions.distinct i j d lt end same);
        processed = λ k d lt. settled (processed_or_not P test (get_or es k d)) (λ never. refuted (λ u. never (u.extensions.processed k d lt)));
        constraints = λ k d lt is. settled (constraints_or_not (get_or es k d).value) (λ never. refuted (λ u. never (u.extensions.constraints k d lt is)));
        usage = λ k d lt is. settled (usage_or_not (get_or es k d).value) (λ never. refuted (λ u. never (u.extensions.usage k d lt is)));
      };
    }

under_or_not : (id : Identifier) (P : List ℕ → Type 0) → ((value : List ℕ) → Decided (P value)) → (e : Extension) → Decided ((e.identifier ≡ id) × P e.value)
under_or_not id P test e = from_both ((e.identifier ≡ id) × P e.value) (λ p. p.0) (λ p. p.1) (λ a b. (a, b)) (decided_same e.identifier id) (test e.value)

some_under_or_not : (id : Identifier) (P : List ℕ → Type 0) → ((value : List ℕ) → Decided (P value)) → (es : List Extension) → Decided (SomeUnder id P es)
unfolding SomeUnder
some_under_or_not id P test es =
    decided_as (SomeUnder id P es) (decided_any (λ (e : Extension). (e.identifier ≡ id) × P e.value) (under_or_not id P test) es)
    (λ h. (h.0, h.1, h.2.0, h.2.1)) (λ h. (h.0, h.1, (h.2, h.3)))

pub may_issue_stands : (es : List Extension) → ((MayIssue es → ⊥) → ⊥) → MayIssue es
unfolding EachUnder IsWithout
may_issue_stands es refuted = record {
  authority = settled (some_under_or_not basic_constraints IsAuthority authority_or_not es) (λ never. refuted (λ m. never m.authority));
  signer = λ k d lt is. settled (signer_or_not (get_or es k d).value) (λ never. refuted (λ m. never (m.signer k d lt is)));
  no_name_constraints = λ k d lt is. refuted (λ m. m.no_name_constraints k d lt is);
  no_policy_constraints = λ k d lt is. refuted (λ m. m.no_policy_constraints k d lt is);
}

-- ---- lists

uncritical_or_not : (es : List Extension) → Decided (AreUncritical es)
uncritical_or_not es = decided_all (λ (e : Extension). e.critical ≡ false) (λ e. decided_false e.critical) es

plain_or_not : (l : RevocationList) → Decided (IsPlain l)
plain_or_not l =
    from_both (IsPlain l) (λ p. p.extensions) (λ p. p.entries) (λ a b. record { extensions = a; entries = b })
    (uncritical_or_not l.extensions) (decided_all (λ (n : Entry). AreUncritical n.extensions) (λ n. uncritical_or_not n.extensions) l.entries)

no_next : {t : CivilTime} → None ≡ Some t → ⊥
no_next e = cc

one_next : {s t : CivilTime} → Some s ≡ Some t → s ≡ t
one_next e = cc

current_by : (moment : CivilTime) (l : RevocationList) (next : Option CivilTime) → l.next_update ≡ next → Decided (IsCurrent moment l)
current_by moment l None told = inr (λ h. no_next (sym told ∙ h.told))
current_by moment l (Some t) told = elim (between_or_not l.this_update moment t) [
  | inl b ↦ inl (record { next = t; told = told; between = b })
  | inr never ↦ inr (λ h. never (subst (λ (s : CivilTime). IsBetween l.this_update moment s) (one_next (sym h.told ∙ told)) h.between))
]

no_certificate : {c : Certificate} {l : RevocationList} → certificate c ≡ list l → ⊥
no_certificate e = cc

no_other : {l : RevocationList} → other ≡ list l → ⊥
no_other e = cc

one_list : {l m : RevocationList} → list l ≡ list m → l ≡ m
one_list e = cc

pub tests_decide : (moment : CivilTime) (demand : Bool) (vouches : List ℕ → List ℕ → Bool) → IsDecided (rules_from moment demand vouches)
tests_decide moment demand vouches = record { vouched = λ key item. decided_true (vouches key item); processed = λ item identifier. inr (λ p. p) }

module _ (r : JudgingContext) (answers : IsDecided r) where
  used_or_not : (name key : List ℕ) (x : Item) (l : RevocationList) → x.class ≡ list l → Decided (IsUsedList r name key x l)
  used_or_not name key x l is = elim (decided_same (name_octets l.issuer) name) [
    | inl named ↦ elim (answers.vouched key x.octets) [
      | inl vouched ↦ elim (current_by r.moment l l.next_update refl) [
        | inl current ↦ elim (plain_or_not l) [
          | inl plain ↦ inl (record { is_list = is; issuer = named; vouched = vouched; current = current; plain = plain })
          | inr never ↦ inr (λ u. never u.plain)
        ]
        | inr never ↦ inr (λ u. never u.current)
      ]
      | inr never ↦ inr (λ u. never u.vouched)
    ]
    | inr never ↦ inr (λ u. never u.issuer)
  ]

  used_by : (name key : List ℕ) (x : Item) (k : Class) → x.class ≡ k → Decided ((l : RevocationList) × IsUsedList r name key x l)
  used_by name key x (certificate c) is = inr (λ h. no_certificate (sym is ∙ h.1.is_list))
  used_by name key x other is = inr (λ h. no_other (sym is ∙ h.1.is_list))
  used_by name key x (list l) is = elim (used_or_not name key x l is) [
    | inl u ↦ inl (l, u)
    | inr never ↦ inr (λ h. never (subst (IsUsedList r name key x) (one_list (sym h.1.is_list ∙ is)) h.1))
  ]

  has_used_or_not : (items : List Item) (name key : List ℕ) → Decided (HasUsedList r items name key)
  has_used_or_not items name key =
      decided_as (HasUsedList r items name key) (decided_any (λ (x : Item). (l : RevocationList) × IsUsedList r name key x l) (λ x. used_by name key x x.class refl) items)
      (λ h. (h.0, h.2.0, h.1, h.2.1)) (λ h. (h.0, h.2, (h.1, h.3)))

  -- ---- links

  pub issued_stands : (items : List Item) (x : Item) (c : Certificate) (name key : List ℕ) → ((IsIssuedUnder r items x c name key → ⊥) → ⊥) → IsIssuedUnder r items x c name key
  issued_stands items x c name key refuted = record {
    issuer = settled (decided_same (name_octets c.issuer) name) (λ never. refuted (λ i. never i.issuer));
    vouched = settled (answers.vouched key x.octets) (λ never. refuted (λ i. never i.vouched));
    satisfied = record {
      kept = λ revoked. refuted (λ i. i.satisfied.kept revoked);
      listed = λ demanded. settled (has_used_or_not items name key) (λ never. refuted (λ i. never (i.satisfied.listed demanded)));
    };
  }

pub agree_stands : (c d : Certificate) → ((KeyIdsAgree c d → ⊥) → ⊥) → KeyIdsAgree c d
agree_stands c d refuted = λ a s names has. settled (decided_same a s) (λ never. refuted (λ agree. never (agree a s names has)))
