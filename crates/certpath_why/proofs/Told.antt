-- Which certificates have a line of what is demanded, and that its words are a function of the extensions.
use Rattle.std.specs.Prelude.{◌↔◌, codes}
use Rattle.std.proofs.Common.{◌≡◌, ◌∙◌, ap, sym, subst, refl, ℕ, ◌^◌, ◌<◌, List, [], ◌∷◌, ◌++◌, length, Option, Some, None, inl, inr}
use Rattle.std.specs.List.{Contains}
use Rattle.std.proofs.lemmas.List.Elements.{Contains-append_right, Contains-append_left, Contains-push}
use Rattle.cert_model.specs.Fields.{Certificate, Extension, Identifier}
use Rattle.cert_judge.specs.Revoking.{Item}
use Rattle.cert_purpose.specs.Purposes.{extended_key_usage, IsOneUnder}
use Rattle.cert_purpose.proofs.Ones.{one_of_one, one_not_none, more_not_none, more_not_one}
use Rattle.cert_serving.specs.Demanding.{Meets}
use Rattle.cert_serving.specs.Serving.{subject_alt_name}
use Rattle.certpath_inputs.specs.Demands.{demanded}
use Rattle.certpath_inputs.specs.declared.demand.AskedHost.{AskedHost}
use Rattle.certpath_inputs.specs.declared.demand.AskedPurpose.{AskedPurpose}
use Rattle.certpath_inputs.specs.declared.demand.Demand.{Demand}
use Rattle.certpath_why.specs.Demanded.{IsPurposeLine, IsHostLine, IsLineUnless, AreUnmetLines, AreDemandLines}
use Rattle.certpath_why.specs.Hosts.{hosts_among, hosts_words, AreNamesWords, AreHostsWords}
use Rattle.certpath_why.specs.Laws.{AreShort}
use Rattle.certpath_why.specs.Listed.{listed}
use Rattle.certpath_why.specs.Uses.{purpose_text, ArePurposesWords, AreUsesWords}
use Rattle.cert_reasons.proofs.Once.{purposes_once, names_once}

-- ---- no line

front_none : (a b : List ℕ) → [] ≡ a ++ b → a ≡ []
front_none [] b e = refl
front_none (x ∷ a) b e = absurd (cc e)

back_none : (a b : List ℕ) → [] ≡ a ++ b → b ≡ []
back_none [] b e = sym e
back_none (x ∷ a) b e = absurd (cc e)

no_purpose_line : (v : ℕ) (o : Option AskedPurpose) (es : List Extension) → IsPurposeLine v o es [] → ⊥
no_purpose_line v None es h = h
no_purpose_line v (Some p) es h = let e = h.2 in cc

no_host_line : (v : ℕ) (o : Option AskedHost) (es : List Extension) → IsHostLine v o es [] → ⊥
no_host_line v None es h = h
no_host_line v (Some p) es h = let e = h.2 in cc

holds : (P : Type 0) (IsLine : List ℕ → Type 0) (text : List ℕ) → (IsLine [] → ⊥) → text ≡ [] → IsLineUnless P IsLine text → P
holds P IsLine text never e t = elim t [ inl p ↦ p.0 | inr n ↦ absurd (never (subst IsLine e n.1)) ]

unmet_none : (demand : Demand) (target : List ℕ) (v : ℕ) (x : Item) (c : Certificate) → AreUnmetLines demand target v x c [] ↔ Meets (demanded demand target) x.octets c.extensions
unmet_none demand target v x c = (
  λ t. record {
    purpose = holds _ (IsPurposeLine v demand.purpose c.extensions) t.purpose (no_purpose_line v demand.purpose c.extensions) (front_none t.purpose t.host t.text_is) t.purpose_is;
    host = holds _ (IsHostLine v demand.host c.extensions) t.host (no_host_line v demand.host c.extensions) (back_none t.purpose t.host t.text_is) t.host_is;
  },
  λ m. record { purpose = []; purpose_is = inl (m.purpose, refl); host = []; host_is = inl (m.host, refl); text_is = refl },
)

abbrev so : Option AskedPurpose → Option AskedHost → Demand
so p h = record { purpose = p; host = h }

none_by : (p : Option AskedPurpose) (h : Option AskedHost) (target : List ℕ) (v : ℕ) (x : Item) (c : Certificate) → AreDemandLines (so p h) target v x c [] ↔ Meets (demanded (so p h) target) x.octets c.extensions
none_by None None target v x c = (λ e. record { purpose = tt; host = λ same. tt }, λ m. refl)
none_by None (Some h) target v x c = unmet_none (so None (Some h)) target v x c
none_by (Some p) h target v x c = unmet_none (so (Some p) h) target v x c

pub none_met : (demand : Demand) (target : List ℕ) (v : ℕ) (x : Item) (c : Certificate) → AreDemandLines demand target v x c [] ↔ Meets (demanded demand target) x.octets c.extensions
none_met demand target v x c = none_by demand.purpose demand.host target v x c

-- ---- one text

one_short : (id : Identifier) (es : List Extension) (value : List ℕ) → AreShort es → IsOneUnder id es value → length value < 2 ^ 64
one_short id es value short o =
    let there : Contains (o.front ++ o.extension ∷ o.back) o.extension = Contains-append_right o.front (o.extension ∷ o.back) o.extension (Contains-append_left (o.extension ∷ []) o.back o.extension (Contains-push [] o.extension)) in
    subst (λ s. length s < 2 ^ 64) o.value_is (short o.extension (subst (λ l. Contains l o.extension) (sym o.place) there))

one_purposes_text : (value a b : List ℕ) → length value < 2 ^ 64 → ArePurposesWords value a → ArePurposesWords value b → a ≡ b
one_purposes_text value a b short s t = elim s [
  | inl x ↦ elim t [ inl y ↦ x.2 ∙ ap (λ ps. codes "it is for " ++ listed purpose_text ps) (purposes_once value x.0 y.0 short x.1 y.1) ∙ sym y.2 | inr y ↦ absurd (y.0 x.0 x.1) ]
  | inr x ↦ elim t [ inl y ↦ absurd (x.0 y.0 y.1) | inr y ↦ x.1 ∙ sym y.1 ]
]

pub one_uses_text : (es : List Extension) (a b : List ℕ) → AreShort es → AreUsesWords es a → AreUsesWords es b → a ≡ b
one_uses_text es a b short s t = elim s [
  | inl x ↦ elim t [
    | inl y ↦
        let same = one_of_one extended_key_usage es y.0 x.0 y.1 x.1 in
        one_purposes_text x.0 a b (one_short extended_key_usage es x.0 short x.1) x.2 (subst (λ v. ArePurposesWords v b) same y.2)
    | inr y ↦ absurd (more_not_one extended_key_usage es x.0 y.0 x.1)
  ]
  | inr x ↦ elim t [ inl y ↦ absurd (more_not_one extended_key_usage es y.0 x.0 y.1) | inr y ↦ x.1 ∙ sym y.1 ]
]

one_names_text : (value a b : List ℕ) → length value < 2 ^ 64 → AreNamesWords value a → AreNamesWords value b → a ≡ b
one_names_text value a b short s t = elim s [
  | inl x ↦ elim t [ inl y ↦ x.2 ∙ ap (λ gs. hosts_words (hosts_among gs)) (names_once value x.0 y.0 short x.1 y.1) ∙ sym y.2 | inr y ↦ absurd (y.0 x.0 x.1) ]
  | inr x ↦ elim t [ inl y ↦ absurd (x.0 y.0 y.1) | inr y ↦ x.1 ∙ sym y.1 ]
]

pub one_hosts_text : (es : List Extension) (a b : List ℕ) → AreShort es → AreHostsWords es a → AreHostsWords es b → a ≡ b
one_hosts_text es a b short s t = elim s [
  | inl x ↦ elim t [
    | inl y ↦ x.1 ∙ sym y.1
    | inr y ↦ elim y [ inl z ↦ absurd (one_not_none subject_alt_name es z.0 z.1 x.0) | inr z ↦ absurd (more_not_none subject_alt_name es z.0 x.0) ]
  ]
  | inr w ↦ elim w [
    | inl x ↦ elim t [
      | inl y ↦ absurd (one_not_none subject_alt_name es x.0 x.1 y.0)
      | inr y ↦ elim y [
        | inl z ↦
            let same = one_of_one subject_alt_name es z.0 x.0 z.1 x.1 in
            one_names_text x.0 a b (one_short subject_alt_name es x.0 short x.1) x.2 (subst (λ v. AreNamesWords v b) same z.2)
        | inr z ↦ absurd (more_not_one subject_alt_name es x.0 z.0 x.1)
      ]
    ]
    | inr x ↦ elim t [
      | inl y ↦ absurd (more_not_none subject_alt_name es x.0 y.0)
      | inr y ↦ elim y [ inl z ↦ absurd (more_not_one subject_alt_name es z.0 x.0 z.1) | inr z ↦ x.1 ∙ sym z.1 ]
    ]
  ]
]
