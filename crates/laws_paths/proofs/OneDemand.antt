-- The lines of a demand are determined, and two permits of one demand are one relation.
use Rattle.std.specs.Prelude.{◌↔◌, ◌⊎◌}
use Rattle.std.proofs.Common.{◌≡◌, ◌∙◌, refl, ap, sym, ℕ, Bool, true, false, IsTrue, IsSomeAnd, List, [], ◌++◌, inl, inr, Option, Some, None}
use Rattle.std.specs.Borrow.{Bor}
use Rattle.std.specs.BTreeSet as sorted
use Rattle.std.specs.Cmp.Lexicographic.{slice_cmp}
use Rattle.std.specs.Ordering.{nat_cmp}
use Rattle.cert_model.specs.Fields.{Certificate, Extension}
use Rattle.cert_judge.specs.Revoking.{Item}
use Rattle.cert_purpose.specs.Purposes.{extended_key_usage}
use Rattle.cert_serving.specs.Demanding.{Demanded, AllowsIt, ServesIt}
use Rattle.cert_serving.specs.Refusing.{are_permitted, are_processed}
use Rattle.cert_serving.specs.Serving.{subject_alt_name}
use Rattle.cert_serving.specs.declared.permits.Permits.{Permits}
use Rattle.cert_vouchers.specs.declared.vouchers.Vouchers.{Vouchers}
use Rattle.certpath_inputs.specs.Demands.{ArePermitsOf, IfNeither, VouchesWhere, demanded}
use Rattle.certpath_inputs.specs.Inputs.{VouchesBy}
use Rattle.certpath_inputs.specs.declared.demand.AskedHost.{AskedHost}
use Rattle.certpath_inputs.specs.declared.demand.AskedPurpose.{AskedPurpose}
use Rattle.certpath_inputs.specs.declared.demand.Demand.{Demand}
use Rattle.certpath_run.specs.Runs.{VouchesAnyWhere}
use Rattle.certpath_why.specs.Demanded.{AreDemandLines, AreUnmetLines, IsHostLine, IsLineUnless, IsPurposeLine, host_line, purpose_line}
use Rattle.certpath_why.specs.Laws.{AreShort}
use Rattle.laws_paths.proofs.Words.{one_text_of_hosts, one_text_of_uses}

-- ---- one text

one_line : (P : Type 0) (IsLine : List ℕ → Type 0) → ((t u : List ℕ) → IsLine t → IsLine u → t ≡ u) → (t u : List ℕ) → IsLineUnless P IsLine t → IsLineUnless P IsLine u → t ≡ u
one_line P IsLine one t u (inl h) (inl g) = h.1 ∙ sym g.1
one_line P IsLine one t u (inl h) (inr g) = absurd (g.0 h.0)
one_line P IsLine one t u (inr h) (inl g) = absurd (h.0 g.0)
one_line P IsLine one t u (inr h) (inr g) = one t u h.1 g.1

one_purpose_line : (v : ℕ) (asked : Option AskedPurpose) (es : List Extension) → AreShort es → (t u : List ℕ) → IsPurposeLine v asked es t → IsPurposeLine v asked es u → t ≡ u
one_purpose_line v None es short t u h g = absurd h
one_purpose_line v (Some purpose) es short t u h g = h.2 ∙ ap (purpose_line v purpose.shown.now) (one_text_of_uses es h.0 g.0 short h.1 g.1) ∙ sym g.2

one_host_line : (v : ℕ) (asked : Option AskedHost) (es : List Extension) → AreShort es → (t u : List ℕ) → IsHostLine v asked es t → IsHostLine v asked es u → t ≡ u
one_host_line v None es short t u h g = absurd h
one_host_line v (Some host) es short t u h g = h.2 ∙ ap (host_line v host.shown.now) (one_text_of_hosts es h.0 g.0 short h.1 g.1) ∙ sym g.2

one_unmet : (demand : Demand) (target : List ℕ) (v : ℕ) (x : Item) (c : Certificate) → AreShort c.extensions → (t u : List ℕ) → AreUnmetLines demand target v x c t → AreUnmetLines demand target v x c u → t ≡ u
one_unmet demand target v x c short t u h g =
    let es = c.extensions in
    let purpose : h.purpose ≡ g.purpose =
    one_line (AllowsIt (demanded demand target) es) (IsPurposeLine v demand.purpose es) (one_purpose_line v demand.purpose es short) h.purpose g.purpose h.purpose_is g.purpose_is in
    let host : h.host ≡ g.host =
    one_line (x.octets ≡ target → ServesIt (demanded demand target) es) (IsHostLine v demand.host es) (one_host_line v demand.host es short) h.host g.host h.host_is g.host_is in
    let both : h.purpose ++ h.host ≡ g.purpose ++ g.host = λ i. purpose i ++ host i in
    h.text_is ∙ both ∙ sym g.text_is

-- what follows of two that hold where nothing is demanded, and where something is
pub of_both : {A B : Type 0} {P Q P' Q' Z : Type 0} (a : Option A) (b : Option B) → IfNeither a b P Q → IfNeither a b P' Q' → (P → P' → Z) → (Q → Q' → Z) → Z
of_both None None h k f g = f h k
of_both None (Some b) h k f g = g h k
of_both (Some a) b h k f g = g h k

pub one_text_of_demand : (demand : Demand) (target : List ℕ) (v : ℕ) (x : Item) (c : Certificate) → AreShort c.extensions → (t u : List ℕ) → AreDemandLines demand target v x c t → AreDemandLines demand target v x c u → t ≡ u
one_text_of_demand demand target v x c short t u h g = of_both demand.purpose demand.host h g (λ p q. p ∙ sym q) (one_unmet demand target v x c short t u)

-- ---- permits of one demand

same_bool : (a b : Bool) → ((IsTrue a → ⊥) → IsTrue b → ⊥) → ((IsTrue b → ⊥) → IsTrue a → ⊥) → a ≡ b
same_bool true true f g = refl
same_bool true false f g = absurd (g (λ e. cc) refl)
same_bool false true f g = absurd (f (λ e. cc) refl)
same_bool false false f g = refl

same_flag : (a b : Bool) → (a ≡ true → b ≡ true) → (b ≡ true → a ≡ true) → a ≡ b
same_flag true true f g = refl
same_flag true false f g = sym (f refl)
same_flag false true f g = g refl
same_flag false false f g = refl

abbrev is_refused : Permits → List ℕ → Bool
is_refused p octets = sorted.contains_by (λ (k : Bor (List ℕ)). slice_cmp nat_cmp octets k.now) p.refused

abbrev IsHostTarget : Option (Bor (List ℕ)) → List ℕ → Type 0
IsHostTarget host octets = IsSomeAnd host (λ t. octets ≡ t.now)

same_host : (a b : Option (Bor (List ℕ))) → ((octets : List ℕ) → IsHostTarget a octets → IsHostTarget b octets) → ((octets : List ℕ) → IsHostTarget b octets → IsHostTarget a octets)
    → (octets : List ℕ) → IsHostTarget a octets ≡ IsHostTarget b octets
same_host None None f g octets = refl
same_host None (Some u) f g octets = absurd (g u.now refl)
same_host (Some t) None f g octets = absurd (f t.now refl)
same_host (Some t) (Some u) f g octets = let same : t.now ≡ u.now = f t.now refl in λ i. octets ≡ same i

unlike : extended_key_usage ≡ subject_alt_name → ⊥
unlike e = cc

module _ (d : Demanded) (octets : List (List ℕ)) (p q : Permits) (a : ArePermitsOf d octets p) (b : ArePermitsOf d octets q) where
  permitted_in : (item : List ℕ) → are_permitted p item ↔ are_permitted q item
  permitted_in item = (λ h. (b.0 item).1 ((a.0 item).0 h), λ h. (a.0 item).1 ((b.0 item).0 h))

  processed_in : (item identifier : List ℕ) → are_processed p item identifier ↔ are_processed q item identifier
  processed_in item identifier = (λ h. (b.1 item identifier).1 ((a.1 item identifier).0 h), λ h. (a.1 item identifier).1 ((b.1 item identifier).0 h))

  same_refused : (item : List ℕ) → is_refused p item ≡ is_refused q item
  same_refused item = same_bool (is_refused p item) (is_refused q item) (permitted_in item).0 (permitted_in item).1

purpose_from : (p q : Permits) → ((item identifier : List ℕ) → are_processed p item identifier → are_processed q item identifier) → p.has_purpose ≡ true → q.has_purpose ≡ true
purpose_from p q into has = elim (into [] extended_key_usage (inl (has, refl))) [ inl h ↦ h.0 | inr h ↦ absurd (unlike h.1) ]

host_from : (p q : Permits) → ((item identifier : List ℕ) → are_processed p item identifier → are_processed q item identifier) → (item : List ℕ) → IsHostTarget p.host_target item → IsHostTarget q.host_target item
host_from p q into item is = elim (into item subject_alt_name (inr (is, refl))) [ inl h ↦ absurd (unlike (sym h.1)) | inr h ↦ h.0 ]

module _ (d : Demanded) (octets : List (List ℕ)) (p q : Permits) (a : ArePermitsOf d octets p) (b : ArePermitsOf d octets q) where
  into : (item identifier : List ℕ) → are_processed p item identifier → are_processed q item identifier
  into item identifier = (processed_in d octets p q a b item identifier).0

  onto : (item identifier : List ℕ) → are_processed q item identifier → are_processed p item identifier
  onto item identifier = (processed_in d octets p q a b item identifier).1

  same_purpose : p.has_purpose ≡ q.has_purpose
  same_purpose = same_flag p.has_purpose q.has_purpose (purpose_from p q into) (purpose_from q p onto)

  same_target : (item : List ℕ) → IsHostTarget p.host_target item ≡ IsHostTarget q.host_target item
  same_target = same_host p.host_target q.host_target (host_from p q into) (host_from q p onto)

  pub same_where : (pairs : Vouchers) → VouchesWhere p pairs ≡ VouchesWhere q pairs
  same_where pairs = λ i. record {
    Vouches = λ key item. (VouchesBy pairs).Vouches key item × (IsTrue (same_refused d octets p q a b item i) → ⊥);
    Processes = λ item identifier. (VouchesBy pairs).Processes item identifier ⊎ (((same_purpose i ≡ true) × (identifier ≡ extended_key_usage)) ⊎ (same_target item i × (identifier ≡ subject_alt_name)));
  }

  pub same_anywhere : (pairs : Vouchers) → VouchesAnyWhere p pairs ≡ VouchesAnyWhere q pairs
  same_anywhere pairs = λ i. record {
    Vouches = (VouchesBy pairs).Vouches;
    Processes = λ item identifier. (VouchesBy pairs).Processes item identifier ⊎ (((same_purpose i ≡ true) × (identifier ≡ extended_key_usage)) ⊎ (same_target item i × (identifier ≡ subject_alt_name)));
  }
