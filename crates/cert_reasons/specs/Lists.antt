-- Why a revocation list is not used under a key of its issuer: each reason is a clause of `IsUsedList`
-- that fails (RFC 5280, 5 and 6.3.3).
use Rattle.std.specs.Prelude.{◌≡◌, ℕ, List, [], All, true, Some, None}
use Rattle.cert_graph.specs.Entries.{IsAt}
use Rattle.cert_model.specs.Fields.{CivilTime, RevocationList}
use Rattle.cert_judge.specs.Moments.{IsNotAfter}
use Rattle.cert_judge.specs.Revoking.{Item, JudgingContext, AreUncritical}
use Rattle.cert_reasons.specs.declared.lists.Unused.{Unused}
use Rattle.cert_reasons.specs.declared.lists.Unused.TheVariants.{NotVouched, NoNextUpdate, NotYetCurrent, PastNextUpdate, CriticalOfList, CriticalOfEntry}

-- A reason applies to a list under a key. Extensions and entries are counted from 0.
abbrev pub HasListReason : JudgingContext → List ℕ → Item → RevocationList → Unused → Type 0
HasListReason r key item l NotVouched = r.Vouches key item.octets → ⊥
HasListReason r key item l NoNextUpdate = l.next_update ≡ None
HasListReason r key item l NotYetCurrent = IsNotAfter l.this_update r.moment → ⊥
HasListReason r key item l PastNextUpdate = (next : CivilTime) × (l.next_update ≡ Some next) × (IsNotAfter r.moment next → ⊥)
HasListReason r key item l (CriticalOfList k) = IsAt l.extensions k (λ e. e.critical ≡ true)
HasListReason r key item l (CriticalOfEntry k) = IsAt l.entries k (λ n. AreUncritical n.extensions → ⊥)

abbrev pub list_order : Unused → ℕ × ℕ
list_order NotVouched = (0, 0)
list_order NoNextUpdate = (1, 0)
list_order NotYetCurrent = (2, 0)
list_order PastNextUpdate = (3, 0)
list_order (CriticalOfList k) = (4, k)
list_order (CriticalOfEntry k) = (5, k)

-- A reason applies to a list whoever has its issuer's name: none of their keys vouches for it, as where
-- there is no key, or another reason applies under any key.
abbrev pub HasReasonAmong : JudgingContext → List (List ℕ) → Item → RevocationList → Unused → Type 0
HasReasonAmong r keys item l NotVouched = All (λ key. r.Vouches key item.octets → ⊥) keys
HasReasonAmong r keys item l reason = HasListReason r [] item l reason
