-- Why a certificate is not linked to an issuer of its issuer's name: each reason is a clause of
-- `IsIssuedUnder` that fails, or that the key identifiers differ (RFC 5280, 6.1.3, a 1 and a 3).
use Rattle.std.specs.Prelude.{◌≡◌, ℕ, List, true, Any}
use Rattle.cert_graph.specs.Entries.{IsAt}
use Rattle.cert_model.specs.Fields.{Entry, Certificate, RevocationList}
use Rattle.cert_judge.specs.Revoking.{Item, JudgingContext, IsUsedList, HasUsedList}
use Rattle.cert_reasons.specs.declared.links.Unlinked.{Unlinked}
use Rattle.cert_reasons.specs.declared.links.Unlinked.TheVariants.{NotVouched, KeyIdsDiffer, RevokedBy, NoUsedList}

-- an item is a list that is used under a name and key and has an entry of this serial number
abbrev pub Revokes : JudgingContext → List ℕ → List ℕ → List ℕ → Item → Type 0
Revokes r name key serial y = (l : RevocationList) × IsUsedList r name key y l × Any (λ (n : Entry). n.serial ≡ serial) l.entries

-- A reason applies to a link. `Agree` says that the key identifiers agree; of an anchor it says nothing
-- (RFC 5280, 6.1.1, d). Items are counted from 0.
abbrev pub HasLinkReason : JudgingContext → List Item → Item → Certificate → List ℕ → List ℕ → Type 0 → Unlinked → Type 0
HasLinkReason r items x c name key Agree NotVouched = r.Vouches key x.octets → ⊥
HasLinkReason r items x c name key Agree KeyIdsDiffer = Agree → ⊥
HasLinkReason r items x c name key Agree (RevokedBy p) = IsAt items p (Revokes r name key c.serial)
HasLinkReason r items x c name key Agree NoUsedList = (r.demand_lists ≡ true) × (HasUsedList r items name key → ⊥)

abbrev pub link_order : Unlinked → ℕ × ℕ
link_order NotVouched = (0, 0)
link_order KeyIdsDiffer = (1, 0)
link_order (RevokedBy p) = (2, p)
link_order NoUsedList = (3, 0)
