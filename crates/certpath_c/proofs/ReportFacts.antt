-- What was written of octets in memory, and what is returned for it.
use Rattle.std.specs.Prelude.{◌⊎◌, IfOk, IsErrOf, String, string_bytes}
use Rattle.std.specs.Io.KnownBytes.{Consumes, IsAtEnd}
use Rattle.std.specs.declared.alloc.Global.{Global}
use Rattle.std.proofs.Common.{◌≡◌, ◌∙◌, ℕ, ℤ, List, [], ◌++◌, Option, Some, None, Result, Ok, Err, refl, sym, ap, subst, inl, inr, w32, to_z, of_z}
use Rattle.std.proofs.lemmas.List.{append-nil}
use Rattle.cert_framing.specs.Framing.{IsFraming}
use Rattle.cert_framing.specs.Held.{Framed}
use Rattle.cert_judge.specs.declared.policy.Policy.{Policy}
use Rattle.cert_vouchers.specs.declared.vouchers.Vouchers.{Vouchers}
use Rattle.cert_vouchers.specs.Answers.{AreVouchersOf, HasFirstBad}
use Rattle.certpath_inputs.specs.Inputs.{HasText}
use Rattle.certpath_inputs.specs.declared.demand.Demand.{Demand}
use Rattle.certpath_inputs.specs.declared.settings.RunError.{RunError}
use Rattle.certpath_inputs.specs.declared.settings.RunError.TheVariants.{Read, TooLong, BadLine, OutOfMemory, Write}
use Rattle.certpath_c.specs.declared.asked.Settings.{Settings}
use Rattle.certpath_c.specs.declared.reports.Report.{Report}
use Rattle.certpath_c.specs.Asked.{IsPolicyOf}
use Rattle.certpath_c.specs.Reports.{HasReport, PutsReport, ReportAnswer}

-- a reader of octets that was read to its end gave just these
all_read : (after : Option (List ℕ)) (octets stream : List ℕ) → Consumes (Some octets) after stream → IsAtEnd after → stream ≡ octets
all_read None octets stream took end = absurd took
all_read (Some left) octets stream took end = sym (took ∙ ap (λ l. stream ++ l) end ∙ append-nil stream)

read_of : (before after : Option (List ℕ)) (octets stream : List ℕ) → before ≡ Some octets → Consumes before after stream → IsAtEnd after → stream ≡ octets
read_of before after octets stream is took end = all_read after octets stream (subst (λ b. Consumes b after stream) is took) end

pub has_report : {Outcome : Type 0} (IsRight : Outcome → Framed → Framed → Vouchers → List ℕ → Type 0) (outcome : Outcome) (bundle anchors vouchers octets : List ℕ) (b b' a a' v v' : Option (List ℕ)) (limit : ℕ)
    → b ≡ Some bundle → a ≡ Some anchors → v ≡ Some vouchers → HasText (IsRight outcome) b b' a a' v v' limit octets
    → HasReport (λ items anchor_items pairs text. (o : Outcome) × IsRight o items anchor_items pairs text) bundle anchors vouchers limit octets
has_report IsRight outcome bundle anchors vouchers octets b b' a a' v v' limit of_b of_a of_v h =
    let i = h.inputs in
    record {
      items = h.items;
      anchor_items = h.anchor_items;
      pairs = h.pairs;
      framing = subst (λ o. IsFraming limit o h.items.items h.items.end) (read_of b b' bundle _ of_b i.items_read.took i.items_read.all) i.items_read.framing;
      anchors_framing = subst (λ o. IsFraming limit o h.anchor_items.items h.anchor_items.end) (read_of a a' anchors _ of_a i.anchors_read.took i.anchors_read.all) i.anchors_read.framing;
      pairs_are = subst (λ o. AreVouchersOf o h.pairs) (read_of v v' vouchers _ of_v i.text_read.took i.text_read.all) i.pairs_are;
      is_right = (outcome, h.is_right);
    }

-- a status as C has it
abbrev pub in_c : ℤ → ℤ
in_c status = to_z w32 (of_z w32 status)

pub answered : (IsAsked : Demand → Type 0) (IsRight : Policy → Demand → Framed → Framed → Vouchers → List ℕ → Type 0) (bundle anchors vouchers : List ℕ) (settings : Settings) (policy : Policy) (demand : Demand) (found : Result (String Global) RunError)
    (buffer buffer' : List ℕ) (report report' : Report) (status : ℤ) → IsPolicyOf settings policy → IsAsked demand → IfOk found (λ text. HasReport (IsRight policy demand) bundle anchors vouchers settings.limit (string_bytes text))
    → ((n : ℕ) → IsErrOf found (BadLine n) → HasFirstBad vouchers n) → PutsReport found buffer buffer' report report' status
    → ReportAnswer IsAsked IsRight bundle anchors vouchers settings buffer buffer' report report' (in_c status)
answered IsAsked IsRight bundle anchors vouchers settings policy demand (Ok text) buffer buffer' report report' status is_policy is_demand ok bad puts =
    elim puts [
      | inl p ↦ inl (ap in_c p.0, record { policy = policy; is_policy = is_policy; demand = demand; is_demand = is_demand; text = string_bytes text; has_report = ok; is_put = p.1 })
      | inr p ↦ inr (inl (ap in_c p.0, record { policy = policy; is_policy = is_policy; demand = demand; is_demand = is_demand; text = string_bytes text; has_report = ok; is_put = p.1 }))
    ]
answered IsAsked IsRight bundle anchors vouchers settings policy demand (Err (Read input)) buffer buffer' report report' status is_policy is_demand ok bad puts = inr (inr (inr (ap in_c puts.0, puts.1)))
answered IsAsked IsRight bundle anchors vouchers settings policy demand (Err (TooLong input)) buffer buffer' report report' status is_policy is_demand ok bad puts = inr (inr (inr (ap in_c puts.0, puts.1)))
answered IsAsked IsRight bundle anchors vouchers settings policy demand (Err (BadLine n)) buffer buffer' report report' status is_policy is_demand ok bad puts =
    inr (inr (inl (ap in_c puts.0, (policy, is_policy), (demand, is_demand), subst (HasFirstBad vouchers) (sym puts.1.line_is) (bad n refl), puts.1.length_kept, puts.1.kept)))
answered IsAsked IsRight bundle anchors vouchers settings policy demand (Err OutOfMemory) buffer buffer' report report' status is_policy is_demand ok bad puts = inr (inr (inr (ap in_c puts.0, puts.1)))
answered IsAsked IsRight bundle anchors vouchers settings policy demand (Err Write) buffer buffer' report report' status is_policy is_demand ok bad puts = inr (inr (inr (ap in_c puts.0, puts.1)))
