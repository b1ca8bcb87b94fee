-- What `certpath_path`, `certpath_why` and `certpath_paths` answer.
use Rattle.std.specs.Prelude.{◌≡◌, ◌⊎◌, ℕ, ℤ, Bool, true, false, List, length, Result, Ok, Err, String, string_bytes}
use Rattle.std.specs.declared.alloc.Global.{Global}
use Rattle.cert_framing.specs.Framing.{IsFraming}
use Rattle.cert_framing.specs.Held.{Framed}
use Rattle.cert_judge.specs.declared.policy.Policy.{Policy}
use Rattle.cert_vouchers.specs.declared.vouchers.Vouchers.{Vouchers}
use Rattle.cert_vouchers.specs.Answers.{AreVouchersOf, HasFirstBad}
use Rattle.certpath_run.specs.AllReport.{IsAllReportFor}
use Rattle.certpath_run.specs.Runs.{IsReportFor, IsWhyReportFor}
use Rattle.certpath_run.specs.declared.settings.AllOutcome.{AllOutcome}
use Rattle.certpath_inputs.specs.declared.demand.Demand.{Demand}
use Rattle.certpath_inputs.specs.declared.settings.AllSettings.{AllSettings}
use Rattle.certpath_run.specs.declared.settings.Outcome.{Outcome}
use Rattle.certpath_inputs.specs.declared.settings.RunError.{RunError}
use Rattle.certpath_inputs.specs.declared.settings.RunError.TheVariants.{Read, TooLong, BadLine, OutOfMemory, Write}
use Rattle.certpath_run.specs.declared.settings.Settings as run
use Rattle.certpath_c.specs.declared.asked.Settings.{Settings}
use Rattle.certpath_c.specs.declared.reports.Report.{Report}
use Rattle.certpath_c.specs.Asked.{IsNoMoment, IsPolicyOf, HasPolicy}
use Rattle.certpath_c.specs.Demands.{IsDemandOf, IsDemandOfAll}
use Rattle.certpath_c.specs.Status.{done, out_of_memory, too_small, bad_moment, bad_line, bad_host}
use Rattle.certpath_c.specs.Wanted.{IsNoHost}
use Rattle.certpath_c.specs.Writing.{Puts}

-- what the program prints on a target, on what prevents its path, and on all items, if this is
-- demanded
abbrev pub IsPathReport : run.Settings → Demand → Framed → Framed → Vouchers → List ℕ → Type 0
IsPathReport settings demand items anchors pairs text = (outcome : Outcome) × IsReportFor settings demand outcome items anchors pairs text

abbrev pub IsWhyReport : run.Settings → Demand → Framed → Framed → Vouchers → List ℕ → Type 0
IsWhyReport settings demand items anchors pairs text = (outcome : Outcome) × IsWhyReportFor settings demand outcome items anchors pairs text

abbrev pub IsPathsReport : AllSettings → Demand → Framed → Framed → Vouchers → List ℕ → Type 0
IsPathsReport settings demand items anchors pairs text = (outcome : AllOutcome) × IsAllReportFor settings demand outcome items anchors pairs text

-- the text is right for the items of both files and the pairs of the voucher file
pub record HasReport (IsRight : Framed → Framed → Vouchers → List ℕ → Type 0) (bundle anchors vouchers : List ℕ) (limit : ℕ) (text : List ℕ) : Type 0 where
  pub items : Framed
  pub anchor_items : Framed
  pub pairs : Vouchers
  pub framing : IsFraming limit bundle items.items items.end
  pub anchors_framing : IsFraming limit anchors anchor_items.items anchor_items.end
  pub pairs_are : AreVouchersOf vouchers pairs
  pub is_right : IsRight items anchor_items pairs text

-- the text was put into the buffer, or not, if it doesn't fit
pub record IsPut (text buffer buffer' : List ℕ) (report report' : Report) (fits : Bool) : Type 0 where
  pub length_is : report'.length ≡ length text
  pub line_kept : report'.bad_line ≡ report.bad_line
  pub written : Puts buffer buffer' text fits

-- the line is noted, and nothing was written
pub record IsRefused (number : ℕ) (buffer buffer' : List ℕ) (report report' : Report) : Type 0 where
  pub line_is : report'.bad_line ≡ number
  pub length_kept : report'.length ≡ report.length
  pub kept : buffer' ≡ buffer

-- nothing was written at all
abbrev pub IsKept : List ℕ → List ℕ → Report → Report → Type 0
IsKept buffer buffer' report report' = (buffer' ≡ buffer) × (report' ≡ report)

-- what is returned for a text, or for why there is none
abbrev pub PutsReport : Result (String Global) RunError → List ℕ → List ℕ → Report → Report → ℤ → Type 0
PutsReport (Ok text) buffer buffer' report report' status =
    ((status ≡ done) × IsPut (string_bytes text) buffer buffer' report report' true) ⊎ ((status ≡ too_small) × IsPut (string_bytes text) buffer buffer' report report' false)
PutsReport (Err (Read input)) buffer buffer' report report' status = (status ≡ out_of_memory) × IsKept buffer buffer' report report'
PutsReport (Err (TooLong input)) buffer buffer' report report' status = (status ≡ out_of_memory) × IsKept buffer buffer' report report'
PutsReport (Err (BadLine number)) buffer buffer' report report' status = (status ≡ bad_line) × IsRefused number buffer buffer' report report'
PutsReport (Err OutOfMemory) buffer buffer' report report' status = (status ≡ out_of_memory) × IsKept buffer buffer' report report'
PutsReport (Err Write) buffer buffer' report report' status = (status ≡ out_of_memory) × IsKept buffer buffer' report report'

-- a policy of the settings, what they demand, and a text that is right by both, put into the buffer, or not
pub record Reports (IsAsked : Demand → Type 0) (IsRight : Policy → Demand → Framed → Framed → Vouchers → List ℕ → Type 0) (bundle anchors vouchers : List ℕ) (settings : Settings) (buffer buffer' : List ℕ) (report report' : Report) (fits : Bool) : Type 0 where
  pub policy : Policy
  pub is_policy : IsPolicyOf settings policy
  pub demand : Demand
  pub is_demand : IsAsked demand
  pub text : List ℕ
  pub has_report : HasReport (IsRight policy demand) bundle anchors vouchers settings.limit text
  pub is_put : IsPut text buffer buffer' report report' fits

-- what is returned if the settings have a moment and a demand, by what is right
abbrev pub ReportAnswer : (Demand → Type 0) → (Policy → Demand → Framed → Framed → Vouchers → List ℕ → Type 0) → List ℕ → List ℕ → List ℕ → Settings → List ℕ → List ℕ → Report → Report → ℤ → Type 0
ReportAnswer IsAsked IsRight bundle anchors vouchers settings buffer buffer' report report' status =
    ((status ≡ done) × Reports IsAsked IsRight bundle anchors vouchers settings buffer buffer' report report' true)
    ⊎ ((status ≡ too_small) × Reports IsAsked IsRight bundle anchors vouchers settings buffer buffer' report report' false)
    ⊎ ((status ≡ bad_line) × HasPolicy settings × ((demand : Demand) × IsAsked demand) × HasFirstBad vouchers report'.bad_line × (report'.length ≡ report.length) × (buffer' ≡ buffer))
    ⊎ ((status ≡ out_of_memory) × IsKept buffer buffer' report report')

-- on a target: the moment is looked at first, then the host, then the vouchers
abbrev pub TargetAnswer : (Policy → Demand → Framed → Framed → Vouchers → List ℕ → Type 0) → List ℕ → List ℕ → List ℕ → Settings → List ℕ → List ℕ → Report → Report → ℤ → Type 0
TargetAnswer IsRight bundle anchors vouchers settings buffer buffer' report report' status =
    ReportAnswer (IsDemandOf settings) IsRight bundle anchors vouchers settings buffer buffer' report report' status
    ⊎ ((status ≡ bad_moment) × IsNoMoment settings.moment × IsKept buffer buffer' report report')
    ⊎ ((status ≡ bad_host) × HasPolicy settings × IsNoHost settings.host.now × IsKept buffer buffer' report report')

-- what the program is asked by settings
abbrev pub run_settings : Settings → Policy → run.Settings
run_settings settings policy = record { target = settings.target; policy = policy; limit = settings.limit }

abbrev pub all_settings : Settings → Policy → AllSettings
all_settings settings policy = record { policy = policy; limit = settings.limit }

abbrev pub PathAnswer : List ℕ → List ℕ → List ℕ → Settings → List ℕ → List ℕ → Report → Report → ℤ → Type 0
PathAnswer bundle anchors vouchers settings = TargetAnswer (λ policy. IsPathReport (run_settings settings policy)) bundle anchors vouchers settings

abbrev pub WhyAnswer : List ℕ → List ℕ → List ℕ → Settings → List ℕ → List ℕ → Report → Report → ℤ → Type 0
WhyAnswer bundle anchors vouchers settings = TargetAnswer (λ policy. IsWhyReport (run_settings settings policy)) bundle anchors vouchers settings

-- on all items: the host isn't looked at
abbrev pub PathsAnswer : List ℕ → List ℕ → List ℕ → Settings → List ℕ → List ℕ → Report → Report → ℤ → Type 0
PathsAnswer bundle anchors vouchers settings buffer buffer' report report' status =
    ReportAnswer (IsDemandOfAll settings) (λ policy. IsPathsReport (all_settings settings policy)) bundle anchors vouchers settings buffer buffer' report report' status
    ⊎ ((status ≡ bad_moment) × IsNoMoment settings.moment × IsKept buffer buffer' report report')
