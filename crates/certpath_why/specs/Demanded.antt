-- The lines of a certificate that does not meet what is demanded. This page is to be believed.
use Rattle.std.specs.Prelude.{◌≡◌, ◌⊎◌, ℕ, List, [], ◌∷◌, ◌++◌, codes, Option, Some, None}
use Rattle.cert_model.specs.Fields.{Certificate, Extension}
use Rattle.cert_judge.specs.Revoking.{Item}
use Rattle.cert_serving.specs.Demanding.{AllowsIt, ServesIt}
use Rattle.certpath_inputs.specs.Demands.{IfNeither, demanded}
use Rattle.certpath_inputs.specs.declared.demand.AskedHost.{AskedHost}
use Rattle.certpath_inputs.specs.declared.demand.AskedPurpose.{AskedPurpose}
use Rattle.certpath_inputs.specs.declared.demand.Demand.{Demand}
use Rattle.certpath_why.specs.Hosts.{AreHostsWords}
use Rattle.certpath_why.specs.Lines.{at_words}
use Rattle.certpath_why.specs.Uses.{AreUsesWords}

-- `at V isn't for PURPOSE: ..`, and `at V doesn't serve HOST: ..`
abbrev pub purpose_line : ℕ → List ℕ → List ℕ → List ℕ
purpose_line v shown words = at_words v ++ (codes " isn't for " ++ (shown ++ (codes ": " ++ (words ++ 10 ∷ []))))

abbrev pub host_line : ℕ → List ℕ → List ℕ → List ℕ
host_line v shown words = at_words v ++ (codes " doesn't serve " ++ (shown ++ (codes ": " ++ (words ++ 10 ∷ []))))

-- the line of a purpose that extensions don't allow: what they allow
abbrev pub IsPurposeLine : ℕ → Option AskedPurpose → List Extension → List ℕ → Type 0
IsPurposeLine v None es line = ⊥
IsPurposeLine v (Some purpose) es line = (words : List ℕ) × AreUsesWords es words × (line ≡ purpose_line v purpose.shown.now words)

-- and of a host that they don't serve: which hosts they name
abbrev pub IsHostLine : ℕ → Option AskedHost → List Extension → List ℕ → Type 0
IsHostLine v None es line = ⊥
IsHostLine v (Some host) es line = (words : List ℕ) × AreHostsWords es words × (line ≡ host_line v host.shown.now words)

-- no text if a fact holds, and a line if it does not
abbrev pub IsLineUnless : Type 0 → (List ℕ → Type 0) → List ℕ → Type 0
IsLineUnless P IsLine text = (P × (text ≡ [])) ⊎ ((P → ⊥) × IsLine text)

-- A line exactly if the certificate does not allow the purpose, and one exactly if it is the
-- target, by its octets, and does not serve the host.
pub record AreUnmetLines (demand : Demand) (target : List ℕ) (v : ℕ) (x : Item) (c : Certificate) (text : List ℕ) : Type 0 where
  pub purpose : List ℕ
  pub purpose_is : IsLineUnless (AllowsIt (demanded demand target) c.extensions) (IsPurposeLine v demand.purpose c.extensions) purpose
  pub host : List ℕ
  pub host_is : IsLineUnless (x.octets ≡ target → ServesIt (demanded demand target) c.extensions) (IsHostLine v demand.host c.extensions) host
  pub text_is : text ≡ purpose ++ host

-- nothing if nothing is demanded
abbrev pub AreDemandLines : Demand → List ℕ → ℕ → Item → Certificate → List ℕ → Type 0
AreDemandLines demand target v x c text = IfNeither demand.purpose demand.host (text ≡ []) (AreUnmetLines demand target v x c text)
