-- What reports demand, and what searches do.
use Rattle.std.proofs.Common.{◌≡◌, ◌≢◌, ◌∙◌, refl, sym, ap, subst, ℕ, List, [], ◌∷◌, Option, Some, None, option_map}
use Rattle.std.specs.Prelude.{option_copied}
use Rattle.host_names.specs.declared.host.Host.{Host}
use Rattle.host_names.specs.Asked.{Asked, host_view}
use Rattle.cert_serving.specs.Demanding.{Demanded}
use Rattle.certpath_inputs.specs.Demands.{demanded as asked_for, of_purpose}
use Rattle.certpath_inputs.specs.declared.demand.AskedPurpose.{AskedPurpose}
use Rattle.certpath_inputs.specs.declared.demand.AskedHost.{AskedHost}
use Rattle.certpath_inputs.specs.declared.demand.Demand.{Demand}
use Rattle.certpath_c.specs.declared.asked.Settings.{Settings}
use Rattle.certpath_c.specs.declared.wanted.Wanted.{Wanted}
use Rattle.certpath_c.specs.Demands.{IsAskedPurpose, IsAskedHost, IsDemandOf, IsDemandOfAll}
use Rattle.certpath_c.specs.Wanted.{given, IsHostIn, IsWantedBy, demanded}
use Rattle.certpath_c.proofs.Hosts.{one_host}

same_purpose : (octets : List ℕ) (asked : Option AskedPurpose) → IsAskedPurpose octets asked → option_map (λ p. p.identifier.now) asked ≡ given octets
same_purpose octets None h = sym (ap given h)
same_purpose [] (Some p) h = absurd (h.0 refl)
same_purpose (x ∷ xs) (Some p) h = ap Some h.1

same_host : (text : List ℕ) (asked : Option AskedHost) (host : Option Host) → IsAskedHost text asked → IsHostIn text host → option_map (λ h. host_view h.host) asked ≡ option_map host_view host
same_host text None host h k = one_host text None host h k
same_host text (Some asked) host h k = one_host text (Some asked.host) host (h.0, h.1) k

abbrev of_both : List ℕ → Option (List ℕ) → Option Asked → Demanded
of_both target purpose host = record { purpose = purpose; host = host; target = target }

pub same_demand : (settings : Settings) (demand : Demand) (wanted : Wanted) (target : List ℕ) → IsDemandOf settings demand → IsWantedBy settings wanted → asked_for demand target ≡ demanded wanted target
same_demand settings demand wanted target d w =
    let p = same_purpose settings.purpose.now demand.purpose d.purpose ∙ sym w.purpose in
    let h = same_host settings.host.now demand.host wanted.host d.host w.host in
    ap (λ x. of_both target x (option_map (λ h. host_view h.host) demand.host)) p ∙ ap (of_both target (option_copied wanted.purpose)) h

no_purpose : (asked : Option AskedPurpose) → IsAskedPurpose [] asked → asked ≡ None
no_purpose None h = refl
no_purpose (Some asked) h = absurd (h.0 refl)

no_host : (asked : Option AskedHost) → IsAskedHost [] asked → asked ≡ None
no_host None h = refl
no_host (Some asked) h = absurd (h.0 refl)

of_neither : (demand : Demand) → demand.purpose ≡ None → demand.host ≡ None → demand ≡ of_purpose None
of_neither demand p h = ap (λ x. record { purpose = x; host = demand.host }) p ∙ ap (λ y. record { purpose = None; host = y }) h

pub no_demand : (settings : Settings) (demand : Demand) → settings.purpose.now ≡ [] → settings.host.now ≡ [] → IsDemandOf settings demand → demand ≡ of_purpose None
no_demand settings demand p h d =
    of_neither demand (no_purpose demand.purpose (subst (λ o. IsAskedPurpose o demand.purpose) p d.purpose)) (no_host demand.host (subst (λ o. IsAskedHost o demand.host) h d.host))

pub no_demand_of_all : (settings : Settings) (demand : Demand) → settings.purpose.now ≡ [] → IsDemandOfAll settings demand → demand ≡ of_purpose None
no_demand_of_all settings demand p d = of_neither demand (no_purpose demand.purpose (subst (λ o. IsAskedPurpose o demand.purpose) p d.purpose)) d.host
