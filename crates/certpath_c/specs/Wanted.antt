-- What settings demand of the certificates of a path, beside its being valid.
use Rattle.std.specs.Prelude.{◌≡◌, ◌≢◌, ℕ, List, [], ◌∷◌, Option, Some, None, option_copied, option_map, slice_index_or}
use Rattle.host_names.specs.declared.host.Host.{Host}
use Rattle.host_names.specs.declared.refusal.Refusal.{Refusal}
use Rattle.host_names.specs.Asked.{host_view, AsksFor}
use Rattle.host_names.specs.Refusals.{IsRefusedFor}
use Rattle.cert_judge.specs.declared.policy.Policy.{Policy}
use Rattle.cert_judge.specs.Items.{rules_by}
use Rattle.cert_judge.specs.Revoking.{JudgingContext}
use Rattle.cert_serving.specs.declared.permits.Permits.{Permits}
use Rattle.cert_purpose.specs.Restricting.{restricted_by}
use Rattle.cert_serving.specs.Demanding.{Demanded, PermitsOf, ProcessesFor}
use Rattle.cert_serving.specs.Refusing.{are_permitted, are_processed}
use Rattle.cert_vouchers.specs.declared.vouchers.Vouchers.{Vouchers}
use Rattle.certpath_c.specs.declared.asked.Settings.{Settings}
use Rattle.certpath_c.specs.declared.wanted.Wanted.{Wanted}
use Rattle.certpath_c.specs.Asked.{VouchesBy}

-- octets, if there are any
abbrev pub given : List ℕ → Option (List ℕ)
given [] = None
given (octet ∷ octets) = Some (octet ∷ octets)

-- the host that a text asks for; none of an empty text
abbrev pub IsHostIn : List ℕ → Option Host → Type 0
IsHostIn text None = text ≡ []
IsHostIn text (Some host) = (text ≢ []) × AsksFor text host

-- a text is there, and no host
abbrev pub IsNoHost : List ℕ → Type 0
IsNoHost text = (text ≢ []) × ((reason : Refusal) × IsRefusedFor text reason)

-- the purpose and the host of settings, if they have any octets
pub record IsWantedBy (settings : Settings) (w : Wanted) : Type 0 where
  pub purpose : option_copied w.purpose ≡ given settings.purpose.now
  pub host : IsHostIn settings.host.now w.host

-- the settings have a host, or none is demanded
abbrev pub HasWanted : Settings → Type 0
HasWanted settings = (w : Wanted) × IsWantedBy settings w

-- what is demanded, by the octets of the target
abbrev pub demanded : Wanted → List ℕ → Demanded
demanded w target = record { purpose = option_copied w.purpose; host = option_map host_view w.host; target = target }

-- exactly those items are permitted that meet what the settings demand of a target, and what is demanded may be critical
pub record ArePermits (settings : Settings) (items : List (List ℕ)) (permits : Permits) : Type 0 where
  pub wanted : Wanted
  pub is_wanted : IsWantedBy settings wanted
  pub permitted : PermitsOf (demanded wanted (slice_index_or items settings.target [])) items (are_permitted permits)
  pub processed : ProcessesFor (demanded wanted (slice_index_or items settings.target [])) (are_processed permits)

-- the pairs vouch for an item that is permitted, and what the permit looks at is processed
abbrev pub rules_in : Policy → Vouchers → Permits → JudgingContext
rules_in policy pairs permits = rules_by policy.moment policy.demand_lists (restricted_by (are_permitted permits) (are_processed permits) (VouchesBy pairs))
