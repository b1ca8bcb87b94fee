-- A signed part in three steps, each read by a function of its own.
use Rattle.std.specs.Prelude.{ℕ, List, Option, Ok, option_map, map}
use Rattle.x509_core.specs.Answers.{Answer, ◌>>=◌}
use Rattle.x509_core.specs.Reading.{Reader}
use Rattle.x509_names.specs.Fields.{Algorithm, Name}
use Rattle.x509_names.specs.Reading.{algorithm_at, name_at}
use Rattle.x509_names.specs.View.{algorithm_view, name_view}
use Rattle.x509_time.specs.Reading.{time_at, next_update_at}
use Rattle.x509_time.specs.Times.{Time}
use Rattle.x509_time.specs.View.{time_view}
use Rattle.x509_ext.specs.Fields.{Extension, ValueReading}
use Rattle.x509_ext.specs.Reading.{extensions_at}
use Rattle.x509_ext.specs.View.{extension_view}
use Rattle.x509_lists.specs.Fields.{Entry, TbsList}
use Rattle.x509_lists.specs.Reading.{version_at, entries_at}
use Rattle.x509_lists.specs.View.{entry_view}
use Rattle.x509_lists.specs.declared.tbs.Signer.{Signer as SignerRead}
use Rattle.x509_lists.specs.declared.tbs.Dates.{Dates as DatesRead}
use Rattle.x509_lists.specs.declared.tbs.Revoked.{Revoked as RevokedRead}

-- what comes before the dates
pub record Signer : Type 0 where
  pub version : Option ℕ
  pub signature : Algorithm
  pub issuer : Name

pub record Dates : Type 0 where
  pub this_update : Time
  pub next_update : Option Time

-- what comes after them
pub record Revoked : Type 0 where
  pub entries : List Entry
  pub extensions : List Extension

unfoldable pub signer_at : Reader Signer
signer_at i = do
  let version = version_at i
  signature ← algorithm_at version.1
  issuer ← name_at signature.1
  Ok (record { version = version.0; signature = signature.0; issuer = issuer.0 }, issuer.1)

unfoldable pub dates_at : Reader Dates
dates_at i = do
  this_update ← time_at i
  next_update ← next_update_at this_update.1
  Ok (record { this_update = this_update.0; next_update = next_update.0 }, next_update.1)

unfoldable pub revoked_at : ValueReading → List ℕ → Answer Revoked
revoked_at parse i = do
  entries ← entries_at parse i
  extensions ← extensions_at parse 0 entries.1
  Ok (record { entries = entries.0; extensions = extensions })

-- the signed part of these octets, by its content
abbrev pub signed_at : ValueReading → List ℕ → List ℕ → Answer TbsList
signed_at parse raw i = do
  signer ← signer_at i
  dates ← dates_at signer.1
  revoked ← revoked_at parse dates.1
  Ok (record { version = signer.0.version; signature = signer.0.signature; issuer = signer.0.issuer; this_update = dates.0.this_update; next_update = dates.0.next_update; entries = revoked.entries; extensions = revoked.extensions; raw = raw })

abbrev pub signer_view : SignerRead → Signer
signer_view s = record { version = option_map (λ v. v.0) s.version; signature = algorithm_view s.signature; issuer = name_view s.issuer }

abbrev pub dates_view : DatesRead → Dates
dates_view d = record { this_update = time_view d.this_update; next_update = option_map time_view d.next_update }

abbrev pub revoked_view : RevokedRead → Revoked
revoked_view r = record { entries = map entry_view r.entries.items; extensions = map extension_view r.extensions.items }
