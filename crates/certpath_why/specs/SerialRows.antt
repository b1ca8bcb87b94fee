-- Rows of lists that revoke, by issuers and serial numbers. Contracts of private functions cite it.
use Rattle.std.specs.Prelude.{◌≡◌, ◌<◌, ℕ, List, [], ◌∷◌, length, slice_index_or, Vec}
use Rattle.std.specs.declared.alloc.Global.{Global}
use Rattle.jiff_core.specs.declared.civil.datetime.DateTime.{DateTime}
use Rattle.cert_graph.specs.Entries.{IsAt}
use Rattle.cert_judge.specs.declared.items.CertificateItem.{CertificateItem}
use Rattle.cert_judge.specs.declared.items.ReadItem.{ReadItem}
use Rattle.cert_judge.specs.Items.{IsListWith}
use Rattle.cert_reasons.specs.Listed.{IsOf}
use Rattle.certpath_why.specs.Kinds.{AreWrittenBy}
use Rattle.certpath_why.specs.RevokingRows.{IsRowOf}
use Rattle.certpath_why.specs.declared.revoking.SerialRows.{SerialRows}

-- a certificate by the position of the first list of its issuer, and by its serial number
abbrev pub IsSerialKey : List ReadItem → ℕ → CertificateItem → List ℕ → Type 0
IsSerialKey xs p x key = (first : ℕ) × IsAt xs first (IsListWith (IsOf x.issuer.now)) × (key ≡ first ∷ x.fields.serial.now)

-- The first row is empty, and what is under a key is the number of the row of its certificates.
pub record AreSerialRows (xs : List ReadItem) (moment : DateTime) (serials : SerialRows) : Type 0 where
  pub some : 0 < length serials.rows.items
  pub empty : (r : Vec ℕ Global) → (slice_index_or serials.rows.items 0 r).items ≡ []
  pub by_serial : AreWrittenBy xs (IsSerialKey xs) (IsRowOf xs moment serials.rows.items) serials.by_serial
