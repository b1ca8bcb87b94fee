-- The rules of versions alone (RFC 5280, 4.1.2.1, 4.1.2.8, 4.1.2.9, 5.1.2.1 and 5.1.2.7), for the
-- contracts of private functions.
use Rattle.std.specs.Prelude.{◌≡◌, ◌≢◌, ◌<◌, ◌≤◌, [], Some, None}
use Rattle.cert_model.specs.Fields.{Certificate, RevocationList}
use Rattle.cert_model.specs.Range.{IfThere}

pub record HasVersion (c : Certificate) : Type 0 where
  pub version : c.version ≤ 2
  pub issuer_id_from : c.issuer_id ≢ None → 0 < c.version
  pub subject_id_from : c.subject_id ≢ None → 0 < c.version
  pub extensions_from : c.extensions ≢ [] → c.version ≡ 2

pub record HasListVersion (l : RevocationList) : Type 0 where
  pub version : IfThere (λ version. version ≡ 1) l.version
  pub extensions_from : l.extensions ≢ [] → l.version ≡ Some 1
