-- What the values of this crate's types are, as the data of `Values`.
use Rattle.std.specs.Prelude.{ℕ}
use Rattle.x509_ext_flags.specs.declared.reason.ReasonCode.{ReasonCode}
use Rattle.x509_ext_basic.specs.Values as values
use Rattle.x509_ext_basic.specs.declared.basic.BasicConstraints.{BasicConstraints}

abbrev pub basic_constraints_view : BasicConstraints → values.BasicConstraints
basic_constraints_view c = record { ca = c.ca; path_len_constraint = c.path_len_constraint }

abbrev pub reason_view : ReasonCode → ℕ
reason_view r = r.0
