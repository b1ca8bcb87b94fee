-- What the values of this crate's types are, as the records of `Times`.
use Rattle.jiff.specs.Words.{civil_nanos}
use Rattle.x509_time.specs.Times.{Time, Period}
use Rattle.x509_time.specs.declared.time.ASN1Time.{ASN1Time}
use Rattle.x509_time.specs.declared.validity.Validity.{Validity}

abbrev pub time_view : ASN1Time → Time
time_view t = record { nanoseconds = civil_nanos t.time; generalized = t.generalized }

abbrev pub validity_view : Validity → Period
validity_view v = record { not_before = time_view v.not_before; not_after = time_view v.not_after }
