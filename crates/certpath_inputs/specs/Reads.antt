-- What the reading of a whole input does to its reader. If a device's octets are unknown, the
-- relations hold for some stream.
use Rattle.std.specs.Prelude.{◌≡◌, ℕ, ◌+◌, List, Option, Result, Ok, Err}
use Rattle.std.specs.Io.KnownBytes.{Consumes, IsAtEnd}
use Rattle.cert_framing.specs.declared.ending.End.{End}
use Rattle.cert_framing.specs.Framing.{IsFraming}
use Rattle.cert_vouchers.specs.declared.reader.VoucherReader.{VoucherReader}
use Rattle.cert_vouchers.specs.Reader.{HasTaken}
use Rattle.certpath_inputs.specs.declared.reading.InputError.{InputError}
use Rattle.certpath_inputs.specs.declared.reading.InputError.TheVariants.{Read, TooLong, OutOfMemory}

-- the reader gave all that it had, and these are the octets
pub record ReadsAll (before after : Option (List ℕ)) (octets : List ℕ) : Type 0 where
  pub took : Consumes before after octets
  pub all : IsAtEnd after

-- the reader gave all that it had, and that stream has these items and this end
pub record ReadsItems (before after : Option (List ℕ)) (limit : ℕ) (items : List (List ℕ)) (end : End) : Type 0 where
  pub stream : List ℕ
  pub took : Consumes before after stream
  pub all : IsAtEnd after
  pub framing : IsFraming limit stream items end

-- the reader gave all that it had, and the voucher reader has taken that text
pub record ReadsVouchers (before after : Option (List ℕ)) (pairs : VoucherReader) : Type 0 where
  pub text : List ℕ
  pub read : ReadsAll before after text
  pub taken : HasTaken pairs text

-- how many reads failed
abbrev pub failed_reads : {A : Type 0} → Result A InputError → ℕ
failed_reads (Ok x) = 0
failed_reads (Err Read) = 1
failed_reads (Err TooLong) = 0
failed_reads (Err OutOfMemory) = 0

-- between these two counts of ends the reader's end was met once if all was read, and never if
-- reading stopped before it
abbrev pub MeetsEnd : {A : Type 0} → ℕ → ℕ → Result A InputError → Type 0
MeetsEnd before after (Ok x) = after ≡ before + 1
MeetsEnd before after (Err e) = after ≡ before
