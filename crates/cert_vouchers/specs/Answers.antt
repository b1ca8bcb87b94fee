-- What `read_vouchers` returns, in the words of `VoucherFile`.
use Rattle.std.specs.Prelude.{◌≡◌, ◌↔◌, ℕ, List, Result, Ok, Err}
use Rattle.std.specs.List.{AllByRecursion}
use Rattle.cert_vouchers.specs.declared.vouchers.Vouchers.{Vouchers}
use Rattle.cert_vouchers.specs.Vouching.{HasPair}
use Rattle.cert_vouchers.specs.declared.reading.VoucherError.{VoucherError}
use Rattle.cert_vouchers.specs.declared.reading.VoucherError.TheVariants.{BadLine, OutOfMemory}
use Rattle.cert_vouchers.specs.VoucherFile.{AreLines, lines_of, IsWell, TellPair, IsFirstBad}

-- the pairs are those of these lines
abbrev pub HavePairsOf : Vouchers → List (List ℕ) → Type 0
HavePairsOf vouchers lines = (key item : List ℕ) → HasPair vouchers.pairs key item ↔ TellPair lines key item

-- each line is well, and the pairs are those of the lines
pub record AreVouchersOf (text : List ℕ) (vouchers : Vouchers) : Type 0 where
  pub ended : List (List ℕ)
  pub last : List ℕ
  pub lines : AreLines text ended last
  pub well : AllByRecursion IsWell (lines_of ended last)
  pub pairs : HavePairsOf vouchers (lines_of ended last)

-- the text has this first bad line
pub record HasFirstBad (text : List ℕ) (number : ℕ) : Type 0 where
  pub ended : List (List ℕ)
  pub last : List ℕ
  pub lines : AreLines text ended last
  pub first : IsFirstBad (lines_of ended last) number

abbrev pub AnswersVouchers : List ℕ → Result Vouchers VoucherError → Type 0
AnswersVouchers text (Ok vouchers) = AreVouchersOf text vouchers
AnswersVouchers text (Err (BadLine number)) = HasFirstBad text number
AnswersVouchers text (Err OutOfMemory) = Unit {0}

-- why a line is refused
abbrev pub RefusesLine : List ℕ → ℕ → VoucherError → Type 0
RefusesLine line number (BadLine n) = (n ≡ number) × ¬ IsWell line
RefusesLine line number OutOfMemory = Unit {0}
