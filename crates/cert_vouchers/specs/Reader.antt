-- What a reader of a voucher file holds, and which texts it has taken.
use Rattle.std.specs.Prelude.{◌≡◌, ◌↔◌, ℕ, ◌+◌, ◌≤◌, List, [], ◌∷◌, ◌++◌, length, map, Result, Ok, Err}
use Rattle.std.specs.List.{AllByRecursion}
use Rattle.cert_vouchers.specs.declared.vouchers.Vouchers.{Vouchers}
use Rattle.cert_vouchers.specs.declared.reading.Reading.{Reading}
use Rattle.cert_vouchers.specs.declared.reading.VoucherError.{VoucherError}
use Rattle.cert_vouchers.specs.declared.reading.VoucherError.TheVariants.{BadLine, OutOfMemory}
use Rattle.cert_vouchers.specs.declared.reader.VoucherReader.{VoucherReader}
use Rattle.cert_vouchers.specs.Vouching.{HasPair}
use Rattle.cert_vouchers.specs.VoucherFile.{AreLines, without_return, IsWell}
use Rattle.cert_vouchers.specs.Answers.{HavePairsOf, HasFirstBad, AnswersVouchers}

-- a line with a pair has at most so many octets before its LF: two digests in hex, a space, and a CR
abbrev pub longest_line : ℕ
longest_line = 130

-- each line of the text that is ended is well, and the pairs are those of these lines; the last, which nothing ends yet, is kept
pub record ReadsTo (reading : Reading) (text : List ℕ) : Type 0 where
  pub ended : List (List ℕ)
  pub lines : AreLines text ended reading.line.items
  pub well : AllByRecursion IsWell (map without_return ended)
  pub pairs : HavePairsOf reading.vouchers (map without_return ended)
  pub counted : reading.number ≡ length ended + 1
  pub short : length reading.line.items ≤ longest_line

-- whatever follows the text: its first bad line is this one
abbrev pub IsRefused : List ℕ → VoucherError → Type 0
IsRefused text (BadLine number) = (more : List ℕ) → HasFirstBad (text ++ more) number
IsRefused text OutOfMemory = Unit {0}

-- these octets were taken
abbrev pub Takes : Reading → Reading → List ℕ → Type 0
Takes old new octets = (text : List ℕ) → ReadsTo old text → ReadsTo new (text ++ octets)

-- they were not, for this reason
abbrev pub Refuses : Reading → List ℕ → VoucherError → Type 0
Refuses reading octets error = (text : List ℕ) → ReadsTo reading text → IsRefused (text ++ octets) error

abbrev pub HoldsText : Result Reading VoucherError → List ℕ → Type 0
HoldsText (Ok reading) text = ReadsTo reading text
HoldsText (Err error) text = IsRefused text error

-- the reader holds what is in the text; of one that has a bad line, the number of the first. One that lacked memory may have taken any text, and
-- returns `OutOfMemory`
pub record HasTaken (reader : VoucherReader) (text : List ℕ) : Type 0 where
  pub held : HoldsText reader.reading text

-- the reader lacked memory
abbrev pub HasFailed : VoucherReader → Type 0
HasFailed reader = reader.reading ≡ Err OutOfMemory

-- whatever text the reader had taken, it has now taken that text followed by the piece
abbrev pub TakesPiece : VoucherReader → List ℕ → VoucherReader → Type 0
TakesPiece reader piece next = (text : List ℕ) → HasTaken reader text → HasTaken next (text ++ piece)

-- one after the other
abbrev pub TakesPieces : VoucherReader → List (List ℕ) → VoucherReader → Type 0
TakesPieces reader [] last = reader ≡ last
TakesPieces reader (piece ∷ pieces) last = (next : VoucherReader) × TakesPiece reader piece next × TakesPieces next pieces last

-- what a reader gives in the end
abbrev pub Finishes : VoucherReader → Result Vouchers VoucherError → Type 0
Finishes reader result = (text : List ℕ) → HasTaken reader text → AnswersVouchers text result

-- two answers have equal pairs, or one first bad line, unless memory was refused
abbrev pub Agree : Result Vouchers VoucherError → Result Vouchers VoucherError → Type 0
Agree (Ok vouchers) (Ok others) = (key item : List ℕ) → HasPair vouchers.pairs key item ↔ HasPair others.pairs key item
Agree (Ok vouchers) (Err (BadLine n)) = ⊥
Agree (Ok vouchers) (Err OutOfMemory) = Unit {0}
Agree (Err (BadLine m)) (Ok others) = ⊥
Agree (Err (BadLine m)) (Err (BadLine n)) = m ≡ n
Agree (Err (BadLine m)) (Err OutOfMemory) = Unit {0}
Agree (Err OutOfMemory) other = Unit {0}
