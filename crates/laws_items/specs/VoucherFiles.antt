-- Voucher files and readers of them: they try the laws' definitions, not the code.
use Rattle.std.specs.Prelude.{ℕ, List, [], ◌∷◌, ◌++◌, replicate, Ok}
use Rattle.std.specs.Global.{Global}
use Rattle.std.proofs.Common.{inl}
use Rattle.std.proofs.Math.Dec.{lit<}
use Rattle.std_collections.specs.Layout.BTreeMap.{btree_map}
use Rattle.cert_vouchers.specs.declared.vouchers.Vouchers.{Vouchers}
use Rattle.cert_vouchers.specs.declared.reading.Reading.{Reading}
use Rattle.cert_vouchers.specs.declared.reader.VoucherReader.{VoucherReader}
use Rattle.laws_graph.specs.Vectors.{vec_of}

-- a digest of zeros, the same in hex, and the line of such a key and item
abbrev pub zeros : List ℕ
zeros = replicate 32 0

abbrev pub digits : List ℕ
digits = replicate 64 48

abbrev pub zeros_line : List ℕ
zeros_line = digits ++ 32 ∷ digits

-- one letter, and a line that is ended before it
abbrev pub letter : List ℕ
letter = 120 ∷ []

abbrev pub two_lines : List (List ℕ)
two_lines = [] ∷ letter ∷ []

-- an empty line, ended by LF
abbrev pub empty_line : List ℕ
empty_line = 10 ∷ []

module _ (alloc : Global) where
  abbrev pub no_vouchers : Vouchers
  no_vouchers = record { alloc = alloc; pairs = btree_map [] (inl tt) }

  -- a reader at the beginning of a line, counted from 1, which has seen no pair
  abbrev pub reading_at : ℕ → Reading
  reading_at number = record { vouchers = no_vouchers; line = vec_of alloc [] (lit< tt); number = number }

  abbrev pub reader_at : ℕ → VoucherReader
  reader_at number = record { reading = Ok (reading_at number) }
