-- The worked lines, and the readers of them.
use Rattle.std.proofs.Common.{◌≡◌, ap, subst, sym, refl, ℕ, ◌+◌, List, [], ◌∷◌, ◌++◌, length, length-append, map, get_or, arith, inl, inr, lit≤, Ok, Err, Global}
use Rattle.std.specs.List.{AllByRecursion}
use Rattle.std.proofs.lemmas.List.{append-nil}
use Rattle.std.proofs.lemmas.List.Elements.{All-from_recursion}
use Rattle.hex.specs.Hex.{decode_pairs}
use Rattle.cert_vouchers.specs.Answers.{AnswersVouchers, HavePairsOf}
use Rattle.cert_vouchers.specs.Reader.{Finishes, HasTaken, ReadsTo, TakesPiece, TakesPieces}
use Rattle.cert_vouchers.specs.VoucherFile.{AreLines, HasNoLineFeed, IsFirstBad, IsWell, TellPair, TellsPair, line_feed, without_return}
use Rattle.cert_vouchers.specs.Vouching.{HasPair}
use Rattle.cert_vouchers.specs.declared.reading.VoucherError.TheVariants.{BadLine}
use Rattle.laws_items.specs.VoucherFiles.{digits, empty_line, letter, no_vouchers, reader_at, reading_at, two_lines, zeros, zeros_line}

no_feed : HasNoLineFeed []
no_feed k d lt = absurd (omega (arith, lt))

letter_no_feed : HasNoLineFeed letter
letter_no_feed = All-from_recursion (λ octet. octet ≡ line_feed → ⊥) letter (λ e. omega (arith, e), tt)

pub lines : AreLines (10 ∷ letter) ([] ∷ []) letter
lines = record { whole = refl; each = (no_feed, tt); behind = letter_no_feed }

pub pair : TellsPair zeros_line zeros zeros
unfolding decode_pairs
pair = record { first = digits; second = digits; line_is = refl; key_is = refl; item_is = refl }

pub well : AllByRecursion IsWell (zeros_line ∷ [] ∷ [])
well = (inr (zeros, zeros, pair), (inl refl, tt))

-- one octet has no space between two digests
no_pair : (first second key item : List ℕ) → letter ≡ first ++ 32 ∷ second → ⊥
no_pair [] second key item e = let same : 120 ≡ 32 = ap (λ (s : List ℕ). get_or s 0 0) e in omega (arith, same)
no_pair (x ∷ first) second key item e = let long = ap (λ (s : List ℕ). length s) e in omega (arith, long, length-append first (32 ∷ second))

letter_is_bad : IsWell letter → ⊥
letter_is_bad (inl e) = cc
letter_is_bad (inr p) = no_pair p.2.first p.2.second p.0 p.1 p.2.line_is

pub bad : IsFirstBad two_lines 2
bad = record { before = [] ∷ []; line = letter; after = []; lines_are = refl; well = (inl refl, tt); bad = letter_is_bad; counted = refl }

pub answer : AnswersVouchers (10 ∷ letter) (Err (BadLine 2))
answer = record { ended = [] ∷ []; last = letter; lines = lines; first = bad }

-- an empty line has no pair
nothing_between : (first second : List ℕ) → [] ≡ first ++ 32 ∷ second → ⊥
nothing_between first second e = let long = ap (λ (s : List ℕ). length s) e in omega (arith, long, length-append first (32 ∷ second))

none_in_empty : (key item : List ℕ) → TellsPair [] key item → ⊥
none_in_empty key item t = nothing_between t.first t.second t.line_is

well_then : (ls : List (List ℕ)) → AllByRecursion IsWell ls → AllByRecursion IsWell (ls ++ [] ∷ [])
well_then [] w = (inl refl, tt)
well_then (l ∷ ls) w = (w.0, well_then ls w.1)

none_then : (ls : List (List ℕ)) (key item : List ℕ) → (TellPair ls key item → ⊥) → TellPair (ls ++ [] ∷ []) key item → ⊥
none_then [] key item none (inl t) = none_in_empty key item t
none_then [] key item none (inr t) = t
none_then (l ∷ ls) key item none (inl t) = none (inl t)
none_then (l ∷ ls) key item none (inr t) = none_then ls key item (λ u. none (inr u)) t

no_lines : (ended : List (List ℕ)) (text : List ℕ) → 1 ≡ length ended + 1 → AreLines text ended [] → text ≡ []
no_lines [] text counted p = p.whole
no_lines (l ∷ ended) text counted p = absurd (omega (arith, counted))

module _ (alloc : Global) where
  no_voucher : (key item : List ℕ) → HasPair (no_vouchers alloc).pairs key item → ⊥
  no_voucher key item h = let none = h.1 in cc

  none_of : (ls : List (List ℕ)) → ((key item : List ℕ) → TellPair ls key item → ⊥) → HavePairsOf (no_vouchers alloc) ls
  none_of ls none key item = (λ h. absurd (no_voucher key item h), λ t. absurd (none key item t))

  -- at the first line nothing was read
  begun : (text : List ℕ) → HasTaken (reader_at alloc 1) text → text ≡ []
  begun text h = let r = h.held in no_lines r.ended text r.counted r.lines

  pub nothing_taken : HasTaken (reader_at alloc 1) []
  nothing_taken = record {
    held = record {
      ended = [];
      lines = record { whole = refl; each = tt; behind = no_feed };
      well = tt;
      pairs = none_of [] (λ key item t. t);
      counted = refl;
      short = lit≤ tt;
    };
  }

  line_taken : HasTaken (reader_at alloc 2) empty_line
  line_taken = record {
    held = record {
      ended = [] ∷ [];
      lines = record { whole = refl; each = (no_feed, tt); behind = no_feed };
      well = (inl refl, tt);
      pairs = none_of ([] ∷ []) (λ key item t. none_then [] key item (λ u. u) t);
      counted = refl;
      short = lit≤ tt;
    };
  }

  takes_line : TakesPiece (reader_at alloc 1) empty_line (reader_at alloc 2)
  takes_line text h = subst (λ (z : List ℕ). HasTaken (reader_at alloc 2) (z ++ empty_line)) (sym (begun text h)) line_taken

  takes_none : TakesPiece (reader_at alloc 1) [] (reader_at alloc 1)
  takes_none text h = subst (λ (z : List ℕ). HasTaken (reader_at alloc 1) z) (sym (append-nil text)) h

  pub in_one : TakesPieces (reader_at alloc 1) (empty_line ∷ []) (reader_at alloc 2)
  in_one = (reader_at alloc 2, takes_line, refl)

  pub in_two : TakesPieces (reader_at alloc 1) ([] ∷ empty_line ∷ []) (reader_at alloc 2)
  in_two = (reader_at alloc 1, takes_none, (reader_at alloc 2, takes_line, refl))

  none_told : (text : List ℕ) (r : ReadsTo (reading_at alloc 2) text) (key item : List ℕ) → TellPair (map without_return r.ended) key item → ⊥
  none_told text r key item t = no_voucher key item ((r.pairs key item).1 t)

  pub finishes : Finishes (reader_at alloc 2) (Ok (no_vouchers alloc))
  finishes text h =
      let r = h.held in
      record {
        ended = r.ended;
        last = [];
        lines = r.lines;
        well = well_then (map without_return r.ended) r.well;
        pairs = none_of (map without_return r.ended ++ [] ∷ []) (λ key item. none_then (map without_return r.ended) key item (none_told text r key item));
      }
