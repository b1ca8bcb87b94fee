-- The worked stream is framed, and the bundles stand for it.
use Rattle.std.proofs.Common.{◌≡◌, ◌≤◌, ◌<◌, ◌*◌, ◌+◌, ℕ, Bool, true, false, nat_lt, if◌then◌else◌, List, [], ◌∷◌, ◌++◌, length, length-append, refl, sym, ◌∙◌, ap, subst, arith}
use Rattle.std.specs.List.{concat, AllByRecursion}
use Rattle.std.specs.Int.Digits.{digits_of}
use Rattle.asn1_core.specs.Strict.{strict_length}
use Rattle.cert_framing.specs.Framing.{IsItem, Splits, IsLongest, IsCutShort, IsFraming}
use Rattle.cert_framing.specs.Held.{StandsFor, TakesPiece, TakesPieces}
use Rattle.laws_graph.specs.Worked.{cut_end, empty_item, fed, stream, unfed}

pub item : IsItem 10 empty_item
item = record { content = []; small = omega arith; spelled = refl }

cut : IsCutShort 10 (0x30 ∷ [])
cut = (0x00 ∷ [], λ e. cc, item)

nothing : IsCutShort 10 []
nothing = (empty_item, λ e. cc, item)

-- an item has two octets at least
either : (b : Bool) (x y : List ℕ) → 0 < length x → 0 < length y → 0 < length (if b then x else y)
either true x y some other = some
either false x y some other = other

two_octets : (limit : ℕ) (octets : List ℕ) → IsItem limit octets → 2 ≤ length octets
two_octets limit octets is =
    let n : ℕ = length is.content in
    let some : 0 < length (strict_length n) = either (nat_lt n 128) (n ∷ []) ((128 + length (digits_of 256 n)) ∷ digits_of 256 n) (omega arith) (omega arith) in
    omega (arith, ap length is.spelled, length-append (strict_length n) is.content, some)

two_each : (limit : ℕ) (items : List (List ℕ)) → AllByRecursion (IsItem limit) items → 2 * length items ≤ length (concat items)
two_each limit [] all = omega arith
two_each limit (first ∷ items) all =
    omega (arith, two_octets limit first all.0, two_each limit items all.1, length-append first (concat items))

-- items that leave fewer than two octets are the most that there are
longest_by_length : (octets : List ℕ) (items : List (List ℕ)) (rest : List ℕ) → Splits 10 octets items rest → length octets < 2 * length items + 2 → IsLongest 10 octets items rest
longest_by_length octets items rest splits short = record {
  splits = splits;
  longest = λ others after there. omega (arith, short, two_each 10 others there.each, ap length there.whole, length-append (concat others) after);
}

longest : IsLongest 10 stream (empty_item ∷ []) (0x30 ∷ [])
longest = longest_by_length stream (empty_item ∷ []) (0x30 ∷ []) (record { whole = refl; each = (item, tt) }) (omega arith)

pub framing : IsFraming 10 stream (empty_item ∷ []) cut_end
framing = record { rest = 0x30 ∷ []; longest = longest; ends = (λ e. cc, cut, refl) }

pub stands : StandsFor fed stream
stands = record { rest = 0x30 ∷ []; sound = refl; longest = longest; is_kept = (refl, cut) }

pub unfed_stands : StandsFor unfed []
unfed_stands = record {
  rest = [];
  sound = refl;
  longest = longest_by_length [] [] [] (record { whole = refl; each = tt }) (omega arith);
  is_kept = (refl, nothing);
}

-- what an unfed bundle stands for is empty
none : (octets : List ℕ) → StandsFor unfed octets → octets ≡ []
none octets there = there.longest.splits.whole ∙ sym there.is_kept.0

takes : TakesPiece unfed stream fed
takes = (refl, λ octets there. subst (λ (z : List ℕ). StandsFor fed (z ++ stream)) (sym (none octets there)) stands)

pub pieces : TakesPieces unfed (stream ∷ []) fed
pieces = (fed, takes, refl)
