-- Lines of a text that goes on.
use Rattle.std.proofs.Common.{◌≡◌, ◌∙◌, sym, ap, subst, refl, ℕ, ◌+◌, ◌<◌, ◌≤◌, List, [], ◌∷◌, ◌++◌, length, map, arith, append_assoc, length-append, inl, inr}
use Rattle.std.specs.List.{flat_map, AllByRecursion}
use Rattle.std.proofs.lemmas.List.{append-nil, length-map}
use Rattle.std.proofs.lemmas.List.Elements.{All-append}
use Rattle.hex.proofs.HexLemmas.{decode_sized-ok}
use Rattle.cert_vouchers.specs.VoucherFile.{HasNoLineFeed, AreLines, without_return, lines_of, IsWell}
use Rattle.cert_vouchers.specs.Answers.{HasFirstBad}
use Rattle.cert_vouchers.proofs.LineFacts.{IsOther, joined, joined_more, has_lines}

all_then : {X : Type 0} (P : X → Type 0) (xs ys : List X) → AllByRecursion P xs → AllByRecursion P ys → AllByRecursion P (xs ++ ys)
all_then P [] ys p q = q
all_then P (x ∷ xs) ys p q = (p.0, all_then P xs ys p.1 q)

-- octets that end no line
pub lines_kept : (text octets : List ℕ) (ended : List (List ℕ)) (line : List ℕ) → AreLines text ended line → HasNoLineFeed octets → AreLines (text ++ octets) ended (line ++ octets)
lines_kept text octets ended line p none = record {
  whole = ap (λ z. z ++ octets) p.whole ∙ append_assoc (flat_map (λ (l : List ℕ). l ++ 10 ∷ []) ended) line octets;
  each = p.each;
  behind = All-append IsOther line octets p.behind none;
}

-- LF
joined_end : (ended : List (List ℕ)) (line : List ℕ) → joined ended line ++ 10 ∷ [] ≡ joined (ended ++ line ∷ []) []
joined_end [] line = sym (append-nil ((line ++ 10 ∷ []) ++ []) ∙ append-nil (line ++ 10 ∷ []))
joined_end (x ∷ ended) line =
    ap (λ z. z ++ 10 ∷ []) (joined_more x ended line) ∙ append_assoc x (10 ∷ joined ended line) (10 ∷ []) ∙ ap (λ z. x ++ 10 ∷ z) (joined_end ended line) ∙ sym (joined_more x (ended ++ line ∷ []) [])

pub line_ended : (text : List ℕ) (ended : List (List ℕ)) (line : List ℕ) → AreLines text ended line → AreLines (text ++ 10 ∷ []) (ended ++ line ∷ []) []
line_ended text ended line p = record {
  whole = ap (λ z. z ++ 10 ∷ []) p.whole ∙ joined_end ended line;
  each = all_then HasNoLineFeed ended (line ∷ []) p.each (p.behind, tt);
  behind = λ k d lt. absurd (omega arith);
}

-- lines after it
joined_then : (ended more : List (List ℕ)) (last : List ℕ) → joined ended [] ++ joined more last ≡ joined (ended ++ more) last
joined_then [] more last = refl
joined_then (x ∷ ended) more last =
    ap (λ z. z ++ joined more last) (joined_more x ended []) ∙ append_assoc x (10 ∷ joined ended []) (joined more last) ∙ ap (λ z. x ++ 10 ∷ z) (joined_then ended more last) ∙ sym (joined_more x (ended ++ more) last)

lines_then : (text rest : List ℕ) (ended more : List (List ℕ)) (last : List ℕ) → AreLines text ended [] → AreLines rest more last → AreLines (text ++ rest) (ended ++ more) last
lines_then text rest ended more last p q = record {
  whole = ap (λ z. z ++ rest) p.whole ∙ ap (λ z. joined ended [] ++ z) q.whole ∙ joined_then ended more last;
  each = all_then HasNoLineFeed ended more p.each q.each;
  behind = q.behind;
}

-- bad lines

lines_at : (ended more : List (List ℕ)) (line last : List ℕ) → lines_of ((ended ++ line ∷ []) ++ more) last ≡ map without_return ended ++ without_return line ∷ lines_of more last
lines_at [] more line last = refl
lines_at (x ∷ ended) more line last = ap (λ z. without_return x ∷ z) (lines_at ended more line last)

pub bad_ended : (text : List ℕ) (ended : List (List ℕ)) (line : List ℕ) (number : ℕ) → AreLines text ended line → AllByRecursion IsWell (map without_return ended) → number ≡ length ended + 1 → ¬ IsWell (without_return line)
    → (more : List ℕ) → HasFirstBad ((text ++ 10 ∷ []) ++ more) number
bad_ended text ended line number p well counted bad more =
    let h = has_lines more in record {
      ended = (ended ++ line ∷ []) ++ h.0;
      last = h.1;
      lines = lines_then (text ++ 10 ∷ []) more (ended ++ line ∷ []) h.0 h.1 (line_ended text ended line p) h.2;
      first = record {
        before = map without_return ended;
        line = without_return line;
        after = lines_of h.0 h.1;
        lines_are = lines_at ended h.0 line h.1;
        well = well;
        bad = bad;
        counted = counted ∙ ap (λ n. n + 1) (sym (length-map ended without_return));
      };
    }

pub bad_last : (text : List ℕ) (ended : List (List ℕ)) (line : List ℕ) (number : ℕ) → AreLines text ended line → AllByRecursion IsWell (map without_return ended) → number ≡ length ended + 1 → ¬ IsWell line → HasFirstBad text number
bad_last text ended line number p well counted bad = record {
  ended = ended;
  last = line;
  lines = p;
  first = record { before = map without_return ended; line = line; after = []; lines_are = refl; well = well; bad = bad; counted = counted ∙ ap (λ n. n + 1) (sym (length-map ended without_return)) };
}

-- a line that is too long

pub long_is_bad : (line : List ℕ) → 129 < length line → ¬ IsWell line
long_is_bad line long w = elim w [
  | inl e ↦ let n = ap length e in absurd (omega (arith, n))
  | inr p ↦
      let t = p.2 in
      let first : length t.first ≡ 64 = decode_sized-ok t.first 32 p.0 t.key_is in
      let second : length t.second ≡ 64 = decode_sized-ok t.second 32 p.1 t.item_is in
      absurd (omega (arith, ap length t.line_is, length-append t.first (32 ∷ t.second)))
]

without_length : (line : List ℕ) → length line ≤ length (without_return line) + 1
without_length [] = omega arith
without_length (a ∷ []) = omega arith
without_length (a ∷ b ∷ s) = let h = without_length (b ∷ s) in omega arith

-- whatever follows
pub bad_long : (text : List ℕ) (ended : List (List ℕ)) (line : List ℕ) (number : ℕ) → AreLines text ended line → AllByRecursion IsWell (map without_return ended) → number ≡ length ended + 1 → 130 < length line → (more : List ℕ) → HasFirstBad (text ++ more) number
bad_long text ended line number p well counted long more = with_lines (has_lines more).0 (has_lines more).1 (has_lines more).2
  where
    with_lines : (e : List (List ℕ)) (l : List ℕ) → AreLines more e l → HasFirstBad (text ++ more) number
    with_lines [] l q =
        let none : HasNoLineFeed more = subst HasNoLineFeed (sym q.whole) q.behind in
        bad_last (text ++ more) ended (line ++ more) number (lines_kept text more ended line p none) well counted (long_is_bad (line ++ more) (omega (arith, length-append line more)))
    with_lines (x ∷ e) l q =
        let rest = joined e l in
        let bad = long_is_bad (without_return (line ++ x)) (omega (arith, without_length (line ++ x), length-append line x)) in
        let found = bad_ended (text ++ x) ended (line ++ x) number (lines_kept text x ended line p q.each.0) well counted bad rest in
        subst (λ z. HasFirstBad z number)
        (append_assoc (text ++ x) (10 ∷ []) rest ∙ append_assoc text x (10 ∷ rest) ∙ ap (λ z. text ++ z) (sym (q.whole ∙ joined_more x e l))) found
