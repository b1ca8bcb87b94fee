-- Lines of a text, one after the other.
use Rattle.std.specs.Prelude.{◌↔◌}
use Rattle.std.proofs.Common.{◌≡◌, ◌≢◌, ◌∙◌, sym, ap, subst, refl, ℕ, suc, ◌+◌, ◌-◌, ◌<◌, ◌==◌, false, List, [], ◌∷◌, ◌++◌, length, take, drop, arith, append_assoc, length-append, length-drop, get_or, inl, inr, ◌⊎◌}
use Rattle.std.specs.List.{AllByRecursion, flat_map}
use Rattle.std.proofs.Math.Seq.{split_at, get_or-append_seam}
use Rattle.std.proofs.lemmas.Bool.Decides.{eqb_tells}
use Rattle.std.proofs.lemmas.List.{get_or-take, length-take-le, take_all}
use Rattle.std.proofs.lemmas.List.Elements.{All-head, All-tail, All-cons}
use Rattle.cert_vouchers.specs.VoucherFile.{line_feed, HasNoLineFeed, AreLines, without_return, IsWell, TellsPair, TellPair, IsFirstBad}

abbrev pub IsOther : ℕ → Type 0
IsOther octet = octet ≢ line_feed

-- CR

pub without_one : (front : List ℕ) → without_return (front ++ 13 ∷ []) ≡ front
without_one [] = refl
without_one (a ∷ []) = refl
without_one (a ∷ b ∷ s) = ap (λ z. a ∷ z) (without_one (b ∷ s))

other_last : (front : List ℕ) (last : ℕ) → (last == 13) ≡ false → without_return (front ++ last ∷ []) ≡ front ++ last ∷ []
other_last [] last e = rw e refl
other_last (a ∷ []) last e = rw e refl
other_last (a ∷ b ∷ s) last e = ap (λ z. a ∷ z) (other_last (b ∷ s) last e)

pub without_other : (front : List ℕ) (last : ℕ) → last ≢ 13 → without_return (front ++ last ∷ []) ≡ front ++ last ∷ []
without_other front last other = elim (eqb_tells last 13) [ inl is ↦ absurd (other is.1) | inr not ↦ other_last front last not.0 ]

-- lines of a text whose first line ends here
pub line_more : (text line rest : List ℕ) (ended : List (List ℕ)) (last : List ℕ) → text ≡ line ++ 10 ∷ rest → HasNoLineFeed line → AreLines rest ended last → AreLines text (line ∷ ended) last
line_more text line rest ended last is none p = record {
  whole = is ∙ ap (λ z. line ++ 10 ∷ z) p.whole ∙ sym (append_assoc line (10 ∷ []) (flat_map (λ (l : List ℕ). l ++ 10 ∷ []) ended ++ last)) ∙ sym (append_assoc (line ++ 10 ∷ []) (flat_map (λ (l : List ℕ). l ++ 10 ∷ []) ended) last);
  each = (none, p.each);
  behind = p.behind;
}

pub line_last : (text : List ℕ) → HasNoLineFeed text → AreLines text [] text
line_last text none = record { whole = refl; each = tt; behind = none }

pub no_octet : HasNoLineFeed []
no_octet = λ k d lt. absurd (omega arith)

no_octet_more : (a : ℕ) (s : List ℕ) → IsOther a → HasNoLineFeed s → HasNoLineFeed (a ∷ s)
no_octet_more a s other none = All-cons IsOther a s other none

-- one octet before the first line, or before the last
octet_before : (a : ℕ) (s : List ℕ) (ended : List (List ℕ)) (last : List ℕ) → IsOther a → AreLines s ended last → (e : List (List ℕ)) × (l : List ℕ) × AreLines (a ∷ s) e l
octet_before a s [] last other p = ([], a ∷ last, record { whole = ap (λ z. a ∷ z) p.whole; each = tt; behind = no_octet_more a last other p.behind })
octet_before a s (line ∷ ended) last other p =
    ((a ∷ line) ∷ ended, last, record { whole = ap (λ z. a ∷ z) p.whole; each = (no_octet_more a line other p.each.0, p.each.1); behind = p.behind })

-- each text has lines
pub has_lines : (text : List ℕ) → (ended : List (List ℕ)) × (last : List ℕ) × AreLines text ended last
has_lines [] = ([], [], line_last [] no_octet)
has_lines (a ∷ s) =
    let h = has_lines s in
    elim (eqb_tells a 10) [
      | inl is ↦ ([] ∷ h.0, h.1, line_more (a ∷ s) [] s h.0 h.1 (ap (λ z. z ∷ s) is.1) no_octet h.2)
      | inr other ↦ octet_before a s h.0 h.1 other.1 h.2
    ]

-- the first LF of a text
pub first_feed : (text : List ℕ) (k : ℕ) → k < length text → ((d : ℕ) → get_or text k d ≡ 10) → ((j d : ℕ) → j < k → get_or text j d ≢ 10)
    → (text ≡ take k text ++ 10 ∷ drop (k + 1) text) × HasNoLineFeed (take k text)
first_feed text k lt is first =
    let next : suc k ≡ k + 1 = omega arith in
    let long : length (take k text) ≡ k = length-take-le k text (omega arith) in (
      split_at text k 0 lt ∙ ap (λ a. take k text ++ a ∷ drop (suc k) text) (is 0) ∙ ap (λ n. take k text ++ 10 ∷ drop n text) next,
      λ j d below. let b : j < k = omega (arith, long, below) in subst IsOther (sym (get_or-take k text j d b)) (first j d b),
    )

-- the octets after it, as a slice takes them
pub next_found : (text : List ℕ) (k : ℕ) → k < length text → ((d : ℕ) → get_or text k d ≡ 10) → ((j d : ℕ) → j < k → get_or text j d ≢ 10)
    → text ≡ take k text ++ 10 ∷ take (length text - (k + 1)) (drop (k + 1) text)
next_found text k lt is first =
    let behind = drop (k + 1) text in
    (first_feed text k lt is first).0 ∙ ap (λ z. take k text ++ 10 ∷ z) (sym (take_all (length text - (k + 1)) behind (omega (arith, length-drop (k + 1) text))))

head : ℕ → List ℕ → ℕ
head n [] = n
head n (x ∷ xs) = x

tail : {X : Type 0} → List X → List X
tail [] = []
tail (x ∷ xs) = xs

-- two fronts without LF of one text, LF coming next, are equal, and so is what comes after
seam : (k l x y : List ℕ) → HasNoLineFeed k → HasNoLineFeed l → k ++ 10 ∷ x ≡ l ++ 10 ∷ y → (k ≡ l) × (x ≡ y)
unfolding head tail
seam [] [] x y p q e = (refl, ap tail e)
seam [] (b ∷ l) x y p q e = absurd (All-head IsOther b l q (sym (ap (head 0) e)))
seam (a ∷ k) [] x y p q e = absurd (All-head IsOther a k p (ap (head 0) e))
seam (a ∷ k) (b ∷ l) x y p q e =
    let m = seam k l x y (All-tail IsOther a k p) (All-tail IsOther b l q) (ap tail e) in
    (ap (λ z. z ∷ k) (ap (head 0) e) ∙ ap (λ z. b ∷ z) m.0, m.1)

no_feed : (s l y : List ℕ) → HasNoLineFeed s → s ≡ l ++ 10 ∷ y → ⊥
no_feed s l y none e =
    let at : get_or s (length l) 0 ≡ 10 = ap (λ z. get_or z (length l) 0) e ∙ get_or-append_seam l 10 y 0 in
    none (length l) 0 (omega (arith, ap length e, length-append l (10 ∷ y))) at

abbrev pub joined : List (List ℕ) → List ℕ → List ℕ
joined ended last = flat_map (λ (line : List ℕ). line ++ 10 ∷ []) ended ++ last

pub joined_more : (line : List ℕ) (ended : List (List ℕ)) (last : List ℕ) → joined (line ∷ ended) last ≡ line ++ 10 ∷ joined ended last
joined_more line ended last = append_assoc (line ++ 10 ∷ []) (flat_map (λ (l : List ℕ). l ++ 10 ∷ []) ended) last ∙ append_assoc line (10 ∷ []) (joined ended last)

same_lines : (ended others : List (List ℕ)) (last end : List ℕ) → AllByRecursion HasNoLineFeed ended → AllByRecursion HasNoLineFeed others → HasNoLineFeed last → HasNoLineFeed end
    → joined ended last ≡ joined others end → (ended ≡ others) × (last ≡ end)
same_lines [] [] last end p q a b e = (refl, e)
same_lines [] (l ∷ others) last end p q a b e = absurd (no_feed last l (joined others end) a (e ∙ joined_more l others end))
same_lines (k ∷ ended) [] last end p q a b e = absurd (no_feed end k (joined ended last) b (sym e ∙ joined_more k ended last))
same_lines (k ∷ ended) (l ∷ others) last end p q a b e =
    let m = seam k l (joined ended last) (joined others end) p.0 q.0 (sym (joined_more k ended last) ∙ e ∙ joined_more l others end) in
    let n = same_lines ended others last end p.1 q.1 a b m.1 in
    (ap (λ z. z ∷ ended) m.0 ∙ ap (λ z. l ∷ z) n.0, n.1)

pub one_list : (text : List ℕ) (ended others : List (List ℕ)) (last end : List ℕ) → AreLines text ended last → AreLines text others end → (ended ≡ others) × (last ≡ end)
one_list text ended others last end p q = same_lines ended others last end p.each q.each p.behind q.behind (sym p.whole ∙ q.whole)

-- first bad lines

heads : {X : Type 0} (x y : X) (xs ys : List X) → x ∷ xs ≡ y ∷ ys → x ≡ y
heads x y xs ys e = ap (λ l. get_or l 0 x) e

bad_once : (before other after behind : List (List ℕ)) (line bad : List ℕ) → before ++ line ∷ after ≡ other ++ bad ∷ behind → AllByRecursion IsWell before → AllByRecursion IsWell other → ¬ IsWell line → ¬ IsWell bad
    → length before ≡ length other
unfolding tail
bad_once [] [] after behind line bad e p q a b = refl
bad_once [] (y ∷ ys) after behind line bad e p q a b = absurd (a (subst IsWell (sym (heads _ _ _ _ e)) q.0))
bad_once (x ∷ xs) [] after behind line bad e p q a b = absurd (b (subst IsWell (heads _ _ _ _ e) p.0))
bad_once (x ∷ xs) (y ∷ ys) after behind line bad e p q a b = ap suc (bad_once xs ys after behind line bad (ap tail e) p.1 q.1 a b)

pub one_bad : (lines : List (List ℕ)) (m n : ℕ) → IsFirstBad lines m → IsFirstBad lines n → m ≡ n
one_bad lines m n p q =
    p.counted ∙ ap (λ k. k + 1) (bad_once p.before q.before p.after q.after p.line q.line (sym p.lines_are ∙ q.lines_are) p.well q.well p.bad q.bad) ∙ sym q.counted

pub well_there : (lines before after : List (List ℕ)) (line : List ℕ) → AllByRecursion IsWell lines → lines ≡ before ++ line ∷ after → IsWell line
unfolding tail
well_there [] [] after line w e = cc
well_there [] (x ∷ before) after line w e = cc
well_there (y ∷ lines) [] after line w e = subst IsWell (heads _ _ _ _ e) w.0
well_there (y ∷ lines) (x ∷ before) after line w e = well_there lines before after line w.1 (ap tail e)

-- one line more

pub well_more : (lines : List (List ℕ)) (line : List ℕ) → AllByRecursion IsWell lines → IsWell line → AllByRecursion IsWell (lines ++ line ∷ [])
well_more [] line p q = (q, tt)
well_more (x ∷ lines) line p q = (p.0, well_more lines line p.1 q)

pub pair_more : (lines : List (List ℕ)) (line key item : List ℕ) → TellPair (lines ++ line ∷ []) key item ↔ (TellPair lines key item ⊎ TellsPair line key item)
pair_more [] line key item = (λ t. elim t [ inl a ↦ inr a | inr b ↦ absurd b ], λ t. elim t [ inl a ↦ absurd a | inr b ↦ inl b ])
pair_more (x ∷ lines) line key item =
    let more = pair_more lines line key item in (
      λ t. elim t [ inl a ↦ inl (inl a) | inr b ↦ elim (more.0 b) [ inl c ↦ inl (inr c) | inr d ↦ inr d ] ],
      λ t. elim t [ inl a ↦ elim a [ inl c ↦ inl c | inr d ↦ inr (more.1 (inl d)) ] | inr b ↦ inr (more.1 (inr b)) ],
    )
