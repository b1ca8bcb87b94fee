-- What is written is read back.
use Rattle.std.proofs.Common.{◌≡◌, ◌≢◌, ◌∙◌, sym, ap, refl, ℕ, zero, suc, ◌+◌, ◌*◌, ◌/◌, ◌%◌, ◌==◌, ◌<◌, Bool, true, false, List, [], ◌∷◌, ◌++◌, length, slice_index, replicate, codes, arith, append_assoc, Option, Some, None, Ok, Result, inl, inr}
use Rattle.std.specs.Prelude.{◌&&◌, nat_le, not, if◌then◌else◌, option_and_then}
use Rattle.std.specs.List.{concat, filter, AllByRecursion}
use Rattle.std.proofs.lemmas.List.{append-nil}
use Rattle.std.proofs.lemmas.Bool.Decides.{eqb_tells}
use Rattle.std.proofs.lemmas.Bool.{and_parts}
use Rattle.std.proofs.lemmas.Slice.Eq.{bytes_eq-Decides}
use Rattle.base64.specs.Rfc4648.{encode_symbols, padding_len}
use Rattle.base64.specs.declared.decode.DecodeError.{DecodeError}
use Rattle.base64.specs.Engines.{standard}
use Rattle.base64.specs.GeneralPurpose.{IsBytes, engine_symbols, encode_of, decode_of}
use Rattle.base64.proofs.Tables.{all_below_at}
use Rattle.base64.proofs.EngineFacts.{decode_of-encode_of, encode_of-nil}
use Rattle.certpath_pem.specs.Lines.{is_white, put_before, lines_of}
use Rattle.certpath_pem.specs.Labels.{Boundary, text, begin, end, is_label_char, is_joint, is_label_rest, is_label, dashes, begin_words, end_words, before_words, after_words, if_label, label_of, boundary_by, boundary_of, holds_boundary}
use Rattle.certpath_pem.specs.Blocks.{block, stray_end, octets, headers, is_text, ends_block, body_of, is_ended, entry_by, opened_by, entries_from, is_symbol, is_blank, has_colon, has_headers, symbols_of, by_symbols, by_decoding, content_of}
use Rattle.certpath_pem.specs.Writing.{wrapped_from, wrapped, boundary_line}
use Rattle.certpath_pem.specs.Laws.{IsBoundaryLine, ReadsBack}
use Rattle.certpath_pem.proofs.LineFacts.{IsPlain, before_feed}
use Rattle.certpath_pem.proofs.LabelFacts.{tells, core_trimmed, label_there}
use Rattle.certpath_pem.proofs.ContentFacts.{by_symbols_some}
use Rattle.certpath_pem.proofs.HoldFacts.{has_dash, no_dash_is_text}

-- neither white space, nor a hyphen, nor a colon
abbrev fine : ℕ → Bool
fine octet = not (is_white octet) && (not (octet == 45) && not (octet == 58))

record IsFine (octet : ℕ) : Type 0 where
  no_white : is_white octet ≡ false
  no_feed : (octet == 10) ≡ false
  no_return : (octet == 13) ≡ false
  no_dash : (octet == 45) ≡ false
  no_colon : (octet == 58) ≡ false

not_says : (b : Bool) → not b ≡ true → b ≡ false
not_says true e = cc
not_says false e = refl

both_ways : (b : Bool) → b ≡ true → b ≡ false → ⊥
both_ways true e f = cc
both_ways false e f = cc

-- no white octet is this one, which is white
other_than : (octet white : ℕ) → is_white white ≡ true → is_white octet ≡ false → (octet == white) ≡ false
other_than octet white e f = elim (eqb_tells octet white) [
  | inl is ↦ absurd (both_ways (is_white octet) (ap is_white is.1 ∙ e) f)
  | inr not ↦ not.0
]

fine_says : (octet : ℕ) → fine octet ≡ true → IsFine octet
fine_says octet e =
    let outer = and_parts (not (is_white octet)) (not (octet == 45) && not (octet == 58)) e in
    let inner = and_parts (not (octet == 45)) (not (octet == 58)) outer.1 in
    let white = not_says (is_white octet) outer.0 in
    record {
      no_white = white;
      no_feed = other_than octet 10 refl white;
      no_return = other_than octet 13 refl white;
      no_dash = not_says (octet == 45) inner.0;
      no_colon = not_says (octet == 58) inner.1;
    }

abbrev AllFine : List ℕ → Type 0
AllFine = AllByRecursion IsFine

-- the 64 symbols
abbrev table : List ℕ
table = engine_symbols standard

fine_at : (k : ℕ) → k < 64 → IsFine (slice_index table k)
fine_at k lt = fine_says (slice_index table k) (all_below_at (λ n. fine (slice_index table n)) 64 k refl lt)

fine_append : (a b : List ℕ) → AllFine a → AllFine b → AllFine (a ++ b)
fine_append [] b f g = g
fine_append (x ∷ a) b f g = (f.0, fine_append a b f.1 g)

quarter : (a : ℕ) → a < 256 → a / 4 < 64
quarter a lt = omega arith

sixteenth : (a b : ℕ) → b < 256 → a % 4 * 16 + b / 16 < 64
sixteenth a b lt = omega arith

sixty_fourth : (b c : ℕ) → c < 256 → b % 16 * 4 + c / 64 < 64
sixty_fourth b c lt = omega arith

left_two : (a : ℕ) → a % 4 * 16 < 64
left_two a = omega arith

left_four : (b : ℕ) → b % 16 * 4 < 64
left_four b = omega arith

left_six : (c : ℕ) → c % 64 < 64
left_six c = omega arith

fine_symbols : (m : List ℕ) → IsBytes m → AllFine (encode_symbols table m)
unfolding encode_symbols
fine_symbols [] h = tt
fine_symbols (a ∷ []) h = (fine_at (a / 4) (quarter a (h 0)), (fine_at (a % 4 * 16) (left_two a), tt))
fine_symbols (a ∷ b ∷ []) h =
    (fine_at (a / 4) (quarter a (h 0)), (fine_at (a % 4 * 16 + b / 16) (sixteenth a b (h 1)), (fine_at (b % 16 * 4) (left_four b), tt)))
fine_symbols (a ∷ b ∷ c ∷ rest) h = (
  fine_at (a / 4) (quarter a (h 0)),
  (
    fine_at (a % 4 * 16 + b / 16) (sixteenth a b (h 1)),
    (
      fine_at (b % 16 * 4 + c / 64) (sixty_fourth b c (h 2)),
      (fine_at (c % 64) (left_six c), fine_symbols rest (λ i. h (suc (suc (suc i))))),
    ),
  ),
)

fine_padding : (n : ℕ) → AllFine (replicate n 61)
fine_padding zero = tt
fine_padding (suc n) = (fine_says 61 refl, fine_padding n)

fine_encoding : (m : List ℕ) → IsBytes m → AllFine (encode_of standard m)
fine_encoding m h =
    fine_append (encode_symbols table m) (replicate (padding_len (length m)) 61) (fine_symbols m h) (fine_padding (padding_len (length m)))

-- the first line of octets that are wrapped, and the others
abbrev first_row : ℕ → List ℕ → List ℕ
first_row room [] = []
first_row zero (octet ∷ s) = []
first_row (suc room) (octet ∷ s) = octet ∷ first_row room s

abbrev other_rows : ℕ → List ℕ → List (List ℕ)
other_rows room [] = []
other_rows zero (octet ∷ s) = (octet ∷ first_row 63 s) ∷ other_rows 63 s
other_rows (suc room) (octet ∷ s) = other_rows room s

abbrev rows : List ℕ → List (List ℕ)
rows s = first_row 64 s ∷ other_rows 64 s

lines_wrapped : (room : ℕ) (s rest : List ℕ) → AllFine s → lines_of (wrapped_from room s ++ rest) ≡ first_row room s ∷ (other_rows room s ++ lines_of rest)
lines_wrapped room [] rest f = refl
lines_wrapped zero (octet ∷ s) rest f =
    rw (f.0.no_feed, f.0.no_return) (ap (λ z. [] ∷ put_before octet z) (lines_wrapped 63 s rest f.1))
lines_wrapped (suc room) (octet ∷ s) rest f =
    rw (f.0.no_feed, f.0.no_return) (ap (put_before octet) (lines_wrapped room s rest f.1))

concat_rows : (room : ℕ) (s : List ℕ) → first_row room s ++ concat (other_rows room s) ≡ s
concat_rows room [] = refl
concat_rows zero (octet ∷ s) = ap (λ z. octet ∷ z) (concat_rows 63 s)
concat_rows (suc room) (octet ∷ s) = ap (λ z. octet ∷ z) (concat_rows room s)

fine_first : (room : ℕ) (s : List ℕ) → AllFine s → AllFine (first_row room s)
fine_first room [] f = tt
fine_first zero (octet ∷ s) f = tt
fine_first (suc room) (octet ∷ s) f = (f.0, fine_first room s f.1)

fine_others : (room : ℕ) (s : List ℕ) → AllFine s → AllByRecursion AllFine (other_rows room s)
fine_others room [] f = tt
fine_others zero (octet ∷ s) f = ((f.0, fine_first 63 s f.1), fine_others 63 s f.1)
fine_others (suc room) (octet ∷ s) f = fine_others room s f.1

fine_rows : (s : List ℕ) → AllFine s → AllByRecursion AllFine (rows s)
fine_rows s f = (fine_first 64 s f, fine_others 64 s f)

dashless : (s : List ℕ) → AllFine s → has_dash s ≡ false
dashless [] f = refl
dashless (a ∷ s) f = rw (f.0.no_dash) (dashless s f.1)

colonless : (s : List ℕ) → AllFine s → has_colon s ≡ false
colonless [] f = refl
colonless (a ∷ s) f = rw (f.0.no_colon) (colonless s f.1)

all_symbols : (s : List ℕ) → AllFine s → filter is_symbol s ≡ s
all_symbols [] f = refl
all_symbols (a ∷ s) f = rw (f.0.no_white) (ap (λ z. a ∷ z) (all_symbols s f.1))

is_text_line : (line : List ℕ) → AllFine line → boundary_of line ≡ text
is_text_line line f = no_dash_is_text line (dashless line f)

body_through : (lines rest : List (List ℕ)) → AllByRecursion AllFine lines → body_of (lines ++ rest) ≡ lines ++ body_of rest
body_through [] rest f = refl
body_through (line ∷ lines) rest f =
    ap (λ (b : Boundary). if is_text b then line ∷ body_of (lines ++ rest) else []) (is_text_line line f.0) ∙ ap (λ z. line ∷ z) (body_through lines rest f.1)

ended_through : (label : List ℕ) (lines rest : List (List ℕ)) → AllByRecursion AllFine lines → is_ended label (lines ++ rest) ≡ is_ended label rest
ended_through label [] rest f = refl
ended_through label (line ∷ lines) rest f =
    ap (λ (b : Boundary). if is_text b then is_ended label (lines ++ rest) else ends_block label b) (is_text_line line f.0) ∙ ended_through label lines rest f.1

none_through : (opened : Option (List ℕ)) (number : ℕ) (lines rest : List (List ℕ)) → AllByRecursion AllFine lines → ((n : ℕ) → entries_from opened n rest ≡ []) → entries_from opened number (lines ++ rest) ≡ []
none_through opened number [] rest f e = e number
none_through opened number (line ∷ lines) rest f e =
    ap (λ (b : Boundary). entry_by b opened number (lines ++ rest) ++ entries_from (opened_by b opened) (number + 1) (lines ++ rest)) (is_text_line line f.0)
    ∙ none_through opened (number + 1) lines rest f.1 e

no_headers : (lines : List (List ℕ)) → AllByRecursion AllFine lines → has_headers lines ≡ false
no_headers [] f = refl
no_headers (line ∷ lines) f = elim (tells (is_blank line)) [
  | inl blank ↦ rw blank (no_headers lines f.1)
  | inr other ↦ rw (other, colonless line f.0) refl
]

-- no octet of a label ends a line
no_feed_there : (after : Bool) (a : ℕ) (s : List ℕ) → is_label_rest after (a ∷ s) ≡ true → (a == 10) ≡ false
no_feed_there after a s e = elim (eqb_tells a 10) [
  | inl is ↦ absurd (let f : false ≡ true = ap (λ z. is_label_rest after (z ∷ s)) (sym is.1) ∙ e in cc)
  | inr not ↦ not.0
]

no_return_there : (after : Bool) (a : ℕ) (s : List ℕ) → is_label_rest after (a ∷ s) ≡ true → (a == 13) ≡ false
no_return_there after a s e = elim (eqb_tells a 13) [
  | inl is ↦ absurd (let f : false ≡ true = ap (λ z. is_label_rest after (z ∷ s)) (sym is.1) ∙ e in cc)
  | inr not ↦ not.0
]

plain_rest : (after : Bool) (s : List ℕ) → is_label_rest after s ≡ true → IsPlain s
plain_rest after [] e = tt
plain_rest after (a ∷ s) e =
    let here : ((a == 10) ≡ false) × ((a == 13) ≡ false) = (no_feed_there after a s e, no_return_there after a s e) in
    elim (tells (is_label_char a)) [
      | inl char ↦ let f : is_label_rest true s ≡ true = rw char at e in (here, plain_rest true s f)
      | inr no_char ↦ elim (tells (is_joint a && after)) [
        | inl joint ↦ let f : is_label_rest false s ≡ true = rw (no_char, joint) at e in (here, plain_rest false s f)
        | inr neither ↦ absurd (let f : false ≡ true = rw (no_char, neither) at e in cc)
      ]
    ]

plain_label : (label : List ℕ) → is_label label ≡ true → IsPlain label
plain_label [] e = tt
plain_label (a ∷ label) e = plain_rest false (a ∷ label) (and_parts (nat_le (length (a ∷ label)) 64) (is_label_rest false (a ∷ label)) e).1

plain_append : (a b : List ℕ) → IsPlain a → IsPlain b → IsPlain (a ++ b)
plain_append [] b f g = g
plain_append (x ∷ a) b f g = (f.0, plain_append a b f.1 g)

plain_five : IsPlain dashes
plain_five = ((refl, refl), ((refl, refl), ((refl, refl), ((refl, refl), ((refl, refl), tt)))))

abbrev first_line : List ℕ → List ℕ
first_line label = begin_words ++ (label ++ dashes)

abbrev last_line : List ℕ → List ℕ
last_line label = end_words ++ (label ++ dashes)

plain_begin : IsPlain begin_words
plain_begin = ((refl, refl), ((refl, refl), ((refl, refl), ((refl, refl), ((refl, refl), ((refl, refl), ((refl, refl), ((refl, refl), ((refl, refl), ((refl, refl), ((refl, refl), tt)))))))))))

plain_end : IsPlain end_words
plain_end = ((refl, refl), ((refl, refl), ((refl, refl), ((refl, refl), ((refl, refl), ((refl, refl), ((refl, refl), ((refl, refl), ((refl, refl), tt)))))))))

-- what these lines are
spelled : (words label : List ℕ) → is_label label ≡ true → IsBoundaryLine words (words ++ (label ++ dashes)) label
spelled words label e = record { before = []; after = []; white_before = tt; white_after = tt; line_is = sym (append-nil (words ++ (label ++ dashes))); label_is = e }

begins : (label : List ℕ) → is_label label ≡ true → boundary_of (first_line label) ≡ begin label
begins label e =
    ap (λ o. boundary_by o (label_of end_words (first_line label)) (holds_boundary (first_line label))) (label_there (codes "----BEGIN ") (first_line label) label (spelled begin_words label e))

no_begin : (label : List ℕ) → is_label label ≡ true → label_of begin_words (last_line label) ≡ None
no_begin label e =
    ap (λ t. option_and_then if_label (option_and_then (before_words dashes) (after_words begin_words t)))
    (core_trimmed (codes "----END ") (last_line label) label (spelled end_words label e))

ends : (label : List ℕ) → is_label label ≡ true → boundary_of (last_line label) ≡ end label
ends label e =
    ap (λ o. boundary_by o (label_of end_words (last_line label)) (holds_boundary (last_line label))) (no_begin label e)
    ∙ ap (λ o. boundary_by None o (holds_boundary (last_line label))) (label_there (codes "----END ") (last_line label) label (spelled end_words label e))

-- the lines of what is written
written_lines : (label s : List ℕ) → is_label label ≡ true → AllFine s
    → lines_of (boundary_line begin_words label ++ wrapped s ++ boundary_line end_words label) ≡ first_line label ∷ (rows s ++ (last_line label ∷ []))
written_lines label s e f =
    let last : List ℕ = boundary_line end_words label in
    let plain_first : IsPlain (first_line label) = plain_append begin_words (label ++ dashes) plain_begin (plain_append label dashes (plain_label label e) plain_five) in
    let plain_last : IsPlain (last_line label) = plain_append end_words (label ++ dashes) plain_end (plain_append label dashes (plain_label label e) plain_five) in
    let regrouped : boundary_line begin_words label ++ wrapped s ++ last ≡ first_line label ++ 10 ∷ (wrapped s ++ last) =
    append_assoc (boundary_line begin_words label) (wrapped s) last ∙ append_assoc (first_line label) (10 ∷ []) (wrapped s ++ last) in
    ap lines_of regrouped ∙ before_feed (first_line label) (wrapped s ++ last) plain_first
    ∙ ap (λ z. first_line label ∷ z) (lines_wrapped 64 s last f ∙ ap (λ z. first_row 64 s ∷ (other_rows 64 s ++ z)) (before_feed (last_line label) [] plain_last))

one_block : (label : List ℕ) (lines : List (List ℕ)) → is_label label ≡ true → AllByRecursion AllFine lines
    → entries_from None 1 (first_line label ∷ (lines ++ (last_line label ∷ []))) ≡ block label 1 lines true ∷ []
one_block label lines e f =
    let rest : List (List ℕ) = last_line label ∷ [] in
    let body : body_of (lines ++ rest) ≡ lines =
    body_through lines rest f ∙ ap (λ (b : Boundary). lines ++ (if is_text b then last_line label ∷ [] else [])) (ends label e) ∙ append-nil lines in
    let ended : is_ended label (lines ++ rest) ≡ true =
    ended_through label lines rest f ∙ ap (λ (b : Boundary). if is_text b then false else ends_block label b) (ends label e) ∙ (bytes_eq-Decides label label).1 refl in
    let no_more : (n : ℕ) → entries_from (Some label) n rest ≡ [] = λ n.
    ap (λ (b : Boundary). entry_by b (Some label) n [] ++ []) (ends label e) ∙ ap (λ (b : Bool). (if b then [] else stray_end n ∷ []) ++ []) ((bytes_eq-Decides label label).1 refl) in
    ap (λ (b : Boundary). entry_by b None 1 (lines ++ rest) ++ entries_from (opened_by b None) 2 (lines ++ rest)) (begins label e)
    ∙ ap (λ z. block label 1 z (is_ended label (lines ++ rest)) ∷ entries_from (Some label) 2 (lines ++ rest)) body
    ∙ ap (λ z. block label 1 lines z ∷ entries_from (Some label) 2 (lines ++ rest)) ended
    ∙ ap (λ z. block label 1 lines true ∷ z) (none_through (Some label) 2 lines rest f no_more)

-- what its lines hold
ok_same : {X E : Type 0} (x y : X) → ◌≡◌ {A = Result X E} (Ok x) (Ok y) → x ≡ y
ok_same x y e = cc

no_bytes : (i : ℕ) → slice_index [] i < 256
no_bytes zero = omega arith
no_bytes (suc i) = omega arith

some_encoding : (o : List ℕ) → IsBytes o → o ≢ [] → encode_of standard o ≢ []
some_encoding o h n e =
    n (ok_same {E = DecodeError} o [] (sym (decode_of-encode_of standard o (refl) h) ∙ ap (decode_of standard) (e ∙ sym (encode_of-nil standard)) ∙ decode_of-encode_of standard [] (refl) no_bytes))

held : (s o : List ℕ) → AllFine s → s ≡ encode_of standard o → IsBytes o → o ≢ [] → content_of (rows s) true ≡ octets o
held s o f is h n =
    let all : symbols_of (rows s) ≡ s = ap (filter is_symbol) (concat_rows 64 s) ∙ all_symbols s f in
    let some : s ≢ [] = λ e. some_encoding o h n (sym is ∙ e) in
    ap (λ (b : Bool). if b then headers else by_symbols (symbols_of (rows s))) (no_headers (rows s) (fine_rows s f))
    ∙ ap by_symbols all ∙ by_symbols_some s some ∙ ap (λ z. by_decoding (decode_of standard z)) is ∙ ap by_decoding (decode_of-encode_of standard o (refl) h)

pub read_back : (label o : List ℕ) → is_label label ≡ true → IsBytes o → o ≢ [] → ReadsBack label o
read_back label o e h n =
    let s : List ℕ = encode_of standard o in
    let f : AllFine s = fine_encoding o h in
    record {
      body = rows s;
      entries = ap (entries_from None 1) (written_lines label s e f) ∙ one_block label (rows s) e (fine_rows s f);
      content = held s o f refl h n;
    }
