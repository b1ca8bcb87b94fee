-- How far the reading of a voucher file has come.
use Rattle.std.specs.Prelude.{◌↔◌, ◌⊎◌}
use Rattle.std.proofs.Common.{◌≡◌, ◌∙◌, sym, ap, subst, refl, ℕ, ◌+◌, ◌<◌, ◌≤◌, List, [], ◌∷◌, ◌++◌, length, map, arith, append_assoc, length-append, inl, inr, Result, Ok, Err, IsErrAnd, IfErr}
use Rattle.std.specs.List.{AllByRecursion}
use Rattle.std.proofs.lemmas.List.{append-nil}
use Rattle.cert_vouchers.specs.declared.vouchers.Vouchers.{Vouchers}
use Rattle.cert_vouchers.specs.declared.reading.Reading.{Reading}
use Rattle.cert_vouchers.specs.declared.reading.VoucherError.{VoucherError}
use Rattle.cert_vouchers.specs.declared.reading.VoucherError.TheVariants.{BadLine, OutOfMemory}
use Rattle.cert_vouchers.specs.Vouching.{HasPair}
use Rattle.cert_vouchers.specs.VoucherFile.{HasNoLineFeed, AreLines, without_return, IsWell, TellsPair, TellPair}
use Rattle.cert_vouchers.specs.Answers.{AreVouchersOf, HasFirstBad, AnswersVouchers, RefusesLine}
use Rattle.cert_vouchers.specs.Reader.{ReadsTo, IsRefused, Takes, Refuses}
use Rattle.cert_vouchers.proofs.LineFacts.{no_octet, well_more, pair_more}
use Rattle.cert_vouchers.proofs.Seams.{lines_kept, line_ended, bad_ended, bad_last, bad_long}

pub reads_nothing : (reading : Reading) → ((key item : List ℕ) → HasPair reading.vouchers.pairs key item → ⊥) → reading.line.items ≡ [] → reading.number ≡ 1 → ReadsTo reading []
reads_nothing reading none empty first = record {
  ended = [];
  lines = record { whole = sym empty; each = tt; behind = subst HasNoLineFeed (sym empty) no_octet };
  well = tt;
  pairs = λ key item. (λ h. absurd (none key item h), λ h. absurd h);
  counted = first;
  short = omega (arith, ap length empty);
}

-- octets that end no line

pub keeps : (old new : Reading) (octets text : List ℕ) → new.vouchers ≡ old.vouchers → new.number ≡ old.number → new.line.items ≡ old.line.items ++ octets → length (old.line.items ++ octets) ≤ 130 → HasNoLineFeed octets
    → ReadsTo old text → ReadsTo new (text ++ octets)
keeps old new octets text same counted grown short none s = record {
  ended = s.ended;
  lines = subst (λ l. AreLines (text ++ octets) s.ended l) (sym grown) (lines_kept text octets s.ended old.line.items s.lines none);
  well = s.well;
  pairs = λ key item. subst (λ (v : Vouchers). HasPair v.pairs key item ↔ TellPair (map without_return s.ended) key item) (sym same) (s.pairs key item);
  counted = counted ∙ s.counted;
  short = subst (λ (l : List ℕ). length l ≤ 130) (sym grown) short;
}

pub too_long : (old : Reading) (octets : List ℕ) → HasNoLineFeed octets → 130 < length (old.line.items ++ octets) → Refuses old octets (BadLine old.number)
too_long old octets none long = λ text s. bad_long (text ++ octets) s.ended (old.line.items ++ octets) old.number (lines_kept text octets s.ended old.line.items s.lines none) s.well s.counted long

-- LF

-- one pair more, if the line holds one
abbrev pub OneMore : Vouchers → Vouchers → List ℕ → Type 0
OneMore old new line = (key item : List ℕ) → HasPair new.pairs key item ↔ (HasPair old.pairs key item ⊎ TellsPair line key item)

pairs_more : (done : List (List ℕ)) (line : List ℕ) (old new : Vouchers) → ((key item : List ℕ) → HasPair old.pairs key item ↔ TellPair done key item) → OneMore old new line
    → (key item : List ℕ) → HasPair new.pairs key item ↔ TellPair (done ++ line ∷ []) key item
pairs_more done line old new before more key item =
    let m = pair_more done line key item in (
      λ h. elim ((more key item).0 h) [ inl a ↦ m.1 (inl ((before key item).0 a)) | inr b ↦ m.1 (inr b) ],
      λ t. elim (m.0 t) [ inl a ↦ (more key item).1 (inl ((before key item).1 a)) | inr b ↦ (more key item).1 (inr b) ],
    )

shown_more : (ended : List (List ℕ)) (line : List ℕ) → map without_return (ended ++ line ∷ []) ≡ map without_return ended ++ without_return line ∷ []
shown_more [] line = refl
shown_more (x ∷ ended) line = ap (λ z. without_return x ∷ z) (shown_more ended line)

pub ends_line : (old new : Reading) (text : List ℕ) → IsWell (without_return old.line.items) → OneMore old.vouchers new.vouchers (without_return old.line.items) → new.number ≡ old.number + 1 → new.line.items ≡ []
    → ReadsTo old text → ReadsTo new (text ++ 10 ∷ [])
ends_line old new text well more counted empty s =
    let line = old.line.items in
    let shown = shown_more s.ended line in record {
      ended = s.ended ++ line ∷ [];
      lines = subst (λ l. AreLines (text ++ 10 ∷ []) (s.ended ++ line ∷ []) l) (sym empty) (line_ended text s.ended line s.lines);
      well = subst (AllByRecursion IsWell) (sym shown) (well_more (map without_return s.ended) (without_return line) s.well well);
      pairs = λ key item. subst (λ ls. HasPair new.vouchers.pairs key item ↔ TellPair ls key item) (sym shown)
          (pairs_more (map without_return s.ended) (without_return line) old.vouchers new.vouchers s.pairs more key item);
      counted = omega (arith, counted, s.counted, length-append s.ended (line ∷ []));
      short = omega (arith, ap length empty);
    }

pub bad_line : (old : Reading) (error : VoucherError) → RefusesLine (without_return old.line.items) old.number error → Refuses old (10 ∷ []) error
bad_line old (BadLine n) r = λ text s. subst (λ k. (more : List ℕ) → HasFirstBad ((text ++ 10 ∷ []) ++ more) k) (sym r.0) (bad_ended text s.ended old.line.items old.number s.lines s.well s.counted r.1)
bad_line old OutOfMemory r = λ text s. tt

-- the end of the text

pub all_read : (old : Reading) (new : Vouchers) (text : List ℕ) → IsWell old.line.items → OneMore old.vouchers new old.line.items → ReadsTo old text → AreVouchersOf text new
all_read old new text well more s = record {
  ended = s.ended;
  last = old.line.items;
  lines = s.lines;
  well = well_more (map without_return s.ended) old.line.items s.well well;
  pairs = pairs_more (map without_return s.ended) old.line.items old.vouchers new s.pairs more;
}

pub bad_end : (old : Reading) (error : VoucherError) (text : List ℕ) → RefusesLine old.line.items old.number error → ReadsTo old text → AnswersVouchers text (Err error)
bad_end old (BadLine n) text r s = subst (HasFirstBad text) (sym r.0) (bad_last text s.ended old.line.items old.number s.lines s.well s.counted r.1)
bad_end old OutOfMemory text r s = tt

pub handed_on : (text : List ℕ) (e : VoucherError) (r : Result Vouchers VoucherError) → AnswersVouchers text (Err e) → IsErrAnd r (λ x. x ≡ e) → AnswersVouchers text r
handed_on text e (Ok v) a b = absurd b
handed_on text e (Err x) a b = subst (λ z. AnswersVouchers text (Err z)) (sym b) a

-- a piece, line by line

-- a refused text is refused whatever follows
pub refused_more : (text behind whole : List ℕ) (error : VoucherError) → text ++ behind ≡ whole → IsRefused text error → IsRefused whole error
refused_more text behind whole (BadLine n) e r = λ more. subst (λ z. HasFirstBad z n) (sym (append_assoc text behind more) ∙ ap (λ z. z ++ more) e) (r (behind ++ more))
refused_more text behind whole OutOfMemory e r = tt

pub refused_answers : (text : List ℕ) (error : VoucherError) → IsRefused text error → AnswersVouchers text (Err error)
refused_answers text (BadLine n) r = subst (λ z. HasFirstBad z n) (append-nil text) (r [])
refused_answers text OutOfMemory r = tt

-- the front of the piece was taken
pub record FedTo (old now : Reading) (piece rest : List ℕ) : Type 0 where
  pub fed : List ℕ
  pub split : piece ≡ fed ++ rest
  pub takes : Takes old now fed

pub fed_nothing : (old : Reading) (piece : List ℕ) → FedTo old old piece piece
fed_nothing old piece = record { fed = []; split = refl; takes = λ text s. subst (ReadsTo old) (sym (append-nil text)) s }

pub fed_more : (old now new : Reading) (piece rest octets after : List ℕ) → rest ≡ octets ++ after → Takes now new octets → FedTo old now piece rest → FedTo old new piece after
fed_more old now new piece rest octets after is t f = record {
  fed = f.fed ++ octets;
  split = f.split ∙ ap (λ z. f.fed ++ z) is ∙ sym (append_assoc f.fed octets after);
  takes = λ text s. subst (ReadsTo new) (append_assoc text f.fed octets) (t (text ++ f.fed) (f.takes text s));
}

pub fed_all : (old new : Reading) (piece : List ℕ) → FedTo old new piece [] → Takes old new piece
fed_all old new piece f = λ text s. subst (λ z. ReadsTo new (text ++ z)) (sym (f.split ∙ append-nil f.fed)) (f.takes text s)

pub fed_refused : (old now : Reading) (piece rest octets after : List ℕ) (error : VoucherError) → rest ≡ octets ++ after → Refuses now octets error → FedTo old now piece rest → Refuses old piece error
fed_refused old now piece rest octets after error is r f = λ text s.
    refused_more ((text ++ f.fed) ++ octets) after (text ++ piece) error
    (append_assoc (text ++ f.fed) octets after ∙ ap (λ z. (text ++ f.fed) ++ z) (sym is) ∙ append_assoc text f.fed rest ∙ ap (λ z. text ++ z) (sym f.split)) (r (text ++ f.fed) (f.takes text s))

pub if_handed_on : {A : Type 0} (r : Result A VoucherError) (e : VoucherError) (P : VoucherError → Type 0) → IsErrAnd r (λ x. x ≡ e) → P e → IfErr r P
if_handed_on (Ok x) e P h p = absurd h
if_handed_on (Err x) e P h p = subst P (sym h) p
