-- Answers of one text, and of one text in pieces.
use Rattle.std.proofs.Common.{◌≡◌, ◌∙◌, sym, ap, subst, ℕ, List, [], ◌∷◌, ◌++◌, append_assoc, Result, Ok, Err}
use Rattle.std.specs.List.{concat, AllByRecursion}
use Rattle.std.proofs.lemmas.List.{append-nil}
use Rattle.cert_vouchers.specs.declared.vouchers.Vouchers.{Vouchers}
use Rattle.cert_vouchers.specs.declared.reading.VoucherError.{VoucherError}
use Rattle.cert_vouchers.specs.declared.reading.VoucherError.TheVariants.{BadLine, OutOfMemory}
use Rattle.cert_vouchers.specs.declared.reader.VoucherReader.{VoucherReader}
use Rattle.cert_vouchers.specs.VoucherFile.{AreLines, lines_of, IsWell, TellPair, IsFirstBad}
use Rattle.cert_vouchers.specs.Answers.{AreVouchersOf, HasFirstBad, AnswersVouchers}
use Rattle.cert_vouchers.specs.Reader.{HasTaken, TakesPieces, Finishes, Agree}
use Rattle.cert_vouchers.proofs.LineFacts.{one_list, one_bad, well_there}

one_lines : (text : List ℕ) (ended others : List (List ℕ)) (last end : List ℕ) → AreLines text ended last → AreLines text others end → lines_of ended last ≡ lines_of others end
one_lines text ended others last end p q =
    let one = one_list text ended others last end p q in
    ap (λ z. lines_of z last) one.0 ∙ ap (λ z. lines_of others z) one.1

never_both : (text : List ℕ) (vouchers : Vouchers) (number : ℕ) → AreVouchersOf text vouchers → HasFirstBad text number → ⊥
never_both text vouchers number p q =
    let same = one_lines text p.ended q.ended p.last q.last p.lines q.lines in
    q.first.bad (well_there (lines_of q.ended q.last) q.first.before q.first.after q.first.line (subst (AllByRecursion IsWell) same p.well) q.first.lines_are)

pub answers_agree : (text : List ℕ) (answer other : Result Vouchers VoucherError) → AnswersVouchers text answer → AnswersVouchers text other → Agree answer other
answers_agree text (Ok v) (Ok w) p q =
    let same = one_lines text p.ended q.ended p.last q.last p.lines q.lines in
    λ key item. (λ h. (q.pairs key item).1 (subst (λ z. TellPair z key item) same ((p.pairs key item).0 h)), λ h. (p.pairs key item).1 (subst (λ z. TellPair z key item) (sym same) ((q.pairs key item).0 h)))
answers_agree text (Ok v) (Err (BadLine n)) p q = never_both text v n p q
answers_agree text (Ok v) (Err OutOfMemory) p q = tt
answers_agree text (Err (BadLine m)) (Ok w) p q = never_both text w m q p
answers_agree text (Err (BadLine m)) (Err (BadLine n)) p q =
    let same = one_lines text p.ended q.ended p.last q.last p.lines q.lines in
    one_bad (lines_of q.ended q.last) m n (subst (λ z. IsFirstBad z m) same p.first) q.first
answers_agree text (Err (BadLine m)) (Err OutOfMemory) p q = tt
answers_agree text (Err OutOfMemory) other p q = tt

-- pieces taken one after the other make up what follows the text
pieces_taken : (pieces : List (List ℕ)) (start last : VoucherReader) (text : List ℕ) → HasTaken start text → TakesPieces start pieces last → HasTaken last (text ++ concat pieces)
pieces_taken [] start last text s takes = subst (HasTaken last) (sym (append-nil text)) (subst (λ (r : VoucherReader). HasTaken r text) takes s)
pieces_taken (piece ∷ pieces) start last text s takes =
    subst (HasTaken last) (append_assoc text piece (concat pieces)) (pieces_taken pieces takes.0 last (text ++ piece) (takes.1 text s) takes.2)

pub cuttings_agree : (pieces others : List (List ℕ)) (start other_start last other_last : VoucherReader) (answer other : Result Vouchers VoucherError) → HasTaken start [] → HasTaken other_start [] → TakesPieces start pieces last
    → TakesPieces other_start others other_last → concat pieces ≡ concat others → Finishes last answer → Finishes other_last other → Agree answer other
cuttings_agree pieces others start other_start last other_last answer other s t takes takes' joined f g =
    answers_agree (concat others) answer other (f (concat others) (subst (HasTaken last) joined (pieces_taken pieces start last [] s takes))) (g (concat others) (pieces_taken others other_start other_last [] t takes'))
