-- How far the words of a path are read.
use Rattle.std.proofs.Common.{◌≡◌, ◌≢◌, ◌∙◌, sym, ap, refl, ℕ, ◌<◌, ◌^◌, List, [], ◌∷◌, ◌++◌, arith, append_assoc, codes}
use Rattle.std.specs.Fmt.{decimal}
use Rattle.std.specs.List.{AllByRecursion}
use Rattle.certpath_evidence.specs.Evidence.{path, position_words, path_words, FitsSaid}
use Rattle.certpath_evidence.proofs.NumberFacts.{digits_of, no_other}
use Rattle.certpath_evidence.proofs.Pieces.{HasNo, seam, not_there, nowhere, no_more}
use Rattle.certpath_evidence.proofs.WordFacts.{no_digit}

abbrev Below : ℕ → Type 0
Below p = p < 2 ^ 64

pub record PathSoFar (words positions rest : List ℕ) : Type 0 where
  pub fits : AllByRecursion Below positions
  pub words_are : words ≡ position_words positions ++ rest
  pub only : (ps : List ℕ) (a : ℕ) → FitsSaid (path ps a) → words ≡ path_words ps a → (qs : List ℕ) × FitsSaid (path qs a) × (rest ≡ path_words qs a)

pub none_yet : (words : List ℕ) → PathSoFar words [] words
none_yet words = record { fits = tt; words_are = refl; only = λ ps a fits e. (ps, fits, e) }

all_more : (positions : List ℕ) (p : ℕ) → AllByRecursion Below positions → p < 2 ^ 64 → AllByRecursion Below (positions ++ p ∷ [])
all_more [] p all small = (small, tt)
all_more (x ∷ xs) p all small = (all.0, all_more xs p all.1 small)

words_more : (positions after : List ℕ) (p : ℕ) → position_words (positions ++ p ∷ []) ++ after ≡ position_words positions ++ (decimal p ++ 32 ∷ after)
words_more [] after p = append_assoc (decimal p) (32 ∷ []) after
words_more (x ∷ xs) after p =
    append_assoc (decimal x) (32 ∷ position_words (xs ++ p ∷ [])) after ∙ ap (λ z. decimal x ++ 32 ∷ z) (words_more xs after p)
    ∙ sym (append_assoc (decimal x) (32 ∷ position_words xs) (decimal p ++ 32 ∷ after))

-- the words of a path whose first position is this
pub words_on : (q : ℕ) (qs : List ℕ) (a : ℕ) → path_words (q ∷ qs) a ≡ decimal q ++ 32 ∷ path_words qs a
words_on q qs a = append_assoc (decimal q) (32 ∷ position_words qs) (codes "anchor " ++ decimal a)

pub no_space : HasNo 32 (codes "anchor")
no_space = no_more 32 97 (110 ∷ 99 ∷ 104 ∷ 111 ∷ 114 ∷ []) (λ e. absurd (omega arith)) (no_more 32 110 (99 ∷ 104 ∷ 111 ∷ 114 ∷ []) (λ e. absurd (omega arith)) (no_more 32 99 (104 ∷ 111 ∷ 114 ∷ []) (λ e. absurd (omega arith))
    (no_more 32 104 (111 ∷ 114 ∷ []) (λ e. absurd (omega arith)) (no_more 32 111 (114 ∷ []) (λ e. absurd (omega arith)) (no_more 32 114 [] (λ e. absurd (omega arith)) (nowhere 32))))))

-- the first word, if another word comes before one space
pub word_is : (q : ℕ) (qs : List ℕ) (a : ℕ) (rest word after : List ℕ) → FitsSaid (path (q ∷ qs) a) → rest ≡ word ++ 32 ∷ after → HasNo 32 word → rest ≡ path_words (q ∷ qs) a → (word ≡ decimal q) × (after ≡ path_words qs a)
word_is q qs a rest word after fits is none e = seam 32 word (decimal q) after (path_words qs a) none (no_other 32 q fits.0.0 no_digit) (sym is ∙ e ∙ words_on q qs a)

pub anchor_is : (a : ℕ) (rest word after : List ℕ) → rest ≡ word ++ 32 ∷ after → HasNo 32 word → rest ≡ path_words [] a → (word ≡ codes "anchor") × (after ≡ decimal a)
anchor_is a rest word after is none e = seam 32 word (codes "anchor") after (decimal a) none no_space (sym is ∙ e)

-- the word of an anchor is no number
pub anchor_no_number : (q : ℕ) → q < 2 ^ 64 → codes "anchor" ≡ decimal q → ⊥
anchor_no_number q small e = let d = digits_of (codes "anchor") q small e in let top = d.0.1 in absurd (omega arith)

pub path_more : (words positions rest word after : List ℕ) (p : ℕ) → PathSoFar words positions rest → rest ≡ word ++ 32 ∷ after → HasNo 32 word → word ≢ codes "anchor" → p < 2 ^ 64 → word ≡ decimal p
    → PathSoFar words (positions ++ p ∷ []) after
path_more words positions rest word after p s is none other small number = record {
  fits = all_more positions p s.fits small;
  words_are = s.words_are ∙ ap (λ z. position_words positions ++ z) (is ∙ ap (λ z. z ++ 32 ∷ after) number) ∙ sym (words_more positions after p);
  only = λ ps a fits e. let t = s.only ps a fits e in more_of t.0 a rest word after is none other t.1 t.2;
}
  where
    more_of : (qs : List ℕ) (a : ℕ) (rest word after : List ℕ) → rest ≡ word ++ 32 ∷ after → HasNo 32 word → word ≢ codes "anchor" → FitsSaid (path qs a) → rest ≡ path_words qs a
        → (os : List ℕ) × FitsSaid (path os a) × (after ≡ path_words os a)
    more_of [] a rest word after is none other fits e = absurd (other (anchor_is a rest word after is none e).0)
    more_of (q ∷ qs) a rest word after is none other fits e = (qs, (fits.0.1, fits.1), (word_is q qs a rest word after fits is none e).1)

-- the end of a path
pub path_found : (words positions rest word after : List ℕ) (a : ℕ) → PathSoFar words positions rest → rest ≡ word ++ 32 ∷ after → word ≡ codes "anchor" → a < 2 ^ 64 → after ≡ decimal a
    → FitsSaid (path positions a) × (words ≡ path_words positions a)
path_found words positions rest word after a s is anchor small number =
    ((s.fits, small), s.words_are ∙ ap (λ z. position_words positions ++ z) (is ∙ ap (λ z. z ++ 32 ∷ after) anchor ∙ ap (λ z. codes "anchor" ++ 32 ∷ z) number))

-- no path has these words

pub no_anchor : (words positions rest word after : List ℕ) → PathSoFar words positions rest → rest ≡ word ++ 32 ∷ after → HasNo 32 word → word ≡ codes "anchor" → ((n : ℕ) → n < 2 ^ 64 → after ≡ decimal n → ⊥)
    → (ps : List ℕ) (a : ℕ) → FitsSaid (path ps a) → words ≡ path_words ps a → ⊥
no_anchor words positions rest word after s is none anchor number ps a fits e = let t = s.only ps a fits e in refused t.0 t.1 t.2
  where
    refused : (qs : List ℕ) → FitsSaid (path qs a) → rest ≡ path_words qs a → ⊥
    refused [] f g = number a f.1 (anchor_is a rest word after is none g).1
    refused (q ∷ qs) f g = anchor_no_number q f.0.0 (sym anchor ∙ (word_is q qs a rest word after f is none g).0)

pub no_position : (words positions rest word after : List ℕ) → PathSoFar words positions rest → rest ≡ word ++ 32 ∷ after → HasNo 32 word → word ≢ codes "anchor" → ((n : ℕ) → n < 2 ^ 64 → word ≡ decimal n → ⊥)
    → (ps : List ℕ) (a : ℕ) → FitsSaid (path ps a) → words ≡ path_words ps a → ⊥
no_position words positions rest word after s is none other number ps a fits e = let t = s.only ps a fits e in refused t.0 t.1 t.2
  where
    refused : (qs : List ℕ) → FitsSaid (path qs a) → rest ≡ path_words qs a → ⊥
    refused [] f g = other (anchor_is a rest word after is none g).0
    refused (q ∷ qs) f g = number q f.0.0 (word_is q qs a rest word after f is none g).0

pub no_word : (words positions rest : List ℕ) → PathSoFar words positions rest → HasNo 32 rest → (ps : List ℕ) (a : ℕ) → FitsSaid (path ps a) → words ≡ path_words ps a → ⊥
no_word words positions rest s none ps a fits e = let t = s.only ps a fits e in refused t.0 t.1 t.2
  where
    refused : (qs : List ℕ) → FitsSaid (path qs a) → rest ≡ path_words qs a → ⊥
    refused [] f g = not_there 32 rest (codes "anchor") (decimal a) none g
    refused (q ∷ qs) f g = not_there 32 rest (decimal q) (path_words qs a) none (g ∙ words_on q qs a)
