-- Lines that hold pairs.
use Rattle.std.proofs.Common.{◌≡◌, ◌∙◌, sym, ap, subst, ℕ, List, [], ◌∷◌, ◌++◌, length, take, drop, Result, Ok, Err, OnOk, false}
use Rattle.std.specs.Result.{is_err}
use Rattle.std.proofs.Math.Seq.{take-append_seam, drop-append_seam}
use Rattle.hex.specs.declared.error.FromHexError.{FromHexError}
use Rattle.hex.specs.Hex.{decode_sized}
use Rattle.hex.proofs.HexLemmas.{decode_sized-ok}
use Rattle.cert_vouchers.specs.VoucherFile.{TellsPair}

first_is : (line key item : List ℕ) (t : TellsPair line key item) → take 64 line ≡ t.first
first_is line key item t =
    let n : length t.first ≡ 64 = decode_sized-ok t.first 32 key t.key_is in
    ap (take 64) t.line_is ∙ ap (λ k. take k (t.first ++ 32 ∷ t.second)) (sym n) ∙ take-append_seam t.first (32 ∷ t.second)

behind_is : (line key item : List ℕ) (t : TellsPair line key item) → drop 64 line ≡ 32 ∷ t.second
behind_is line key item t =
    let n : length t.first ≡ 64 = decode_sized-ok t.first 32 key t.key_is in
    ap (drop 64) t.line_is ∙ ap (λ k. drop k (t.first ++ 32 ∷ t.second)) (sym n) ∙ drop-append_seam t.first (32 ∷ t.second)

head : ℕ → List ℕ → ℕ
head n [] = n
head n (x ∷ xs) = x

tail : List ℕ → List ℕ
tail [] = []
tail (x ∷ xs) = xs

-- what a line that holds a pair has at its places
pub record Parts (first : List ℕ) (between : ℕ) (second key item : List ℕ) : Type 0 where
  pub between_is : between ≡ 32
  pub key_is : decode_sized first 32 ≡ Ok key
  pub item_is : decode_sized second 32 ≡ Ok item

pub parts : (line key item first second : List ℕ) (between : ℕ) → TellsPair line key item → first ≡ take 64 line → between ∷ second ≡ drop 64 line → Parts first between second key item
unfolding head tail
parts line key item first second between t f b =
    let behind = b ∙ behind_is line key item t in record {
      between_is = ap (head 0) behind;
      key_is = subst (λ s. decode_sized s 32 ≡ Ok key) (sym (f ∙ first_is line key item t)) t.key_is;
      item_is = subst (λ s. decode_sized s 32 ≡ Ok item) (sym (ap tail behind)) t.item_is;
    }

one_value : {E X : Type 0} (x y : X) → ◌≡◌ {A = Result X E} (Ok x) (Ok y) → x ≡ y
one_value x y e = cc

pub one_pair : (line key item other_key other_item : List ℕ) → TellsPair line key item → TellsPair line other_key other_item → (key ≡ other_key) × (item ≡ other_item)
one_pair line key item other_key other_item t u =
    let p = parts line other_key other_item t.first t.second 32 u (sym (first_is line key item t)) (sym (behind_is line key item t)) in
    (one_value {E = FromHexError} key other_key (sym t.key_is ∙ p.key_is), one_value {E = FromHexError} item other_item (sym t.item_is ∙ p.item_is))

pub told_again : (line k i key item : List ℕ) → TellsPair line k i → key ≡ k → item ≡ i → TellsPair line key item
told_again line k i key item t a b = subst (λ x. TellsPair line x item) (sym a) (subst (λ y. TellsPair line k y) (sym b) t)

pub when_ok : {A E : Type 0} (r : Result A E) (P : Type 0) → OnOk r P → is_err r ≡ false → P
when_ok (Ok x) P p e = p
when_ok (Err x) P p e = cc
