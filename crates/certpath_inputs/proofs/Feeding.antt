-- What a loop of reads has fed to a bundle so far.
use Rattle.std.proofs.Common.{◌≡◌, ℕ, ◌≤◌, max, true, false, List, ◌++◌, length, take, drop, Option, Result, Ok, Err, OnOk, if◌then◌else◌, subst, ◌∙◌, sym, ap}
use Rattle.std.proofs.Math.Nat.{le-max_right, max-le}
use Rattle.std.proofs.Math.Seq.{take-append_seam}
use Rattle.std.specs.Result.{is_err, is_ok}
use Rattle.std.specs.Io.KnownBytes.{Consumes}
use Rattle.std.proofs.KnownBytes.{Consumes-trans}
use Rattle.cert_framing.specs.Held.{Held, StandsFor}
use Rattle.cert_vouchers.specs.declared.reader.VoucherReader.{VoucherReader}
use Rattle.cert_vouchers.specs.Reader as pairs
use Rattle.certpath_inputs.specs.Reads.{ReadsAll, ReadsVouchers}

-- the bundle stands for all that was read
pub record Reads (before after : Option (List ℕ)) (limit : ℕ) (held : Held) : Type 0 where
  pub stream : List ℕ
  pub took : Consumes before after stream
  pub stands : StandsFor held stream
  pub limited : held.limit ≡ limit

pub reads_more : (before mid after : Option (List ℕ)) (limit : ℕ) (held held' : Held) (piece : List ℕ) → Reads before mid limit held → Consumes mid after piece
    → ((stream : List ℕ) → StandsFor held stream → StandsFor held' (stream ++ piece)) → held'.limit ≡ held.limit → Reads before after limit held'
reads_more before mid after limit held held' piece r more feeds same = record {
  stream = r.stream ++ piece;
  took = Consumes-trans before mid after r.stream piece r.took more;
  stands = feeds r.stream r.stands;
  limited = same ∙ r.limited;
}

-- what is fed is the front of the buffer, which a read has written
pub front_of_buffer : (count size : ℕ) (written old all : List ℕ) → length written ≡ size → all ≡ take size (written ++ drop (length written) old)
    → take count all ≡ take count written
front_of_buffer count size written old all same e =
    ap (take count) (e ∙ ap (λ n. take n (written ++ drop (length written) old)) (sym same) ∙ take-append_seam written (drop (length written) old))

pub feeds : {A E : Type 0} (r : Result A E) (held held' : Held) (piece fed : List ℕ) → OnOk r ((stream : List ℕ) → StandsFor held stream → StandsFor held' (stream ++ fed))
    → is_err r ≡ false → fed ≡ piece → (stream : List ℕ) → StandsFor held stream → StandsFor held' (stream ++ piece)
feeds (Ok x) held held' piece fed ok no_err e stream s = subst (λ p. StandsFor held' (stream ++ p)) e (ok stream s)
feeds (Err x) held held' piece fed ok no_err e stream s = let bad : true ≡ false = no_err in cc

-- a read of this size is no wider than allowed
pub widest_stays : (first mid last room size : ℕ) → last ≡ max mid room → mid ≤ max first size → room ≡ size → last ≤ max first size
widest_stays first mid last room size e before same =
    let P : ℕ → Type 0 = λ n. n ≤ max first size in
    let Q : ℕ → Type 0 = λ n. n ≤ max first size in
    subst P (sym e) (max-le before (subst Q (sym same) (le-max_right first size)))

-- the text is what was read, and the piece after it
pub text_more : {A E : Type 0} (r : Result A E) (before mid after : Option (List ℕ)) (text piece fed new : List ℕ) → Consumes before mid text → Consumes mid after piece → new ≡ (if is_ok r then text ++ fed else text)
    → is_err r ≡ false → fed ≡ piece → Consumes before after new
text_more (Ok x) before mid after text piece fed new took more is no_err same =
    subst (Consumes before after) (sym (is ∙ ap (λ s. text ++ s) same)) (Consumes-trans before mid after text piece took more)
text_more (Err x) before mid after text piece fed new took more is no_err same = let bad : true ≡ false = no_err in cc

-- the voucher reader has taken all that was read
pub record ReadsPairs (before after : Option (List ℕ)) (reader : VoucherReader) : Type 0 where
  pub text : List ℕ
  pub took : Consumes before after text
  pub taken : pairs.HasTaken reader text

pub pairs_more : (before mid after : Option (List ℕ)) (old new : VoucherReader) (piece fed : List ℕ) → ReadsPairs before mid old → Consumes mid after piece → fed ≡ piece
    → ((text : List ℕ) → pairs.HasTaken old text → pairs.HasTaken new (text ++ fed)) → ReadsPairs before after new
pairs_more before mid after old new piece fed r more same feeds = record {
  text = r.text ++ piece;
  took = Consumes-trans before mid after r.text piece r.took more;
  taken = subst (λ p. pairs.HasTaken new (r.text ++ p)) same (feeds r.text r.taken);
}
