-- A header that begins octets is read, and nothing else is.
use Rattle.std.proofs.Common.{◌≡◌, ◌∙◌, refl, ap, subst, ℕ, List, Ok, Err}
use Rattle.std.specs.Int.Digits.{AllBelowBase}
use Rattle.std.specs.Result.{result_ok}
use Rattle.asn1_core.proofs.Headers.{header_found, header_again}
use Rattle.asn1_core.proofs.Numbers.{append_below}
use Rattle.asn1_core.specs.Answers.{Answer as Reads}
use Rattle.asn1_core.specs.Reading.{header_at}
use Rattle.asn1_core.specs.Strict.{Head}
use Rattle.x509_core.specs.Answers.{plain}
use Rattle.x509_core.specs.Grammar.{Header}
use Rattle.x509_core.specs.Reading.{front_header_at}

headed_by : (i : List ℕ) (o : Reads Head) (h : Head) (r : List ℕ) → header_at i ≡ o → plain (result_ok o) ≡ Ok (h, r) → header_at i ≡ Ok (h, r)
headed_by i (Ok x) h r read given = let same : x ≡ (h, r) = cc in read ∙ ap (λ z. Ok z) same
headed_by i (Err e) h r read given = cc

-- a header that was read, and what is left
pub front_header_found : (i : List ℕ) (h : Head) (r : List ℕ) → AllBelowBase 256 i → front_header_at i ≡ Ok (h, r) → Header i h r × AllBelowBase 256 r
unfolding front_header_at
front_header_found i h r below given =
    let begins = header_found i h r below (headed_by i (header_at i) h r refl given) in
    (record { front = begins.front; in_range = begins.head; spells = begins.spells; whole = begins.whole }, append_below 256 begins.front r (subst (AllBelowBase 256) begins.whole below))

pub front_header_only : (i : List ℕ) (h : Head) (r : List ℕ) → Header i h r → front_header_at i ≡ Ok (h, r)
unfolding front_header_at
front_header_only i h r is =
    let read : header_at i ≡ Ok (h, r) = ap header_at is.whole ∙ header_again is.front h r is.in_range is.spells in
    ap (λ z. plain (result_ok z)) read
