use Rattle.std.proofs.Common.{rules, refl, sym}
use Rattle.asn1_times.specs.UtcTimes.{IsUtcTime}
use Rattle.asn1_times.specs.UtcLaws.{utc_found, utc_none, utc_unfit}
use Rattle.asn1_times.specs.ReaderLaws.{utc_time_read, utc_time_unread, utc_time_unfit}
use Rattle.asn1_times.proofs.utc_time.UtcTime.from_bytes.Goals as goal

pub returns-in_default-clause-value : goal.returns-in_default-clause-value
returns-in_default-clause-value c = (λ e. cc, λ e v p. utc_none c.args.octets.now c.in_default.ensures v.0 p)

pub returns-then-not-is_utc_time-clause-value : goal.returns-then-not-is_utc_time-clause-value
returns-then-not-is_utc_time-clause-value c =
    let never = c.if-not-is_utc_time.true in
    let unfit : IsUtcTime c.in-Some.time → ⊥ = λ is. let t = c.is_utc_time.ensures.1 is in cc in
    (λ e. cc, λ e v p. utc_unfit c.args.octets.now c.in-Some.time c.in-Some.ensures unfit v.0 p)

pub returns-clause-value : goal.returns-clause-value
returns-clause-value c = let t = c.if-not-is_utc_time.false in utc_found c.args.octets.now c.in-Some.time (sym c.in-Some.ensures) (c.is_utc_time.ensures.0 (search rules))

pub returns-in_default-clause-exact : goal.returns-in_default-clause-exact
returns-in_default-clause-exact c = (utc_time_unread c.args.octets.now (sym c.in_default.ensures), refl)

pub returns-then-not-is_utc_time-clause-exact : goal.returns-then-not-is_utc_time-clause-exact
returns-then-not-is_utc_time-clause-exact c =
    let never = c.if-not-is_utc_time.true in
    let unfit : IsUtcTime c.in-Some.time → ⊥ = λ is. let t = c.is_utc_time.ensures.1 is in cc in
    (utc_time_unfit c.args.octets.now c.in-Some.time (sym c.in-Some.ensures) unfit, refl)

pub returns-clause-exact : goal.returns-clause-exact
returns-clause-exact c = let t = c.if-not-is_utc_time.false in utc_time_read c.args.octets.now c.in-Some.time (sym c.in-Some.ensures) (c.is_utc_time.ensures.0 (search rules))
