use Rattle.std.proofs.Common.{rules, refl, sym}
use Rattle.asn1_times.specs.GeneralizedTimes.{HasFields}
use Rattle.asn1_times.specs.GeneralizedLaws.{generalized_found, generalized_none, generalized_unfit}
use Rattle.asn1_times.specs.ReaderLaws.{generalized_time_read, generalized_time_unread, generalized_time_unfit}
use Rattle.asn1_times.proofs.generalized_time.GeneralizedTime.from_bytes.Goals as goal

pub returns-in_default-clause-value : goal.returns-in_default-clause-value
returns-in_default-clause-value c = (λ e. cc, λ e v p. generalized_none c.args.octets.now c.in_default.ensures v.0 p)

pub returns-then-not-has_fields-clause-value : goal.returns-then-not-has_fields-clause-value
returns-then-not-has_fields-clause-value c =
    let never = c.if-not-has_fields.true in
    let unfit : HasFields c.in-Some.time → ⊥ = λ is. let t = c.has_fields.ensures.1 is in cc in
    (λ e. cc, λ e v p. generalized_unfit c.args.octets.now c.in-Some.time c.in-Some.ensures unfit v.0 p)

pub returns-clause-value : goal.returns-clause-value
returns-clause-value c = let t = c.if-not-has_fields.false in generalized_found c.args.octets.now c.in-Some.time (sym c.in-Some.ensures) (c.has_fields.ensures.0 (search rules))

pub returns-in_default-clause-exact : goal.returns-in_default-clause-exact
returns-in_default-clause-exact c = (generalized_time_unread c.args.octets.now (sym c.in_default.ensures), refl)

pub returns-then-not-has_fields-clause-exact : goal.returns-then-not-has_fields-clause-exact
returns-then-not-has_fields-clause-exact c =
    let never = c.if-not-has_fields.true in
    let unfit : HasFields c.in-Some.time → ⊥ = λ is. let t = c.has_fields.ensures.1 is in cc in
    (generalized_time_unfit c.args.octets.now c.in-Some.time (sym c.in-Some.ensures) unfit, refl)

pub returns-clause-exact : goal.returns-clause-exact
returns-clause-exact c = let t = c.if-not-has_fields.false in generalized_time_read c.args.octets.now c.in-Some.time (sym c.in-Some.ensures) (c.has_fields.ensures.0 (search rules))
