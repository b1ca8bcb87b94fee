use Rattle.std.proofs.Common.{rules, refl, FitsSigned, w8}
use Rattle.std.proofs.lemmas.Int.{to_z-of_z}
use Rattle.asn1_times.proofs.MomentLemmas.{moment_shifted, exact_shifted, moment_plain}
use Rattle.asn1_times.specs.ReaderLaws.{moment_is, moment_none}
use Rattle.asn1_times.proofs.moment.moment_in.Goals as goal

pub returns-in-Offset-clause-moment : goal.returns-in-Offset-clause-moment
returns-in-Offset-clause-moment c =
    let fh : FitsSigned w8 c.in-Offset.hour = search rules in
    let fm : FitsSigned w8 c.in-Offset.minute = search rules in
    let given = simp to_z-of_z at c.shifted.ensures in
    moment_shifted c.args.year c.args.time.now c.in-Some.local c.in-Offset.hour c.in-Offset.minute c.shifted.result
    (c.in-Some.ensures.some.0 (search rules)) c.in-Some.ensures.fields (search rules) given

pub returns-in-Offset-clause-exact : goal.returns-in-Offset-clause-exact
returns-in-Offset-clause-exact c =
    let fh : FitsSigned w8 c.in-Offset.hour = search rules in
    let fm : FitsSigned w8 c.in-Offset.minute = search rules in
    let given = simp to_z-of_z at c.shifted.ensures in
    exact_shifted c.args.year c.args.time.now c.in-Some.local c.in-Offset.hour c.in-Offset.minute c.shifted.result
    (c.in-Some.ensures.some.0 (search rules)) c.in-Some.ensures.fields (search rules) given

pub returns-in_default-tz : goal.returns-in_default-tz
returns-in_default-tz c =
    let is = moment_plain c.args.year c.args.time.now c.in-Some.local c.in_default-tz.not-Offset (c.in-Some.ensures.some.0 (search rules)) c.in-Some.ensures.fields in
    record { moment = is; exact = (moment_is c.args.year c.args.time.now c.in-Some.local).1 is; fields = λ z. c.in-Some.ensures.fields }

pub returns-in_default-clause-exact : goal.returns-in_default-clause-exact
returns-in_default-clause-exact c = (moment_none c.args.year c.args.time.now (λ clock _ _. let there = c.in_default.ensures.some.1 clock in cc), refl)
