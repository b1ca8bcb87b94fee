use Rattle.std.proofs.Common.{rules, arith, ap, refl, FitsSigned, w8}
use Rattle.std.proofs.lemmas.Int.{to_z-of_z}
use Rattle.jiff.specs.Words.{civil_nanos}
use Rattle.jiff_core.proofs.SignedLemmas.{signed_arith}
use Rattle.asn1_times.proofs.moment.shifted.Goals as goal

pub returns-in-Ok : goal.returns-in-Ok
returns-in-Ok c =
    let fh : FitsSigned w8 c.args.hour = search rules in
    let fm : FitsSigned w8 c.args.minute = search rules in
    let value = simp to_z-of_z at c.offset_minutes.ensures.value in (
      (search rules, search rules),
      omega
          (arith, signed_arith, c.in-Ok.ensures.value, ap civil_nanos c.to_plain.ensures, ap civil_nanos c.from_plain.ensures, c.from-minutes.ensures, value, c.offset_minutes.ensures.small),
    )

pub returns-in-Err : goal.returns-in-Err
returns-in-Err c =
    let fh : FitsSigned w8 c.args.hour = search rules in
    let fm : FitsSigned w8 c.args.minute = search rules in
    let value = simp to_z-of_z at c.offset_minutes.ensures.value in (
      refl,
      λ range is.
          let same = ap civil_nanos c.to_plain.ensures in
          let ok = c.in-Err.ensures.succeeds.1 (omega (arith, signed_arith, is, same, c.from-minutes.ensures, value, c.offset_minutes.ensures.small)) in
          cc,
    )
