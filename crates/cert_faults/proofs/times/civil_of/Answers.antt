use Rattle.std.proofs.Common.{refl, arith, w8, w16}
use Rattle.std.proofs.lemmas.Int.{to_z_pos}
use Rattle.der_tree.specs.Time.{IsMoment}
use Rattle.der_tree.specs.TimeReading.{moment_of}
use Rattle.cert_model.proofs.TimeParts.{not_real}
use Rattle.cert_faults.proofs.times.civil_of.Goals as goal

pub returns-in-Err : goal.returns-in-Err
returns-in-Err c =
    let year = to_z_pos w16 c.args.clock.year (omega (arith, c.requires.year)) in
    let month = to_z_pos w8 c.args.clock.month (omega (arith, c.requires.month)) in
    let day = to_z_pos w8 c.args.clock.day (omega (arith, c.requires.day)) in
    let hour = to_z_pos w8 c.args.clock.hour (omega (arith, c.requires.hour)) in
    let minute = to_z_pos w8 c.args.clock.minute (omega (arith, c.requires.minute)) in
    let second = to_z_pos w8 c.args.clock.second (omega (arith, c.requires.second)) in
    let refused = rw (year, month, day, hour, minute, second) at c.in-Err.ensures.succeeds.1 in
    let unreal : IsMoment (moment_of c.args.clock) → ⊥ = λ real. let wrong = refused real in cc in
    rw (not_real (moment_of c.args.clock) c.requires.year unreal) refl
