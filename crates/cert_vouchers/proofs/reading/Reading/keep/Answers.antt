use Rattle.std.proofs.Common.{◌≡◌, ◌∙◌, ap, refl, ℕ, List, ◌++◌, ◌≤◌, length, length-append, arith, Bool, false, cond, not, is_ok}
use Rattle.std.proofs.lemmas.Bool.{cond-true}
use Rattle.cert_vouchers.proofs.Progress.{keeps, too_long}
use Rattle.cert_vouchers.proofs.reading.Reading.keep.Goals as goal

pub returns-then-octets-saturating_sub-clause-refused : goal.returns-then-octets-saturating_sub-clause-refused
returns-then-octets-saturating_sub-clause-refused c =
    let line = c.args.self.now.line in
    too_long c.args.self.now c.args.octets.now c.requires (omega (arith, length-append line.items c.args.octets.now, line.ok.0))

-- if `extend_from_slice` is no `Err`, the line has grown by the octets
grown : (old octets new : List ℕ) (ok err : Bool) → new ≡ cond ok (old ++ octets) old → ok ≡ not err → err ≡ false → new ≡ old ++ octets
grown old octets new ok err is negation fine = is ∙ cond-true ok (old ++ octets) old (negation ∙ ap not fine)

pub returns-clause-ok : goal.returns-clause-ok
returns-clause-ok c = λ text s.
    let old = c.args.self.now in
    let octets = c.args.octets.now in
    let within = s.short in
    let short : length (old.line.items ++ octets) ≤ 130 = omega (arith, length-append old.line.items octets, old.line.ok.0, within) in
    keeps old (record { vouchers = old.vouchers; line = c.extend_from_slice.new.self; number = old.number }) octets text refl refl
    (grown old.line.items octets c.extend_from_slice.new.self.items (is_ok c.extend_from_slice.result) c.is_err.result c.extend_from_slice.ensures.items c.is_err.ensures.negation c.if-is_err.false) short c.requires s
