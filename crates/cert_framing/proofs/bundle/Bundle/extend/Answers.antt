use Rattle.std.proofs.Common.{◌≡◌, Bool, true, false, cond, not, is_ok, List, ℕ, ◌++◌, length, take, ◌∙◌, ap, arith}
use Rattle.std.proofs.lemmas.Bool.{cond-true}
use Rattle.std.proofs.lemmas.List.{length-take-le}
use Rattle.cert_framing.specs.Held.{Held}
use Rattle.cert_framing.specs.Views.{has_fault_in, has_failed_in}
use Rattle.cert_framing.specs.Advance.{Advances}
use Rattle.cert_framing.proofs.Bundles.{fed_sound, fed_part, fed_fault}
use Rattle.cert_framing.proofs.bundle.Bundle.extend.Goals as goal

-- if `extend_from_slice` is no `Err`, the octets have grown by the piece, and the walk went over
-- all of them
walked : (limit : ℕ) (octets piece new seen ends ends' : List ℕ) (from at : ℕ) (ok err found goes_on : Bool) → new ≡ cond ok (octets ++ piece) octets
    → ok ≡ not err → err ≡ false → seen ≡ new → found ≡ goes_on → Advances limit seen from ends ends' at found
    → (new ≡ octets ++ piece) × Advances limit (octets ++ piece) from ends ends' at goes_on
walked limit octets piece new seen ends ends' from at ok err found goes_on is negation fine same told advances =
    let grown : new ≡ octets ++ piece = is ∙ cond-true ok (octets ++ piece) octets (negation ∙ ap not fine) in
    (grown, rw (same, grown, told) at advances)

pub invariant_of-self-in-Ok-default-true : goal.invariant_of-self-in-Ok-default-true
invariant_of-self-in-Ok-default-true c =
    let f = c.self.inside in
    let piece = c.args.piece.now in
    let at = c.in-Ok-default-true.at in
    let fed = walked f.limit f.octets.items piece c.extend_from_slice.new.self.items c.deref.result.now f.ends.items c.advance.new.ends.items f.at at
    (is_ok c.extend_from_slice.result) c.is_err.result c.in-Ok-default-true.field-0-1 true c.extend_from_slice.ensures.items c.is_err.ensures.negation
    c.if-is_err.false c.deref.ensures.value c.in-Ok-default-true.field-0-1-test c.in-Ok-default-true.ensures in
    let sound = fed_sound (f.octets.items ++ piece) f.ends.items c.advance.new.ends.items f.limit f.at at c.self.invariant.runs fed.1.walks in
    record { within = rw fed.0 sound.0; runs = sound.1 }

pub returns-in-Ok-default-true-clause-ok : goal.returns-in-Ok-default-true-clause-ok
returns-in-Ok-default-true-clause-ok c =
    let f = c.self.inside in
    let piece = c.args.piece.now in
    let at = c.in-Ok-default-true.at in
    let fed = walked f.limit f.octets.items piece c.extend_from_slice.new.self.items c.deref.result.now f.ends.items c.advance.new.ends.items f.at at
    (is_ok c.extend_from_slice.result) c.is_err.result c.in-Ok-default-true.field-0-1 true c.extend_from_slice.ensures.items c.is_err.ensures.negation
    c.if-is_err.false c.deref.ensures.value c.in-Ok-default-true.field-0-1-test c.in-Ok-default-true.ensures in
    let reads : has_fault_in f.state ≡ false = ap (λ (h : Held). h.has_fault) c.self.view_is ∙ c.requires.reads in
    let sound : has_failed_in f.state ≡ false = ap (λ (h : Held). h.has_failed) c.self.view_is ∙ c.requires.sound in
    λ stream stands.
    let stands' = rw (← c.self.view_is) at stands in
    rw fed.0
    (fed_part f.limit f.octets.items piece f.ends.items c.advance.new.ends.items f.at at (has_fault_in f.state) (has_failed_in f.state)
    (has_fault_in f.state) (has_failed_in f.state) stream c.self.invariant.runs c.self.invariant.within reads reads sound fed.1 stands')

pub invariant_of-self-in-Ok-default-false : goal.invariant_of-self-in-Ok-default-false
invariant_of-self-in-Ok-default-false c =
    let f = c.self.inside in
    let piece = c.args.piece.now in
    let at = c.in-Ok-default-false.at in
    let fed = walked f.limit f.octets.items piece c.extend_from_slice.new.self.items c.deref.result.now f.ends.items c.advance.new.ends.items f.at at
    (is_ok c.extend_from_slice.result) c.is_err.result c.in-Ok-default-false.field-0-1 false c.extend_from_slice.ensures.items c.is_err.ensures.negation
    c.if-is_err.false c.deref.ensures.value c.in-Ok-default-false.field-0-1-test c.in-Ok-default-false.ensures in
    let sound = fed_sound (f.octets.items ++ piece) f.ends.items c.advance.new.ends.items f.limit f.at at c.self.invariant.runs fed.1.walks in
    let front : length (take at (f.octets.items ++ piece)) ≡ at = length-take-le at (f.octets.items ++ piece) sound.0 in
    record { within = rw (c.truncate.ensures.items, fed.0) (omega arith); runs = sound.1 }

pub returns-in-Ok-default-false-clause-ok : goal.returns-in-Ok-default-false-clause-ok
returns-in-Ok-default-false-clause-ok c =
    let f = c.self.inside in
    let piece = c.args.piece.now in
    let at = c.in-Ok-default-false.at in
    let fed = walked f.limit f.octets.items piece c.extend_from_slice.new.self.items c.deref.result.now f.ends.items c.advance.new.ends.items f.at at
    (is_ok c.extend_from_slice.result) c.is_err.result c.in-Ok-default-false.field-0-1 false c.extend_from_slice.ensures.items c.is_err.ensures.negation
    c.if-is_err.false c.deref.ensures.value c.in-Ok-default-false.field-0-1-test c.in-Ok-default-false.ensures in
    let reads : has_fault_in f.state ≡ false = ap (λ (h : Held). h.has_fault) c.self.view_is ∙ c.requires.reads in
    λ stream stands.
    let stands' = rw (← c.self.view_is) at stands in
    rw (c.truncate.ensures.items, fed.0)
    (fed_fault f.limit f.octets.items piece f.ends.items c.advance.new.ends.items f.at at (has_fault_in f.state) (has_failed_in f.state) stream
    c.self.invariant.runs c.self.invariant.within reads fed.1 stands')
