use Rattle.std.proofs.Common.{arith, ◌≡◌, ◌∙◌, sym, ap, ◌<◌, ◌+◌, ◌++◌, ℕ, true, false, length, take, drop}
use Rattle.std.specs.Prelude.{nat_eq}
use Rattle.std.specs.List.{starts_with}
use Rattle.std.proofs.Math.Seq.{take-length}
use Rattle.std.proofs.lemmas.Grind.{common_steps}
use Rattle.certpath_typed.specs.Met.{met}
use Rattle.certpath_typed.proofs.Meeting.{met_more, held_more, one_long}
use Rattle.certpath_typed.proofs.comparison.ComparisonSink.write.Goals as goal

pub returns-then-starts_with-clause-octets : goal.returns-then-starts_with-clause-octets
returns-then-starts_with-clause-octets c =
    let s = c.args.self.now in
    let octets = c.args.octets.now in
    let same : s.differs ≡ false = grind (arith, common_steps) in
    let test : starts_with nat_eq (drop s.at s.whole.now) octets ≡ true = grind (arith, common_steps) in
    held_more s.whole.now s.at (s.at + length octets) s.differs s.differs s.other s.other (take (length octets) octets)
    (met_more s.whole.now s.at s.differs s.other octets same test ∙ ap (λ z. met s.whole.now s.at s.differs s.other ++ z) (sym (take-length octets)))

pub returns-then-starts_with-2-clause-octets : goal.returns-then-starts_with-2-clause-octets
returns-then-starts_with-2-clause-octets c =
    let s = c.args.self.now in
    let octets = c.args.octets.now in
    let same : s.differs ≡ false = grind (arith, common_steps) in
    let test : starts_with nat_eq (drop s.at s.whole.now) (take 1 octets) ≡ true = grind (arith, common_steps) in
    let some : 0 < length octets = grind (arith, common_steps) in
    held_more s.whole.now s.at (s.at + 1) s.differs s.differs s.other s.other (take 1 octets)
    (ap (λ (n : ℕ). met s.whole.now (s.at + n) s.differs s.other) (sym (one_long octets some)) ∙ met_more s.whole.now s.at s.differs s.other (take 1 octets) same test)
