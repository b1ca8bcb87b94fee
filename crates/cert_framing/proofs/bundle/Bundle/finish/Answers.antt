use Rattle.std.proofs.Common.{ap, arith}
use Rattle.cert_framing.specs.Views.{has_fault_in, has_failed_in}
use Rattle.cert_framing.proofs.Bundles.{ends_clean, ends_cut, ends_fault}
use Rattle.cert_framing.proofs.bundle.Bundle.finish.Goals as goal
use Rattle.cert_framing.proofs.bundle.Bundle.finish.Goals.{in-Faulted, in-Reading+then-at-len, in-Reading+else-at-len}

pub returns-clause-framing : goal.returns-clause-framing
returns-clause-framing c =
    let f = c.self.inside in
    λ stream stands.
    let stands' = rw (← c.self.view_is) at stands in
    rw (← c.self.view_is, c.of.ensures.items, c.of.ensures.end, c.truncate.ensures.items)
    (elim c.match-state.branch [
      | in-Faulted w ↦ rw w.end-is
          (ends_fault f.limit f.octets.items f.ends.items f.at (has_fault_in f.state) (has_failed_in f.state) stream c.self.invariant.runs
          c.self.invariant.within (ap has_fault_in w.in-Faulted.is) stands')
      | in-Reading+then-at-len w ↦ rw w.end-is
          (ends_clean f.limit f.octets.items f.ends.items f.at (has_fault_in f.state) (has_failed_in f.state) stream c.self.invariant.runs
          c.self.invariant.within (ap has_fault_in w.in-Reading.is) (omega (arith, f.octets.ok.0)) stands')
      | in-Reading+else-at-len w ↦ rw w.end-is
          (ends_cut f.limit f.octets.items f.ends.items f.at (has_fault_in f.state) (has_failed_in f.state) stream c.self.invariant.runs
          c.self.invariant.within (ap has_fault_in w.in-Reading.is) (omega (arith, f.octets.ok.0)) stands')
    ])
