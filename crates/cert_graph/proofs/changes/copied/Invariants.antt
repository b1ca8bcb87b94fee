use Rattle.std.proofs.Common.{◌≡◌, map, take}
use Rattle.cert_graph.proofs.changes.copied.Given as goal

abbrev pub invariant-loop-step : goal.invariant-loop-step
invariant-loop-step l = map (λ s. s.items) l.copy.items ≡ map (λ s. s.items) (take l.step-index l.steps)
