use Rattle.std.proofs.Common.{◌≡◌, true, sym, ◌∙◌, ap}
use Rattle.cert_framing.specs.Held.{Held}
use Rattle.cert_framing.specs.Views.{has_fault_in}
use Rattle.cert_framing.proofs.Bundles.{fed_behind_fault}
use Rattle.cert_framing.proofs.bundle.Bundle.feed.Goals as goal

pub returns-in-Faulted-clause-ok : goal.returns-in-Faulted-clause-ok
returns-in-Faulted-clause-ok c =
    λ stream stands.
    let faulted : c.args.self.now.has_fault ≡ true = ap (λ (h : Held). h.has_fault) (sym c.self.view_is) ∙ ap has_fault_in c.in-Faulted.is in
    fed_behind_fault c.args.self.now stream c.args.piece.now faulted stands
