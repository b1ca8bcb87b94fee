use Rattle.std.specs.Prelude.{◌↔◌, IsTrue, All}
use Rattle.std.proofs.Common.{rules}
use Rattle.cert_model.specs.View.{ext_view}
use Rattle.cert_judge.specs.Judging.{IsProcessed}
use Rattle.cert_judge.proofs.Mapped.{all_mapped}
use Rattle.cert_judge.proofs.judging.are_processed.Goals as goal

pub returns : goal.returns
returns g c =
    let P = (g.V.Vouch.vouches_for c.args.vouch.now).Processes c.args.item.now in
    let h : IsTrue c.all.result ↔ All (λ e. IsProcessed P (ext_view e)) c.args.extensions.now = search rules in
    all_mapped ext_view (IsProcessed P) c.args.extensions.now c.all.result h
