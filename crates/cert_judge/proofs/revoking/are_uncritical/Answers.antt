use Rattle.std.specs.Prelude.{◌≡◌, ◌↔◌, IsTrue, All, false}
use Rattle.std.proofs.Common.{rules}
use Rattle.cert_model.specs.View.{ext_view}
use Rattle.cert_judge.proofs.Mapped.{all_mapped}
use Rattle.cert_judge.proofs.revoking.are_uncritical.Goals as goal

pub returns : goal.returns
returns c =
    let h : IsTrue c.all.result ↔ All (λ e. (ext_view e).critical ≡ false) c.args.extensions.now = search rules in
    all_mapped ext_view (λ e. e.critical ≡ false) c.args.extensions.now c.all.result h
