use Rattle.std.specs.Prelude.{◌≢◌, ◌↔◌, IsTrue, All}
use Rattle.std.proofs.Common.{rules}
use Rattle.cert_model.specs.View.{ext_view}
use Rattle.cert_model.specs.Extended.{IsWithout, under_ce}
use Rattle.cert_judge.proofs.Mapped.{all_mapped}
use Rattle.cert_judge.proofs.judging.is_without.Goals as goal

pub returns : goal.returns
unfolding IsWithout
returns c =
    let h : IsTrue c.all.result ↔ All (λ e. (ext_view e).identifier ≢ under_ce c.args.n) c.args.extensions.now = search rules in
    all_mapped ext_view (λ e. e.identifier ≢ under_ce c.args.n) c.args.extensions.now c.all.result h
