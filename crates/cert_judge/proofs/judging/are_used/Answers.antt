use Rattle.std.specs.Prelude.{◌≡◌, ◌↔◌, IsTrue, All}
use Rattle.std.proofs.Common.{rules}
use Rattle.cert_model.specs.View.{ext_view}
use Rattle.cert_model.specs.Extended.{EachUnder, key_usage}
use Rattle.cert_judge.specs.Judging.{HasUsage}
use Rattle.cert_judge.proofs.Mapped.{all_mapped}
use Rattle.cert_judge.proofs.judging.are_used.Goals as goal

pub returns : goal.returns
unfolding EachUnder
returns c =
    let h : IsTrue c.all.result ↔ All (λ e. (ext_view e).identifier ≡ key_usage → HasUsage (ext_view e).value) c.args.extensions.now = search rules in
    all_mapped ext_view (λ e. e.identifier ≡ key_usage → HasUsage e.value) c.args.extensions.now c.all.result h
