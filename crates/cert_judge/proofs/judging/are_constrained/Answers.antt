use Rattle.std.specs.Prelude.{◌≡◌, ◌↔◌, IsTrue, All}
use Rattle.std.proofs.Common.{rules}
use Rattle.cert_model.specs.View.{ext_view}
use Rattle.cert_model.specs.Extended.{EachUnder, basic_constraints}
use Rattle.cert_judge.specs.Judging.{HasConstraints}
use Rattle.cert_judge.proofs.Mapped.{all_mapped}
use Rattle.cert_judge.proofs.judging.are_constrained.Goals as goal

pub returns : goal.returns
unfolding EachUnder
returns c =
    let h : IsTrue c.all.result ↔ All (λ e. (ext_view e).identifier ≡ basic_constraints → HasConstraints (ext_view e).value) c.args.extensions.now = search rules in
    all_mapped ext_view (λ e. e.identifier ≡ basic_constraints → HasConstraints e.value) c.args.extensions.now c.all.result h
