use Rattle.std.specs.Prelude.{◌↔◌, IsTrue, All}
use Rattle.std.proofs.Common.{rules}
use Rattle.cert_model.specs.View.{entry_view}
use Rattle.cert_judge.specs.Revoking.{AreUncritical}
use Rattle.cert_judge.proofs.Mapped.{all_mapped}
use Rattle.cert_judge.proofs.revoking.are_plain_entries.Goals as goal

pub returns : goal.returns
returns c =
    let h : IsTrue c.all.result ↔ All (λ n. AreUncritical (entry_view n).extensions) c.args.entries.now = search rules in
    all_mapped entry_view (λ n. AreUncritical n.extensions) c.args.entries.now c.all.result h
