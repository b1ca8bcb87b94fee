use Rattle.std.proofs.Common.{subst, sym}
use Rattle.std.specs.Prelude.{IsTrue}
use Rattle.host_names.proofs.LabelFacts.{tells_names}
use Rattle.host_names.proofs.name.is_name.Goals as goal

pub returns : goal.returns
returns c =
    let t = tells_names c.args.name.now in
    (λ h. t.0.0 (subst IsTrue c.is_spelled.ensures h), λ h. subst IsTrue (sym c.is_spelled.ensures) (t.0.1 h))
