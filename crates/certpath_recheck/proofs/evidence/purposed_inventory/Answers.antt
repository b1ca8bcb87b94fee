use Rattle.std.proofs.Common.{◌∙◌, ◌++◌, ap, sym}
use Rattle.certpath_recheck.proofs.evidence.purposed_inventory.Goals as goal

pub returns-in_default-after-clause-refused : goal.returns-in_default-after-clause-refused
returns-in_default-after-clause-refused c = λ rest e. c.in_default-after.ensures.none rest (e ∙ ap (λ x. x ++ rest) (sym (c.as_bytes.ensures.value ∙ c.in-Ok.ensures)))
