use Rattle.std.proofs.Common.{◌∙◌, ap, ◌++◌, ◌∷◌, []}
use Rattle.certpath_why.proofs.Rowed.{serials_none}
use Rattle.certpath_why.proofs.revoking.SerialRows.new.Goals as goal

pub returns : goal.returns
returns c = λ xs moment. serials_none xs moment _ c.new.result (c.in_ok-push.ensures.items ∙ ap (λ l. l ++ c.new.result ∷ []) c.new-rows.ensures.items) c.new.ensures.items c.new-2.ensures.empty
