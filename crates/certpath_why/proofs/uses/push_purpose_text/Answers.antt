use Rattle.std.proofs.Common.{◌∙◌, ◌++◌, ap, string_bytes}
use Rattle.certpath_why.proofs.Shown.{shown_text}
use Rattle.certpath_why.proofs.uses.push_purpose_text.Goals as goal

pub returns : goal.returns
returns c = let h = c.in_ok-push_purpose.ensures in h.2 ∙ ap (λ s. string_bytes c.args.text.now ++ s) (shown_text c.args.identifier.now h.0 h.1)
