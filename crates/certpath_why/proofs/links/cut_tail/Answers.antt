use Rattle.std.proofs.Common.{◌∙◌, ap, ◌++◌}
use Rattle.certpath_why.specs.Lines.{link_end}
use Rattle.certpath_why.specs.Listed.{listed}
use Rattle.certpath_why.specs.Ranges.{range_text}
use Rattle.certpath_why.proofs.links.cut_tail.Goals as goal

pub returns : goal.returns
returns c = λ rs h. c.in_ok-push_link_end.ensures ∙ ap (λ l. l ++ link_end c.args.what) (c.in_ok-push_cut.ensures rs h ∙ ap (λ l. l ++ listed range_text rs) c.new-tail.ensures.bytes)
