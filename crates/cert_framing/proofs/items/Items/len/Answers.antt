use Rattle.std.proofs.Common.{◌≡◌, length, sym, ◌∙◌, arith}
use Rattle.std.specs.List.{concat}
use Rattle.cert_framing.specs.Pieces.{pieces}
use Rattle.cert_framing.proofs.PieceLemmas.{length-pieces, length-concat-pieces}
use Rattle.cert_framing.proofs.items.Items.len.Goals as goal

pub returns-clause-len : goal.returns-clause-len
returns-clause-len c =
    let f = c.self.inside in
    rw (← c.self.view_is) (c.len.ensures ∙ f.ends.ok.0 ∙ sym (length-pieces 0 f.ends.items f.octets.items))

pub returns-clause-fits : goal.returns-clause-fits
returns-clause-fits c =
    let f = c.self.inside in
    let whole : length (concat (pieces 0 f.ends.items f.octets.items)) ≡ length f.octets.items =
    length-concat-pieces f.ends.items (length f.octets.items) f.octets.items c.self.invariant (omega arith) in
    rw (← c.self.view_is) (omega (arith, whole, f.octets.ok.0, f.octets.small))
