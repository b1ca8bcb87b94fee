use Rattle.cert_framing.proofs.PieceLemmas.{none_from_places}
use Rattle.cert_framing.proofs.items.Items.is_empty.Goals as goal

pub returns : goal.returns
returns c =
    let f = c.self.inside in
    rw (← c.self.view_is) (none_from_places c.is_empty.result _ f.ends.items f.octets.items c.is_empty.ensures f.ends.ok.0)
