use Rattle.std.proofs.Common.{rules, ◌≡◌, sym, ap, ◌∙◌, length}
use Rattle.asn1_traits.specs.Lists.{all_written}
use Rattle.asn1_lists.specs.Ordered.{set_order}
use Rattle.asn1_lists.specs.SetLaws.{set_length}
use Rattle.asn1_lists.proofs.Encoded.{measures_alike}
use Rattle.asn1_lists.proofs.set_of.SetOfToDer.der_content_len.Goals as goal

pub returns : goal.returns
returns g c =
    let element = g.T.ToDer.element in
    let held : c.as_slice.result.now ≡ c.args.self.now = search rules in
    measures_alike (all_written element c.as_slice.result.now) (all_written element (set_order element c.args.self.now)) c.items_len.result
    (ap (λ z. length (all_written element z)) held ∙ sym (set_length element c.args.self.now)) c.items_len.ensures
