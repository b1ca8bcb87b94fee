use Rattle.std.proofs.Common.{◌∙◌, map, refl, sym, ap}
use Rattle.cert_model.specs.View.{entry_view}
use Rattle.cert_judge.specs.Items.{list_of}
use Rattle.cert_model.specs.Fields.{Entry}
use Rattle.cert_judge.proofs.Mapped.{map_twice}
use Rattle.cert_judge.proofs.judged.judged_list.Goals as goal

pub returns : goal.returns
returns c = record {
  fields = list_of c.args.item.now;
  class = refl;
  octets = refl;
  issuer = c.args.item.now.issuer_is;
  current = c.is_in_force-in_force.ensures.current;
  plain = c.is_in_force-in_force.ensures.plain;
  in_force = c.is_in_force-in_force.ensures.only;
  serials = c.in_ok-serials.ensures ∙ ap (map (λ e. (entry_view e).serial)) c.deref.ensures.value ∙ sym (map_twice entry_view (λ (n : Entry). n.serial) c.args.item.now.fields.entries.items);
}
