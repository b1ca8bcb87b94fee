use Rattle.std.proofs.Common.{◌≡◌, sym, subst, string_bytes}
use Rattle.std.specs.Prelude.{OnOk}
use Rattle.cert_graph.specs.Entries.{IsAt}
use Rattle.cert_judge.specs.declared.items.ReadItem.{ReadItem}
use Rattle.cert_judge.specs.Items.{item_of}
use Rattle.certpath_why.specs.Question.{anchors_in, items_in, rules_in}
use Rattle.certpath_why.specs.Appended.{Appends}
use Rattle.certpath_why.specs.Why.{TellsItem}
use Rattle.certpath_why.proofs.lists.tell_item.Goals as goal

pub tell_list-requires-clause-at : goal.tell_list-requires-clause-at
tell_list-requires-clause-at g c = subst (λ (y : ReadItem). IsAt c.args.question.now.found.now.items.now c.args.place (λ x. x ≡ y)) c.in-List.is c.requires.at

pub returns-in-List : goal.returns-in-List
returns-in-List g c =
    subst (λ (y : ReadItem). OnOk c.tell_list.result (Appends (TellsItem (rules_in g.V.Vouch c.args.question.now) (items_in c.args.question.now) (anchors_in c.args.question.now) c.args.place (item_of y) (item_of y).class) (string_bytes c.args.text.now) (string_bytes c.tell_list.new.text)))
    (sym c.in-List.is) c.tell_list.ensures
