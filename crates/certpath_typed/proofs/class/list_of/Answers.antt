use Rattle.std.proofs.Common.{rules, arith, ◌≡◌, true, false}
use Rattle.std.proofs.lemmas.Grind.{common_steps}
use Rattle.cert_model.specs.Fields.{RevocationList}
use Rattle.cert_model.specs.View.{list_view}
use Rattle.cert_model.specs.Class.{IsListItem}
use Rattle.x509_links.specs.Readers.{list_view as read_view}
use Rattle.x509_links.specs.Lenient.{lenient_list}
use Rattle.certpath_typed.proofs.Taken.{no_list}
use Rattle.certpath_typed.proofs.Gate.{strict_list}
use Rattle.certpath_typed.proofs.class.list_of.Goals as goal

pub returns-then-not-in_range-clause-class : goal.returns-then-not-in_range-clause-class
returns-then-not-in_range-clause-class c =
    let item = c.args.item.now in
    let r = c.in-Some.list in
    let read : (d : RevocationList) → IsListItem item d → read_view r ≡ lenient_list d = search rules in
    let out : c.in_range.result ≡ false = grind (arith, common_steps) in
    no_list item r (list_view c.in_ok-fields.fields) read c.in_ok-fields.ensures
    (λ range spelled. let in_range : c.in_range.result ≡ true = c.in_range.ensures.1 range in cc)

pub returns-then-not-is_written_list-clause-class : goal.returns-then-not-is_written_list-clause-class
returns-then-not-is_written_list-clause-class c =
    let item = c.args.item.now in
    let r = c.in-Some.list in
    let read : (d : RevocationList) → IsListItem item d → read_view r ≡ lenient_list d = search rules in
    let other : c.is_written_list.result ≡ false = grind (arith, common_steps) in
    no_list item r (list_view c.in_ok-fields.fields) read c.in_ok-fields.ensures
    (λ range spelled. let same : c.is_written_list.result ≡ true = c.is_written_list.ensures.1 spelled in cc)

pub returns-clause-class : goal.returns-clause-class
returns-clause-class c =
    let in_range : c.in_range.result ≡ true = grind (arith, common_steps) in
    let same : c.is_written_list.result ≡ true = grind (arith, common_steps) in
    strict_list c.args.item.now (list_view c.in_ok-fields.fields) c.requires.object (c.in_range.ensures.0 in_range) (c.is_written_list.ensures.0 same)
