use Rattle.std.proofs.Common.{rules, ◌≡◌}
use Rattle.der_tree.specs.Tree.{octets}
use Rattle.cert_model.specs.Octets.{certificate_octets, list_octets}
use Rattle.cert_model.specs.Range.{AreCertificateFields, AreListFields}
use Rattle.cert_model.specs.View.{any_view, certificate_view, list_view}
use Rattle.cert_model.proofs.StrictItems.{certificate_item, list_item}
use Rattle.certcheck.specs.Windows.{tree_of}
use Rattle.certcheck.proofs.class.class_of.Goals as goal

pub returns-in-Some : goal.returns-in-Some
returns-in-Some c =
    let found : AreCertificateFields (certificate_view c.in-Some.fields) × (certificate_octets (certificate_view c.in-Some.fields) ≡ octets (tree_of (any_view c.args.object.now))) = search rules in
    certificate_item (tree_of (any_view c.args.object.now)) (certificate_view c.in-Some.fields) c.requires found.0 found.1

pub returns-in-Some-2 : goal.returns-in-Some-2
returns-in-Some-2 c =
    let found : AreListFields (list_view c.in-Some-2.fields) × (list_octets (list_view c.in-Some-2.fields) ≡ octets (tree_of (any_view c.args.object.now))) = search rules in
    list_item (tree_of (any_view c.args.object.now)) (list_view c.in-Some-2.fields) c.requires found.0 found.1
