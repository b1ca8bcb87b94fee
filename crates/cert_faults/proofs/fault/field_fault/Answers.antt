use Rattle.std.proofs.Common.{◌≡◌, ◌∙◌, sym, ap, subst, true, false, Some, Ok}
use Rattle.der_tree.specs.Tree.{octets}
use Rattle.der_tree.specs.View.{view}
use Rattle.cert_faults.specs.Items.{means_list}
use Rattle.cert_faults.specs.Fault.{stopped, IsFaultAs}
use Rattle.cert_faults.proofs.Faults.{walked_fault, neither}
use Rattle.cert_faults.proofs.fault.field_fault.Goals as goal

pub returns-then-means_list : goal.returns-then-means_list
returns-then-means_list c =
    let t = view c.args.object.now in
    let first : stopped c.certificate_fault.result ≡ Ok (Some c.in-Some.as_certificate) = sym c.stopped.ensures ∙ c.in_ok-as_certificate.was ∙ ap Ok c.in-Some.is in
    let second : stopped c.list_fault.result ≡ Ok (Some c.in-Some-2.as_list) = sym c.stopped-2.ensures ∙ c.in_ok-as_list.was ∙ ap Ok c.in-Some-2.is in
    let certificate = walked_fault c.certificate_fault.result c.in-Some.as_certificate _ _ c.certificate_fault.ensures first in
    let list = walked_fault c.list_fault.result c.in-Some-2.as_list _ _ c.list_fault.ensures second in
    let means : means_list t ≡ true = sym c.means_list.ensures ∙ c.if-means_list.true in
    (subst (λ z. IsFaultAs z c.args.left t c.in-Some-2.as_list) (sym means) list.0, neither (octets t) certificate.1 list.1)

pub returns-else-means_list : goal.returns-else-means_list
returns-else-means_list c =
    let t = view c.args.object.now in
    let first : stopped c.certificate_fault.result ≡ Ok (Some c.in-Some.as_certificate) = sym c.stopped.ensures ∙ c.in_ok-as_certificate.was ∙ ap Ok c.in-Some.is in
    let second : stopped c.list_fault.result ≡ Ok (Some c.in-Some-2.as_list) = sym c.stopped-2.ensures ∙ c.in_ok-as_list.was ∙ ap Ok c.in-Some-2.is in
    let certificate = walked_fault c.certificate_fault.result c.in-Some.as_certificate _ _ c.certificate_fault.ensures first in
    let list = walked_fault c.list_fault.result c.in-Some-2.as_list _ _ c.list_fault.ensures second in
    let means : means_list t ≡ false = sym c.means_list.ensures ∙ c.if-means_list.false in
    (subst (λ z. IsFaultAs z c.args.left t c.in-Some.as_certificate) (sym means) certificate.0, neither (octets t) certificate.1 list.1)
