use Rattle.std.proofs.Common.{subst}
use Rattle.cert_model.specs.Class.{IsClassOf, certificate, list, other}
use Rattle.cert_model.specs.View.{certificate_view, list_view}
use Rattle.cert_model.specs.ClassView.{class_view}
use Rattle.cert_model.specs.declared.class.ItemClass.{ItemClass}
use Rattle.certpath_c.proofs.contents.item_read.Goals as goal

pub returns-in-Certificate : goal.returns-in-Certificate
returns-in-Certificate c = (
  certificate (certificate_view c.in-Certificate.fields),
  subst (λ (k : ItemClass). IsClassOf c.args.item.now (class_view k)) c.in-Certificate.is c.in_ok-fields.ensures.class,
  c.certificate_read.ensures,
)

pub returns-in-List : goal.returns-in-List
returns-in-List c = (
  list (list_view c.in-List.fields),
  subst (λ (k : ItemClass). IsClassOf c.args.item.now (class_view k)) c.in-List.is c.in_ok-fields.ensures.class,
  c.list_read.ensures,
)

pub returns-in-Other : goal.returns-in-Other
returns-in-Other c = (
  other,
  subst (λ (k : ItemClass). IsClassOf c.args.item.now (class_view k)) c.in-Other.is c.in_ok-fields.ensures.class,
  c.other_read.ensures,
)
