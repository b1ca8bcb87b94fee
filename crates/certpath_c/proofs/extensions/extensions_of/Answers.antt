use Rattle.std.proofs.Common.{refl}
use Rattle.cert_model.specs.Class.{certificate, list, other}
use Rattle.cert_model.specs.View.{certificate_view, list_view}
use Rattle.certpath_c.proofs.extensions.extensions_of.Goals as goal

pub returns-in-Certificate : goal.returns-in-Certificate
returns-in-Certificate c =
    let h = rw c.in-Certificate.is at c.in_ok-fields.ensures.class in
    (certificate (certificate_view c.in-Certificate.fields), h, refl)

pub returns-in-List : goal.returns-in-List
returns-in-List c =
    let h = rw c.in-List.is at c.in_ok-fields.ensures.class in
    (list (list_view c.in-List.fields), h, refl)

pub returns-in-Other : goal.returns-in-Other
returns-in-Other c =
    let h = rw c.in-Other.is at c.in_ok-fields.ensures.class in
    (other, h, refl)
