-- What an `ItemClass` is a value of.
use Rattle.cert_model.specs.Class.{Class, certificate, list, other}
use Rattle.cert_model.specs.View.{certificate_view, list_view}
use Rattle.cert_model.specs.declared.class.ItemClass.{ItemClass}
use Rattle.cert_model.specs.declared.class.ItemClass.TheVariants.{Certificate, List, Other}

abbrev pub class_view : ItemClass → Class
class_view (Certificate f) = certificate (certificate_view f)
class_view (List f) = list (list_view f)
class_view Other = other
