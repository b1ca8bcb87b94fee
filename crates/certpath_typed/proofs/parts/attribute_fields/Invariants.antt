use Rattle.std.specs.Slice.Iter.{iter_rest}
use Rattle.cert_model.specs.View.{attr_view}
use Rattle.x509_names.specs.View.{attribute_view}
use Rattle.certpath_typed.specs.Told.{TellsAttribute}
use Rattle.certpath_typed.proofs.Zipped.{TellsRest}
use Rattle.certpath_typed.proofs.parts.attribute_fields.Given as goal

abbrev pub invariant-loop-attribute : goal.invariant-loop-attribute
invariant-loop-attribute l = TellsRest (TellsAttribute l.item) attribute_view attr_view l.set.set.items (iter_rest l.attribute-iterator) l.fields.items
