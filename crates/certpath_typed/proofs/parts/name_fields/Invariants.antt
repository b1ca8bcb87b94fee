use Rattle.std.proofs.Common.{map}
use Rattle.std.specs.Slice.Iter.{iter_rest}
use Rattle.cert_model.specs.View.{attr_view}
use Rattle.x509_names.specs.View.{set_view}
use Rattle.certpath_typed.specs.Told.{TellsSet}
use Rattle.certpath_typed.proofs.Zipped.{TellsRest}
use Rattle.certpath_typed.proofs.parts.name_fields.Given as goal

abbrev pub invariant-loop-set : goal.invariant-loop-set
invariant-loop-set l = TellsRest (TellsSet l.item) set_view (λ set. map attr_view set.items) l.name.rdn_seq.items (iter_rest l.set-iterator) l.sets.items
