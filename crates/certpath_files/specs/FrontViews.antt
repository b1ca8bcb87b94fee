-- The views of a front that is read: values as the definitions have them.
use Rattle.certpath_files.specs.Fronts as fronts
use Rattle.certpath_files.specs.declared.front.Fault.{Fault}
use Rattle.certpath_files.specs.declared.front.Fault.TheVariants.{NoSequence, NoLength, TooLong, Missing, LongForm}
use Rattle.certpath_files.specs.declared.front.Front.{Front}
use Rattle.certpath_files.specs.declared.front.Front.TheVariants.{Whole, Passed, Stops}

abbrev pub fault_view : Fault → fronts.Fault
fault_view NoSequence = fronts.no_sequence
fault_view NoLength = fronts.no_length
fault_view TooLong = fronts.too_long
fault_view (Missing count) = fronts.missing count
fault_view LongForm = fronts.long_form

abbrev pub front_view : Front → fronts.Front
front_view (Whole size) = fronts.whole size
front_view (Passed fault size) = fronts.passed (fault_view fault) size
front_view (Stops fault) = fronts.stops (fault_view fault)
