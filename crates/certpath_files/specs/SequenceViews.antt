-- What is looked for in a SEQUENCE.
use Rattle.certpath_files.specs.Sequences as sequences
use Rattle.certpath_files.specs.declared.sequences.Wanted.{Wanted}
use Rattle.certpath_files.specs.declared.sequences.Wanted.TheVariants.{OneItem, SignedData, ItemOrSignedData}

abbrev pub wanted_view : Wanted → sequences.Wanted
wanted_view OneItem = sequences.one_item
wanted_view SignedData = sequences.signed_data
wanted_view ItemOrSignedData = sequences.item_or_signed_data
