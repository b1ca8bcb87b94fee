-- The views of values of sources: values as the definitions have them.
use Rattle.certpath_pem.specs.Sources as sources
use Rattle.certpath_pem.specs.declared.sources.Source.{Source}
use Rattle.certpath_pem.specs.declared.sources.Source.TheVariants.{Pem, Der, Utf16, Nothing, Other}
use Rattle.certpath_pem.specs.declared.sources.LabelKind.{LabelKind}
use Rattle.certpath_pem.specs.declared.sources.LabelKind.TheVariants.{OneItem, Trusted, SignedData, Known, Unknown}

abbrev pub source_view : Source → sources.Source
source_view Pem = sources.pem
source_view Der = sources.der
source_view Utf16 = sources.utf16
source_view Nothing = sources.nothing
source_view Other = sources.other

abbrev pub kind_view : LabelKind → sources.Label
kind_view OneItem = sources.one_item
kind_view Trusted = sources.trusted
kind_view SignedData = sources.signed_data
kind_view Known = sources.known
kind_view Unknown = sources.unknown
