-- The views of a kind: values as the definitions have them.
use Rattle.certpath_files.specs.Shapes as shapes
use Rattle.certpath_files.specs.declared.shape.Kind.{Kind}
use Rattle.certpath_files.specs.declared.shape.Kind.TheVariants.{Certificate, List}

abbrev pub kind_view : Kind → shapes.Kind
kind_view Certificate = shapes.certificate
kind_view List = shapes.list
