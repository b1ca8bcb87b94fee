-- The views of values of files: values as the definitions have them.
use Rattle.certpath_files.specs.ReportViews.{held_in}
use Rattle.certpath_bundle.specs.Bundles as bundles
use Rattle.certpath_bundle.specs.declared.file.File.{File}
use Rattle.certpath_bundle.specs.declared.found.Found.{Found}

abbrev pub file_view : File → bundles.File
file_view file = record { name = file.name.now; octets = file.octets.items }

abbrev pub found_view : Found → bundles.Found
found_view found = record { name = found.name.now; held = held_in found.report }
