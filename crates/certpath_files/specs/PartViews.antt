-- The views of an element that is read: values as the definitions have them.
use Rattle.certpath_files.specs.Parts as parts
use Rattle.certpath_files.specs.declared.parts.Part.{Part}

abbrev pub part_view : Part → parts.Part
part_view part = record { first = part.first; content = part.content.now; rest = part.rest.now }
