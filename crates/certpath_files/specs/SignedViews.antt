-- The views of the sets of SignedData: values as the definitions have them.
use Rattle.certpath_files.specs.Signed as signed
use Rattle.certpath_files.specs.declared.signed.Sets.{Sets}

abbrev pub sets_view : Sets → signed.Sets
sets_view sets = record { certificates = sets.certificates.now; lists = sets.lists.now }
