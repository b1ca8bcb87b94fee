-- The views of counts: values as the definitions have them.
use Rattle.certpath_bundle.specs.Counts as counts
use Rattle.certpath_bundle.specs.declared.counts.Counts.{Counts}

abbrev pub counts_view : Counts → counts.Counts
counts_view c = record { certificates = c.certificates; lists = c.lists; left_out = c.left_out }
