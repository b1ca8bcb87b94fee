-- An example of evidence.
use Rattle.std.specs.Prelude.{[], ◌∷◌}
use Rattle.cert_graph.specs.declared.reach.Reach.TheVariants.{UpTo, Any}
use Rattle.certpath_evidence.specs.Evidence.{Told, path, pathless, no_certificate}

-- a path, no path and no certificate, with a row of two changes and one of none
abbrev pub three_verdicts : Told
three_verdicts = record {
  verdicts = path (0 ∷ 3 ∷ []) 1 ∷ pathless ∷ no_certificate ∷ [];
  rows = (record { position = 5; reach = UpTo 0 } ∷ record { position = 3; reach = Any } ∷ []) ∷ [] ∷ [];
}
