use Rattle.std.proofs.Common.{ℕ, List, Bor}
use Rattle.cert_graph.specs.declared.places.Place.{Place}
use Rattle.certpath_why.specs.Classes.{AreClasses}
use Rattle.certpath_why.specs.Directories.{IsDirectory}
use Rattle.certpath_why.specs.Holders.{AreHolders, IsOfNames}
use Rattle.certpath_why.proofs.holders.holders_of.Given as goal

abbrev pub invariant-loop-name : goal.invariant-loop-name
invariant-loop-name g l = (issued : List Place) (octets : List (Bor (List ℕ))) → IsDirectory issued l.issuers.buckets.items → AreClasses octets l.classes
    → AreHolders (g.V.Vouch.vouches_for l.fn.vouch).Vouches issued l.members octets l.classes (IsOfNames l.members l.name-items l.name-index) l.holders
