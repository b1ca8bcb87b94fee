-- The lists in force of some issuers. Contracts of private functions cite it.
use Rattle.std.specs.Borrow.{Bor}
use Rattle.std.specs.Prelude.{◌≡◌, ℕ, List, Some}
use Rattle.std.specs.Ordering.{on, nat_cmp}
use Rattle.std.specs.Cmp.Lexicographic.{slice_cmp}
use Rattle.std.specs.BTreeMap as mapped
use Rattle.jiff_core.specs.declared.civil.datetime.DateTime.{DateTime}
use Rattle.cert_judge.specs.declared.items.ReadItem.{ReadItem}
use Rattle.cert_reasons.specs.declared.in_force.ListsInForce.{ListsInForce}
use Rattle.cert_reasons.specs.InForce.{AreListsInForce}
use Rattle.certpath_why.specs.declared.by_issuer.ListsByIssuer.{ListsByIssuer}

-- what is under a name are the lists of that issuer that are in force
abbrev pub AreByIssuer : List ReadItem → DateTime → ListsByIssuer → Type 0
AreByIssuer xs moment l = (q : Bor (List ℕ)) (lists : ListsInForce) → mapped.get (on (λ (b : Bor (List ℕ)). b.now) (slice_cmp nat_cmp)) l.by_name q ≡ Some lists
    → AreListsInForce xs moment q.now lists
