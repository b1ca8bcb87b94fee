-- What a true verdict says is decided by the graph.
use Rattle.std.proofs.Common.{◌≡◌, ℕ, ◌<◌, ◌∙◌, length, get_or, sym, subst}
use Rattle.cert_graph.specs.declared.answer.Answer.{Answer}
use Rattle.cert_graph.specs.declared.answer.Answer.TheVariants.{Path, NoPath, NoTarget}
use Rattle.cert_graph.specs.declared.inventory.Verdict.{Verdict}
use Rattle.cert_graph.specs.declared.inventory.Verdict.TheVariants.{FirstPath, Pathless, NoCertificate}
use Rattle.cert_graph.specs.declared.inventory.Inventory.{Inventory}
use Rattle.cert_graph.specs.Adequate.{IsTrueAnswer}
use Rattle.cert_graph.specs.Graph.{Graph}
use Rattle.cert_graph.specs.Inventory.{IsTrueVerdict, IsTrueInventory}
use Rattle.cert_graph.specs.Laws.{UsableIsCertificate}
use Rattle.cert_graph.specs.LawsOfInventories.{AreOneVerdict, SayTheSameOfAll, IsVerdictOf}
use Rattle.cert_graph.proofs.Unique.{certificate_of, one_first}

one_verdict : (g : Graph) → UsableIsCertificate g → (target : ℕ) (verdict other : Verdict) → IsTrueVerdict g target verdict → IsTrueVerdict g target other → AreOneVerdict verdict other
one_verdict g uc target (FirstPath ps a) (FirstPath qs b) h k = one_first g target ps.items qs.items a b h k
one_verdict g uc target (FirstPath ps a) Pathless h k = k.1 ps.items a h.valid
one_verdict g uc target (FirstPath ps a) NoCertificate h k = k (certificate_of g uc target ps.items a h.valid)
one_verdict g uc target Pathless (FirstPath qs b) h k = h.1 qs.items b k.valid
one_verdict g uc target Pathless Pathless h k = tt
one_verdict g uc target Pathless NoCertificate h k = k h.0
one_verdict g uc target NoCertificate (FirstPath qs b) h k = h (certificate_of g uc target qs.items b k.valid)
one_verdict g uc target NoCertificate Pathless h k = h k.0
one_verdict g uc target NoCertificate NoCertificate h k = tt

pub one_inventory : (g : Graph) → UsableIsCertificate g → (inventory other : Inventory) → IsTrueInventory g inventory → IsTrueInventory g other → SayTheSameOfAll inventory other
one_inventory g uc inventory other h k =
    let count : length inventory.verdicts.items ≡ length other.verdicts.items = h.count ∙ sym k.count in record {
      count = count;
      each = λ target lt d e. one_verdict g uc target (get_or inventory.verdicts.items target d) (get_or other.verdicts.items target e)
          (h.each target lt d) (k.each target (subst (λ (n : ℕ). target < n) count lt) e);
    }

-- a true verdict and a true answer on one target
verdict_of_answer : (g : Graph) → UsableIsCertificate g → (target : ℕ) (answer : Answer) (verdict : Verdict) → IsTrueAnswer g target answer → IsTrueVerdict g target verdict → IsVerdictOf answer verdict
verdict_of_answer g uc target (Path ps a table) (FirstPath qs b) h k = one_first g target ps.items qs.items a b h k
verdict_of_answer g uc target (Path ps a table) Pathless h k = k.1 ps.items a h.valid
verdict_of_answer g uc target (Path ps a table) NoCertificate h k = k (certificate_of g uc target ps.items a h.valid)
verdict_of_answer g uc target (NoPath table) (FirstPath qs b) h k = h.1 qs.items b k.valid
verdict_of_answer g uc target (NoPath table) Pathless h k = tt
verdict_of_answer g uc target (NoPath table) NoCertificate h k = k h.0
verdict_of_answer g uc target NoTarget (FirstPath qs b) h k = h (certificate_of g uc target qs.items b k.valid)
verdict_of_answer g uc target NoTarget Pathless h k = h k.0
verdict_of_answer g uc target NoTarget NoCertificate h k = tt

pub inventory_answers : (g : Graph) → UsableIsCertificate g → (inventory : Inventory) (target : ℕ) (answer : Answer) → IsTrueInventory g inventory → target < g.items → IsTrueAnswer g target answer
    → (d : Verdict) → IsVerdictOf answer (get_or inventory.verdicts.items target d)
inventory_answers g uc inventory target answer h lt k d =
    verdict_of_answer g uc target answer (get_or inventory.verdicts.items target d) k (h.each target (subst (λ (n : ℕ). target < n) (sym h.count) lt) d)
