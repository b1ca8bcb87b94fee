-- JudgingContext by vouchers and permits that are equal.
use Rattle.std.proofs.Common.{◌≡◌, subst, ℕ, List}
use Rattle.cert_graph.specs.Graph.{Graph}
use Rattle.cert_judge.specs.declared.policy.Policy.{Policy}
use Rattle.cert_serving.specs.declared.permits.Permits.{Permits}
use Rattle.cert_vouchers.specs.declared.vouchers.Vouchers.{Vouchers}
use Rattle.certpath_run.specs.Answered.{HoldsOfItems}
use Rattle.certpath_c.specs.Wanted.{rules_in}

pub moved : (policy : Policy) (pairs others : Vouchers) (permits more : Permits) (items anchors : List (List ℕ)) (P : Graph → Type 0) → pairs ≡ others → permits ≡ more
    → HoldsOfItems (rules_in policy pairs permits) items anchors P → HoldsOfItems (rules_in policy others more) items anchors P
moved policy pairs others permits more items anchors P same permitted h =
    subst (λ v. HoldsOfItems (rules_in policy v more) items anchors P) same (subst (λ p. HoldsOfItems (rules_in policy pairs p) items anchors P) permitted h)
