-- What `certpath_check` returns.
use Rattle.std.specs.Prelude.{◌≡◌, ◌⊎◌, ◌↔◌, ℕ, ℤ, Bool, IsTrue, cond, List, length}
use Rattle.cert_framing.specs.Framing.{IsFraming}
use Rattle.cert_framing.specs.Held.{Framed}
use Rattle.cert_graph.specs.declared.answer.Answer.{Answer}
use Rattle.cert_graph.specs.Adequate.{IsAdequate, IsTrueAnswer}
use Rattle.cert_judge.specs.declared.policy.Policy.{Policy}
use Rattle.cert_serving.specs.declared.permits.Permits.{Permits}
use Rattle.cert_vouchers.specs.declared.vouchers.Vouchers.{Vouchers}
use Rattle.certpath_run.specs.Answered.{HoldsOfItems}
use Rattle.certpath_c.specs.declared.answers.AnswerRow.{AnswerRow}
use Rattle.certpath_c.specs.declared.asked.Settings.{Settings}
use Rattle.certpath_c.specs.declared.asked.Voucher.{Voucher}
use Rattle.certpath_c.specs.Answers.{IsAnswerOf, AreNoAnswer}
use Rattle.certpath_c.specs.Asked.{AreInputs, IsNoMoment, IsPolicyOf, HasPolicy}
use Rattle.certpath_c.specs.Wanted.{ArePermits, HasWanted, IsNoHost, rules_in}
use Rattle.certpath_c.specs.Status.{bad_host, done, out_of_memory, bad_moment, bad_answer}

-- the files were cut, the answer is the given one, and this was said of it: what `check` of `certcheck` says
pub record IsCheckedBy (bundle anchors : List ℕ) (vouchers : List Voucher) (settings : Settings) (policy : Policy) (row : AnswerRow) (positions entries : List ℕ) (said : Bool) : Type 0 where
  pub items : Framed
  pub anchor_items : Framed
  pub pairs : Vouchers
  pub inputs : AreInputs bundle anchors vouchers settings.limit items anchor_items pairs
  pub permits : Permits
  pub are_permits : ArePermits settings items.items permits
  pub answer : Answer
  pub is_answer : IsAnswerOf (length items.items) row positions entries answer
  pub exact : HoldsOfItems (rules_in policy pairs permits) items.items anchor_items.items (λ g. IsTrue said ↔ IsAdequate g settings.target answer)
  pub holds : HoldsOfItems (rules_in policy pairs permits) items.items anchor_items.items (λ g. IsTrue said → IsTrueAnswer g settings.target answer)

-- what the check says by the settings: 1 for yes, 0 for no
pub record Checks (bundle anchors : List ℕ) (vouchers : List Voucher) (settings : Settings) (row : AnswerRow) (positions entries : List ℕ) (says_yes : ℕ) : Type 0 where
  pub policy : Policy
  pub is_policy : IsPolicyOf settings policy
  pub said : Bool
  pub is_checked : IsCheckedBy bundle anchors vouchers settings policy row positions entries said
  pub says : says_yes ≡ cond said 1 0

-- the bundle was cut, and the numbers are no answer on its items
pub record HasNoAnswer (bundle : List ℕ) (limit : ℕ) (row : AnswerRow) (positions entries : List ℕ) : Type 0 where
  pub items : Framed
  pub framing : IsFraming limit bundle items.items items.end
  pub none : AreNoAnswer (length items.items) row positions entries

-- the moment is looked at first, then the host, then the answer
abbrev pub CheckAnswer : List ℕ → List ℕ → List Voucher → Settings → AnswerRow → List ℕ → List ℕ → ℕ → ℕ → ℤ → Type 0
CheckAnswer bundle anchors vouchers settings row positions entries says says' status =
    ((status ≡ done) × Checks bundle anchors vouchers settings row positions entries says')
    ⊎ ((status ≡ bad_answer) × HasPolicy settings × HasWanted settings × HasNoAnswer bundle settings.limit row positions entries × (says' ≡ says))
    ⊎ ((status ≡ bad_moment) × IsNoMoment settings.moment × (says' ≡ says))
    ⊎ ((status ≡ bad_host) × HasPolicy settings × IsNoHost settings.host.now × (says' ≡ says))
    ⊎ ((status ≡ out_of_memory) × (says' ≡ says))
