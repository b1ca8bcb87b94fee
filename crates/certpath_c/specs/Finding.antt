-- What `certpath_find` returns.
use Rattle.std.specs.Prelude.{◌≡◌, ◌⊎◌, ℕ, ℤ, Bool, true, false, List, length}
use Rattle.cert_framing.specs.Held.{Framed}
use Rattle.cert_graph.specs.declared.answer.Answer.{Answer}
use Rattle.cert_graph.specs.Adequate.{IsAdequate, IsTrueAnswer}
use Rattle.cert_judge.specs.declared.policy.Policy.{Policy}
use Rattle.cert_search.specs.Exact.{HasExactRows, IsShort}
use Rattle.cert_serving.specs.declared.permits.Permits.{Permits}
use Rattle.cert_vouchers.specs.declared.vouchers.Vouchers.{Vouchers}
use Rattle.certpath_run.specs.Answered.{HoldsOfItems, NamesCertificates}
use Rattle.certpath_c.specs.declared.answers.AnswerRow.{AnswerRow}
use Rattle.certpath_c.specs.declared.asked.Settings.{Settings}
use Rattle.certpath_c.specs.declared.asked.Voucher.{Voucher}
use Rattle.certpath_c.specs.Answers.{positions_of, answer_entries, IsRowOf, FitsAnswer}
use Rattle.certpath_c.specs.Asked.{AreInputs, IsNoMoment, IsPolicyOf, HasPolicy}
use Rattle.certpath_c.specs.Wanted.{ArePermits, IsNoHost, rules_in}
use Rattle.certpath_c.specs.Status.{bad_host, done, out_of_memory, too_small, bad_moment}
use Rattle.certpath_c.specs.Writing.{PutsBoth}

-- the files were cut, and this was found in them: what `find` of `certpath_find` says of its answers
pub record IsFoundBy (bundle anchors : List ℕ) (vouchers : List Voucher) (settings : Settings) (policy : Policy) (answer : Answer) : Type 0 where
  pub items : Framed
  pub anchor_items : Framed
  pub pairs : Vouchers
  pub inputs : AreInputs bundle anchors vouchers settings.limit items anchor_items pairs
  pub permits : Permits
  pub are_permits : ArePermits settings items.items permits
  pub adequate : HoldsOfItems (rules_in policy pairs permits) items.items anchor_items.items (λ g. IsAdequate g settings.target answer)
  pub holds : HoldsOfItems (rules_in policy pairs permits) items.items anchor_items.items (λ g. IsTrueAnswer g settings.target answer)
  pub exact : HoldsOfItems (rules_in policy pairs permits) items.items anchor_items.items (λ g. HasExactRows g answer)
  pub short : HoldsOfItems (rules_in policy pairs permits) items.items anchor_items.items (λ g. IsShort g answer)
  pub spelled : NamesCertificates items.items answer

-- the answer by the settings, put into the buffers, or not
pub record Finds (bundle anchors : List ℕ) (vouchers : List Voucher) (settings : Settings) (positions positions' table table' : List ℕ) (row' : AnswerRow) (fits : Bool) : Type 0 where
  pub policy : Policy
  pub is_policy : IsPolicyOf settings policy
  pub answer : Answer
  pub is_found : IsFoundBy bundle anchors vouchers settings policy answer
  pub is_row : IsRowOf answer row'
  pub fit : FitsAnswer answer
  pub written : PutsBoth positions positions' (positions_of answer) table table' (answer_entries answer) fits

-- the moment is looked at first, then the host
abbrev pub FindAnswer : List ℕ → List ℕ → List Voucher → Settings → List ℕ → List ℕ → List ℕ → List ℕ → AnswerRow → AnswerRow → ℤ → Type 0
FindAnswer bundle anchors vouchers settings positions positions' table table' row row' status =
    ((status ≡ done) × Finds bundle anchors vouchers settings positions positions' table table' row' true)
    ⊎ ((status ≡ too_small) × Finds bundle anchors vouchers settings positions positions' table table' row' false)
    ⊎ ((status ≡ bad_moment) × IsNoMoment settings.moment × (positions' ≡ positions) × (table' ≡ table) × (row' ≡ row))
    ⊎ ((status ≡ bad_host) × HasPolicy settings × IsNoHost settings.host.now × (positions' ≡ positions) × (table' ≡ table) × (row' ≡ row))
    ⊎ ((status ≡ out_of_memory) × (positions' ≡ positions) × (table' ≡ table) × (row' ≡ row))
