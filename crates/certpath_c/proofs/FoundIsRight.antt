-- The check says yes to what was found and written.
use Rattle.std.proofs.Common.{◌≡◌, ◌∙◌, refl, sym, ap, subst, ℕ, ℤ, pos, ◌⊎◌, inl, inr, Bool, true, false, cond, IsTrue, List, ◌++◌, ◌<◌, length, take, drop, arith, lit<}
use Rattle.std.proofs.lemmas.List.{take_at}
use Rattle.certpath_c.specs.declared.answers.AnswerRow.{AnswerRow}
use Rattle.certpath_c.specs.declared.asked.Settings.{Settings}
use Rattle.certpath_c.specs.declared.asked.Voucher.{Voucher}
use Rattle.certpath_c.specs.Answers.{positions_of, answer_entries, IsAnswerOf, AreNoAnswer}
use Rattle.certpath_c.specs.Checking.{CheckAnswer, Checks, HasNoAnswer}
use Rattle.certpath_c.specs.Finding.{FindAnswer, Finds}
use Rattle.certpath_c.specs.Status.{done, out_of_memory}
use Rattle.certpath_c.specs.Wanted.{rules_in}
use Rattle.certpath_c.proofs.Answering.{OneFraming, found_given, says_yes}
use Rattle.certpath_c.proofs.Hosts.{no_host}

-- another status than done
other_status : (m : ℕ) → 0 < m → pos 0 ≡ pos m → ⊥
other_status m some e = let z : 0 ≡ m = cc in omega (arith, z, some)

said_one : (said : Bool) → IsTrue said → ◌≡◌ {A = ℕ} (cond said 1 0) 1
said_one true h = refl
said_one false h = let e : false ≡ true = h in cc

-- what is at the front of a buffer
front_of : (values old new : List ℕ) (n : ℕ) → n ≡ length values → new ≡ values ++ drop (length values) old → take n new ≡ values
front_of values old new n long is = ap (take n) is ∙ take_at values (drop (length values) old) n (sym long)

module _ (once : OneFraming) (bundle anchors : List ℕ) (vouchers : List Voucher) (settings : Settings) (path path' table table' : List ℕ) (row' : AnswerRow) (f : Finds bundle anchors vouchers settings path path' table table' row' true) where
  says_one : (says' : ℕ) → Checks bundle anchors vouchers settings row' (positions_of f.answer) (answer_entries f.answer) says' → says' ≡ 1
  says_one says' k =
      k.says ∙ said_one k.said (says_yes once bundle anchors vouchers settings f.policy k.policy row' f.answer k.said f.is_policy k.is_policy f.is_found f.is_row f.fit k.is_checked)

  is_answer : HasNoAnswer bundle settings.limit row' (positions_of f.answer) (answer_entries f.answer) → ⊥
  is_answer none =
      let found = f.is_found in
      let given = found_given (rules_in f.policy found.pairs found.permits) found.items.items found.anchor_items.items settings.target f.answer row' found.adequate f.is_row f.fit in
      let same = (once settings.limit bundle _ _ _ _ found.inputs.framing none.framing).0 in
      none.none f.answer (subst (λ (xs : List (List ℕ)). IsAnswerOf (length xs) row' (positions_of f.answer) (answer_entries f.answer) f.answer) same given)

  given : (positions entries : List ℕ) (says says' : ℕ) (status : ℤ) → positions ≡ positions_of f.answer → entries ≡ answer_entries f.answer → CheckAnswer bundle anchors vouchers settings row' positions entries says says' status
      → ((status ≡ done) × (says' ≡ 1)) ⊎ ((status ≡ out_of_memory) × (says' ≡ says))
  given positions entries says says' status p e k =
      elim (subst (λ ps. CheckAnswer bundle anchors vouchers settings row' ps (answer_entries f.answer) says says' status) p (subst (λ es. CheckAnswer bundle anchors vouchers settings row' positions es says says' status) e k)) [
        | inl h ↦ inl (h.0, says_one says' h.1)
        | inr (inl h) ↦ absurd (is_answer h.3)
        | inr (inr (inl h)) ↦ absurd (h.1 f.is_policy.moment.is_moment)
        | inr (inr (inr (inl h))) ↦ absurd (let w = f.is_found.are_permits in no_host settings.host.now w.wanted.host h.2 w.is_wanted.host)
        | inr (inr (inr (inr h))) ↦ inr (h.0, h.1)
      ]

pub found_is_right : OneFraming → (bundle anchors : List ℕ) (vouchers : List Voucher) (settings : Settings) (path path' table table' : List ℕ) (row row' : AnswerRow) (says says' : ℕ) (status : ℤ)
    → FindAnswer bundle anchors vouchers settings path path' table table' row row' done
    → CheckAnswer bundle anchors vouchers settings row' (take row'.length path') (take row'.entries table') says says' status
    → ((status ≡ done) × (says' ≡ 1)) ⊎ ((status ≡ out_of_memory) × (says' ≡ says))
found_is_right once bundle anchors vouchers settings path path' table table' row row' says says' status (inl h) k =
    let f = h.1 in
    let positions = front_of (positions_of f.answer) path path' row'.length f.is_row.length_is f.written.0.1 in
    let entries = front_of (answer_entries f.answer) table table' row'.entries f.is_row.entries f.written.1.1 in
    given once bundle anchors vouchers settings path path' table table' row' f _ _ says says' status positions entries k
found_is_right once bundle anchors vouchers settings path path' table table' row row' says says' status (inr (inl h)) k = absurd (other_status 2 (lit< tt) h.0)
found_is_right once bundle anchors vouchers settings path path' table table' row row' says says' status (inr (inr (inl h))) k = absurd (other_status 5 (lit< tt) h.0)
found_is_right once bundle anchors vouchers settings path path' table table' row row' says says' status (inr (inr (inr (inl h)))) k = absurd (other_status 9 (lit< tt) h.0)
found_is_right once bundle anchors vouchers settings path path' table table' row row' says says' status (inr (inr (inr (inr h)))) k = absurd (other_status 1 (lit< tt) h.0)
