use Rattle.std.specs.Prelude.{IsTrue}
use Rattle.std.proofs.Common.{◌≡◌, ◌∙◌, sym, ℕ, List, [], Bor, length, get_or, arith, inl, inr}
use Rattle.std.specs.BTreeSet as sorted
use Rattle.cert_judge.proofs.Sets.{R}
use Rattle.cert_judge.proofs.Before.{before_all}
use Rattle.cert_judge.proofs.Mapped.{not_both}
use Rattle.cert_judge.proofs.StandingFacts.{default_is}
use Rattle.cert_judge.proofs.SerialFacts.{asked_more, asked_same}
use Rattle.cert_judge.proofs.serials.add_asked.Goals as goal
use Rattle.cert_judge.proofs.serials.add_asked.Goals.{then-contains+in_ok-insert, else-contains}

pub loop-serial-preserved : goal.loop-serial-preserved
loop-serial-preserved c =
    let xs = c.args.asked.now in
    let k = c.loop-serial.serial-index in
    let t : Bor (List ℕ) = get_or xs k (record { ref_ptr = (0, 0); now = [] }) in
    let lt = c.loop-serial-test.true in
    let at : t ≡ get_or xs k t = default_is xs k _ lt in
    let set = c.args.set.now in
    let P : Bor (List ℕ) → Type 0 = λ t. IsTrue (sorted.contains R set t) in
    let is : c.contains.result ≡ sorted.contains R set t = c.contains.ensures in
    elim c.if-contains.branch [
      | then-contains+in_ok-insert w ↦
          rw w.revoked-is (λ s. asked_more P xs k t lt at (sym is ∙ w.if-contains.true) (sorted.contains R c.args.revoked.now s) (sorted.contains R c.loop-serial.revoked s) (sorted.contains R w.insert.new.self s) s (w.in_ok-insert.ensures.updates.0 s) (c.loop-serial.invariant s))
      | else-contains w ↦
          rw w.revoked-is (λ s. asked_same P xs k t lt at (λ h. not_both _ (is ∙ h) w.if-contains.false) (sorted.contains R c.args.revoked.now s) (sorted.contains R c.loop-serial.revoked s) s (c.loop-serial.invariant s))
    ]

pub returns : goal.returns
returns c =
    let end : c.loop-serial.serial-index ≡ length c.args.asked.now = omega arith in
    λ s.
    let i = c.loop-serial.invariant s in
    let b = before_all (λ (t : Bor (List ℕ)). (t.now ≡ s.now) × IsTrue (sorted.contains R c.args.set.now t)) c.args.asked.now c.loop-serial.serial-index end in
    (λ h. elim (i.0 h) [ inl x ↦ inl x | inr x ↦ inr (b.0 x) ], λ h. i.1 (elim h [ inl x ↦ inl x | inr x ↦ inr (b.1 x) ]))
