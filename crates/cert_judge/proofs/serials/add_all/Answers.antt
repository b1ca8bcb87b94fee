use Rattle.std.proofs.Common.{◌≡◌, ℕ, List, Bor, length, get_or, arith, inl, inr, []}
use Rattle.std.specs.BTreeSet as sorted
use Rattle.cert_judge.proofs.Sets.{R}
use Rattle.cert_judge.proofs.Before.{before_all}
use Rattle.cert_judge.proofs.StandingFacts.{one_serial, default_is}
use Rattle.cert_judge.proofs.serials.add_all.Goals as goal

pub loop-serial-preserved : goal.loop-serial-preserved
loop-serial-preserved c =
    let xs = c.args.serials.now in
    let k = c.loop-serial.serial-index in
    let t : Bor (List ℕ) = get_or xs k (record { ref_ptr = (0, 0); now = [] }) in
    λ s. one_serial xs k t c.loop-serial-test.true (default_is xs k _ c.loop-serial-test.true) (sorted.contains R c.args.revoked.now s) (sorted.contains R c.loop-serial.revoked s) (sorted.contains R c.insert.new.self s) s (c.in_ok-insert.ensures.updates.0 s) (c.loop-serial.invariant s)

pub returns : goal.returns
returns c =
    let end : c.loop-serial.serial-index ≡ length c.args.serials.now = omega arith in
    λ s.
    let i = c.loop-serial.invariant s in
    let b = before_all (λ (t : Bor (List ℕ)). t.now ≡ s.now) c.args.serials.now c.loop-serial.serial-index end in
    (λ h. elim (i.0 h) [ inl x ↦ inl x | inr x ↦ inr (b.0 x) ], λ h. i.1 (elim h [ inl x ↦ inl x | inr x ↦ inr (b.1 x) ]))
