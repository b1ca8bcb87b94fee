use Rattle.std.proofs.Common.{◌≡◌, ◌∙◌, ap, sym, subst, refl, ℕ, List, Bor, length, arith, get_or, Option, Some, None, false}
use Rattle.std.specs.Prelude.{is_some}
use Rattle.std.proofs.lemmas.List.{get_or_default}
use Rattle.sha2.specs.Sha256.{sha256}
use Rattle.cert_vouchers.specs.Vouching.{ArePlaced}
use Rattle.cert_vouchers.proofs.Digests.{placed_more}
use Rattle.cert_vouchers.proofs.lookup.places_of.Goals as goal

nothing : (o : Option ℕ) → is_some o ≡ false → o ≡ None
nothing None e = refl
nothing (Some v) e = cc

pub loop-number-preserved : goal.loop-number-preserved
loop-number-preserved g c =
    let keys = c.args.keys.now in
    let k = c.loop-number.number in
    let own : (key : Bor (List ℕ)) → sha256 (get_or keys k key).now ≡ c.key_digest.result = λ key. ap (λ (b : Bor (List ℕ)). sha256 b.now) (get_or_default keys k key _ c.loop-number-test.true) ∙ sym c.key_digest.ensures in
    let fresh = sym c.in_ok-before.ensures.old ∙ nothing c.in_ok-before.before (sym c.if-is_some.ensures) in
    placed_more keys k c.key_digest.result c.loop-number.places c.insert.new.self c.loop-number.invariant own fresh (λ q. c.in_ok-before.ensures.updates.0 q)

pub returns : goal.returns
returns g c =
    let end : c.loop-number.number ≡ length c.args.keys.now = omega arith in
    subst (λ n. ArePlaced c.args.keys.now n c.loop-number.places) end c.loop-number.invariant
