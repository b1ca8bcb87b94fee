use Rattle.std.proofs.Common.{rules, ◌≡◌, sym, subst, ℕ, List, [], map, Bor, arith}
use Rattle.cert_vouchers.specs.Vouching.{Puts, IsOf}
use Rattle.cert_vouchers.proofs.Digests.{FoundIn, walked, walked_all, pushed_now, puts_none, puts_then, puts_as, found_then}
use Rattle.cert_vouchers.proofs.lookup.put_each.Goals as goal

pub loop-digest-init : goal.loop-digest-init
loop-digest-init c = let all : c.into_iter-digest-iterator.result ≡ c.args.digests.now.keys = search rules in (all, puts_none c.args.rows.now.items (FoundIn c.args.places.now []) c.args.place (λ k f. absurd (omega (arith, f.1.1))))

pub loop-digest-preserved : goal.loop-digest-preserved
loop-digest-preserved c =
    let m = c.args.places.now in
    let ys = c.loop-digest.yielded in
    let ds = map (λ (d : Bor (List ℕ)). d.now) ys in
    let b = c.in-Some.digest in
    let two = puts_then c.args.rows.now.items c.loop-digest.rows.items c.put_one.new.rows.items (FoundIn m ds) (IsOf m b.now) c.args.place c.loop-digest.invariant.1 c.in_ok-put_one.ensures in (
      walked c.args.digests.now.keys ys b c.next.new.self c.loop-digest.digest-iterator c.loop-digest.invariant.0 c.in-Some.ensures.steps,
      subst (λ l. Puts c.args.rows.now.items c.put_one.new.rows.items (FoundIn m l) c.args.place) (sym (pushed_now ys b)) (puts_as c.args.rows.now.items c.put_one.new.rows.items _ _ c.args.place (found_then m ds b.now) two),
    )

pub returns : goal.returns
returns c =
    let all = walked_all c.args.digests.now.keys c.loop-digest.yielded c.loop-digest.digest-iterator c.loop-digest.invariant.0 c.in-None.ensures.steps.0 in
    subst (λ l. Puts c.args.rows.now.items c.loop-digest.rows.items (FoundIn c.args.places.now l) c.args.place) all c.loop-digest.invariant.1
