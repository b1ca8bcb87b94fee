use Rattle.std.proofs.Common.{◌≡◌, suc, ◌-◌, sym, ◌∙◌, ap, arith}
use Rattle.cert_framing.specs.Pieces.{start_at}
use Rattle.cert_framing.proofs.PieceLemmas.{start_at-suc, start_at-zero}
use Rattle.cert_framing.proofs.items.start_of.Goals as goal

pub returns-then-k-eq0 : goal.returns-then-k-eq0
returns-then-k-eq0 c = let first : c.args.k ≡ 0 = omega arith in rw first (sym (start_at-zero 0 c.args.ends.now))

pub returns-else-k-eq0 : goal.returns-else-k-eq0
returns-else-k-eq0 c =
    let next : suc (c.args.k - 1) ≡ c.args.k = omega arith in
    sym (start_at-suc 0 c.args.ends.now (c.args.k - 1) (omega arith)) ∙ ap (start_at 0 c.args.ends.now) next
