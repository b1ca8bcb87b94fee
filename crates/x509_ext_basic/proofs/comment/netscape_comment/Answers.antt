use Rattle.std.proofs.Common.{arith, ℕ, List, Bor}
use Rattle.asn1_core.proofs.Numbers.{octets_below}
use Rattle.x509_core.proofs.Public.{gives_found, gives_only}
use Rattle.x509_ext_basic.specs.Leaves as grammar
use Rattle.x509_ext_basic.specs.Reading.{comment_at}
use Rattle.x509_ext_basic.proofs.Laws.{comment_reading}
use Rattle.x509_ext_basic.proofs.comment.netscape_comment.Goals as goal

pub returns-clause-found : goal.returns-clause-found
returns-clause-found c =
    gives_found grammar.NetscapeComment comment_at comment_reading (λ (t : Bor (List ℕ)). t.now) c.args.i.now c.comment_at_front.result
    (octets_below c.args.i.now (λ k. omega (arith, c.type_inv.i k))) c.comment_at_front.ensures.read

pub returns-clause-only : goal.returns-clause-only
returns-clause-only c =
    gives_only grammar.NetscapeComment comment_at comment_reading (λ (t : Bor (List ℕ)). t.now) c.args.i.now c.comment_at_front.result
    (octets_below c.args.i.now (λ k. omega (arith, c.type_inv.i k))) c.comment_at_front.ensures.read
