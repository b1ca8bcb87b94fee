use Rattle.std.proofs.Common.{◌≡◌, ◌≤◌, ◌∙◌, sym, ap, subst, true, arith}
use Rattle.certpath_pem.specs.Lines.{lines_of}
use Rattle.certpath_pem.specs.Blocks.{content_of}
use Rattle.certpath_pem.specs.Starts.{Start, count_of}
use Rattle.certpath_pem.specs.Contents.{start_view}
use Rattle.certpath_files.specs.Firsts.{is_enough, HoldsOctets, start_rows}
use Rattle.certpath_files.proofs.FirstFacts.{enough_start, whole_start}
use Rattle.certpath_files.proofs.starts.start_of_block.Goals as goal

pub returns-then-is_enough : goal.returns-then-is_enough
returns-then-is_enough c = λ wanted may_go_on spot.
    let is = c.in_ok-start.ensures in
    let enough : is_enough (start_view c.in_ok-start.start) ≡ true = sym c.is_enough.ensures.value ∙ c.if-is_enough.true in
    ap (start_rows wanted may_go_on spot) is
    ∙ enough_start wanted may_go_on spot 16777344 (content_of (lines_of c.args.block.body.now) c.args.block.is_ended) (omega arith) (subst (λ s. is_enough s ≡ true) is enough) (subst HoldsOctets is c.is_enough.ensures.octets)

pub returns : goal.returns
returns c = λ wanted may_go_on spot.
    let is = c.in_ok-whole.ensures in
    let count = ap (λ (s : Start). s.count) is in
    let most : count_of (content_of (lines_of c.args.block.body.now) c.args.block.is_ended) ≤ 18446744073709551615 = omega (arith, count) in
    ap (start_rows wanted may_go_on spot) is ∙ whole_start wanted may_go_on spot 18446744073709551615 (content_of (lines_of c.args.block.body.now) c.args.block.is_ended) most
