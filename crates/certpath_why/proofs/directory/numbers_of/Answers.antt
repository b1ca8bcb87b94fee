use Rattle.std.proofs.Common.{ap, sym, ◌∙◌}
use Rattle.std.proofs.lemmas.List.{get_or_default}
use Rattle.cert_graph.specs.declared.buckets.Bucket.{Bucket}
use Rattle.certpath_why.proofs.Numbers.{numbered_more}
use Rattle.certpath_why.proofs.directory.numbers_of.Goals as goal

pub loop-number-preserved : goal.loop-number-preserved
loop-number-preserved c =
    let bs = c.args.buckets.now in
    let k = c.loop-number.number in
    let b = c.index-buckets-number.result in
    numbered_more bs k b.text c.loop-number.numbers c.insert.new.self c.loop-number.invariant
    (λ d. ap (λ (z : Bucket). z.text) (get_or_default bs k d b c.loop-number-test.true ∙ sym c.index-buckets-number.is)) c.in_ok-insert.ensures.own c.in_ok-insert.ensures.others
