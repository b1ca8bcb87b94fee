use Rattle.std.proofs.Common.{ap, ◌∙◌}
use Rattle.std.proofs.lemmas.List.{get_or_default}
use Rattle.cert_graph.specs.declared.buckets.Bucket.{Bucket}
use Rattle.certpath_why.proofs.directory.places_in.Goals as goal

pub returns : goal.returns
returns c = λ b.
    c.as_slice.ensures.value ∙ ap (λ (z : Bucket). z.places.items) (c.index-buckets-number.is ∙ get_or_default c.args.buckets.now c.args.number c.index-buckets-number.result b c.requires)
