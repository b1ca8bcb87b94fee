use Rattle.std.proofs.Common.{◌∙◌, sym, ap, subst, ℕ, List, map}
use Rattle.std.proofs.lemmas.List.{map-append}
use Rattle.x509_core.specs.Fronts.{TakesNoMemory}
use Rattle.x509_core.proofs.Many.{many_more, many_stops, refused_by}
use Rattle.x509_ext_sct.specs.Reading.{timestamp_at}
use Rattle.x509_ext_sct.specs.Values.{SignedCertificateTimestamp}
use Rattle.x509_ext_sct.specs.View.{timestamp_view}
use Rattle.x509_ext_sct.proofs.list.each_timestamp.Goals as goal

pub loop-rest-preserved : goal.loop-rest-preserved
loop-rest-preserved c =
    let step = many_more timestamp_at (map timestamp_view c.loop-rest.timestamps.items) c.loop-rest.left.now c.in-Ok.rest.now (timestamp_view c.in-Ok.timestamp) c.in-Ok.ensures.read c.in-Ok.ensures.shorter in
    rw (c.in_ok-push.ensures.items, map-append) (sym step ∙ c.loop-rest.invariant)

pub returns : goal.returns
returns c =
    let refused = refused_by c.in_default.field-0 (timestamp_at c.loop-rest.left.now) c.in_default.ensures.read (λ x is. subst TakesNoMemory is c.in_default.ensures.memory) in
    let stop = many_stops timestamp_at (map timestamp_view c.loop-rest.timestamps.items) c.loop-rest.left.now refused.0 refused.1 in
    ap (λ (z : List SignedCertificateTimestamp × List ℕ). z.0) (sym c.loop-rest.invariant ∙ stop)
