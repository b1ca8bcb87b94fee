use Rattle.std.proofs.Common.{◌∙◌}
use Rattle.x509_algorithms.proofs.SignatureLaws.{mask_there, mask_none, mask_once}
use Rattle.x509_algorithms.proofs.mask.told_mask.Goals as goal

pub returns-in-Some-hash_within-clause-found : goal.returns-in-Some-hash_within-clause-found
returns-in-Some-hash_within-clause-found c =
    let hash = c.in-Some-hash_within.ensures.found in
    mask_there c.args.algorithm.now c.in-Some.any c.new-mgf.result c.in-Some-hash_within.hash hash.0 c.in-Some.is (c.new-mgf.ensures ∙ c.as_bytes.ensures) hash.1

pub returns-in-Some-hash_within-clause-only : goal.returns-in-Some-hash_within-clause-only
returns-in-Some-hash_within-clause-only c = λ v mask.
    mask_once c.args.algorithm.now c.in-Some.any c.new-mgf.result c.in-Some-hash_within.hash v c.in-Some.is (c.new-mgf.ensures ∙ c.as_bytes.ensures) c.in-Some-hash_within.ensures.only mask

pub returns-in-None-clause-only : goal.returns-in-None-clause-only
returns-in-None-clause-only c = λ v mask. mask_none c.args.algorithm.now c.in-Some.any v c.in-Some.is c.in-None.ensures.only mask
