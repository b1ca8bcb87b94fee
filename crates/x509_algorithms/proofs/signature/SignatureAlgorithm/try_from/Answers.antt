use Rattle.std.proofs.Common.{◌≡◌, refl}
use Rattle.x509_core.specs.declared.error.X509Error.TheVariants as errors
use Rattle.x509_names.specs.View.{algorithm_view}
use Rattle.x509_algorithms.specs.Signatures.{of_pss}
use Rattle.x509_algorithms.specs.View.{pss_view}
use Rattle.x509_algorithms.proofs.SignatureLaws.{pss_once, pss_alone}
use Rattle.x509_algorithms.proofs.signature.SignatureAlgorithm.try_from.Goals as goal

pub returns-in-Ok-clause-found : goal.returns-in-Ok-clause-found
returns-in-Ok-clause-found c = of_pss (pss_view c.in-Ok.parameters) c.in-Ok.ensures.found refl

pub returns-in-Ok-clause-only : goal.returns-in-Ok-clause-only
returns-in-Ok-clause-only c = λ v is. pss_once (algorithm_view c.args.algorithm.now) (pss_view c.in-Ok.parameters) v c.in-None.ensures.only c.in-Ok.ensures.only is

pub returns-in-Err-clause-only : goal.returns-in-Err-clause-only
returns-in-Err-clause-only c = λ v is. pss_alone (algorithm_view c.args.algorithm.now) (c.in-Err.e ≡ errors.OutOfMemory) v c.in-None.ensures.only c.in-Err.ensures.only is
