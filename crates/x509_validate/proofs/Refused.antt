-- The text of a refusal.
use Rattle.std.proofs.Common.{◌≡◌, refl}
use Rattle.std.specs.Prelude.{Some}
use Rattle.asn1_core.specs.Texts.{refusal_text, error_text}
use Rattle.asn1_core.specs.declared.error.Error.{Error}
use Rattle.asn1_core.specs.declared.outcome.Err.{Err as Refusal}
use Rattle.asn1_core.specs.declared.outcome.Err.TheVariants as refusals
use Rattle.x509_validate.specs.Extensions.{refused_text}

pub written : (r : Refusal Error) → refusal_text (λ e. Some (error_text e)) r ≡ Some (refused_text r)
written (refusals.Incomplete n) = refl
written (refusals.Error e) = refl
written (refusals.Failure e) = refl
