use Rattle.std.proofs.Common.{refl}
use Rattle.laws_x509.proofs.texts.example_of_a_registry.Goals as goal

pub returns : goal.returns
returns c = (λ id. refl, refl)
