use Rattle.std.proofs.Common.{◌≡◌, Some, subst}
use Rattle.std.specs.Int.Digits.{AllBelowBase}
use Rattle.asn1_core.specs.Elements.{Element}
use Rattle.x509_algorithms.specs.Examples.{nothing_element}
use Rattle.x509_algorithms.proofs.Items.{pss_is}
use Rattle.laws_x509.proofs.texts.example_of_one_signature.Goals as goal

one_element : (e f : Element) → Some e ≡ Some f → e ≡ f
one_element e f is = cc

pub returns : goal.returns
returns c = (λ e is. subst (λ (f : Element). AllBelowBase 256 f.content) (one_element nothing_element e is) tt, pss_is)
