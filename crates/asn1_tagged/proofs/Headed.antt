-- Elements have the tag number of their header, and an optional value is read as the value is.
use Rattle.std.proofs.Common.{◌≡◌, ◌↔◌, ◌-◌, ◌∙◌, refl, ap, subst, ℕ, Option, Some, None, List, ◌++◌, append_assoc}
use Rattle.asn1_core.specs.Elements.{Element, head_of_element}
use Rattle.asn1_any.specs.DerElements.{BeginsWithElement}
use Rattle.asn1_any.specs.BerElements.{BerElement, definite_element, BeginsWithBerElement}
use Rattle.asn1_any.specs.declared.read.TheConstants.{MAX_RECURSION}
use Rattle.asn1_traits.specs.Elements.{ReadsElement, ReadsBerElement}
use Rattle.asn1_traits.specs.Options.{BeginsWithTag, BeginsWithBerTag, OptionReads}
use Rattle.asn1_tagged.specs.Optional.{OptTaggedReads}

der_headed : (octets rest : List ℕ) (e : Element) → BeginsWithElement octets e rest → BeginsWithTag octets e.tag
der_headed octets rest e b = record {
  head = head_of_element e;
  front = b.spells.header;
  rest = e.content ++ rest;
  in_range = b.spells.in_range;
  spells = b.spells.spells;
  whole = b.whole ∙ ap (λ z. z ++ rest) b.spells.whole ∙ append_assoc b.spells.header e.content rest;
  tells = refl;
}

ber_headed : (octets rest : List ℕ) (e : BerElement) → BeginsWithBerElement (MAX_RECURSION - 1) octets e rest → BeginsWithBerTag octets e.head.tag
ber_headed octets rest e b = record {
  head = e.head;
  front = b.spells.header;
  rest = b.spells.body ++ rest;
  in_range = b.spells.in_range;
  spells = b.spells.spells;
  whole = b.whole ∙ ap (λ z. z ++ rest) b.spells.whole ∙ append_assoc b.spells.header b.spells.body rest;
  tells = refl;
}

opt_as : {V : Type 0} (Begins : List ℕ → ℕ → Type 0) (tag : ℕ) (reads : List ℕ → V → List ℕ → Type 0) → ((octets : List ℕ) (v : V) (rest : List ℕ) → reads octets v rest → Begins octets tag) →
    (octets : List ℕ) (v : Option V) (rest : List ℕ) → OptionReads Begins tag reads octets v rest ↔ OptTaggedReads Begins tag reads octets v rest
opt_as Begins tag reads h octets (Some v) rest = ((λ p. p.1), (λ p. (h octets v rest p, p)))
opt_as Begins tag reads h octets None rest = ((λ p. p), (λ p. p))

-- if each element that means a value has the tag number
pub der_opt_as : {V : Type 0} (tag : ℕ) (means : BerElement → V → Type 0) → ((e : BerElement) (v : V) → means e v → e.head.tag ≡ tag) →
    (octets : List ℕ) (v : Option V) (rest : List ℕ) → OptionReads BeginsWithTag tag (ReadsElement means) octets v rest ↔ OptTaggedReads BeginsWithTag tag (ReadsElement means) octets v rest
der_opt_as tag means has = opt_as BeginsWithTag tag (ReadsElement means) (λ octets v rest p.
    subst (λ (n : ℕ). BeginsWithTag octets n) (has (definite_element p.element) v p.meant) (der_headed octets rest p.element p.begins))

pub ber_opt_as : {V : Type 0} (tag : ℕ) (means : BerElement → V → Type 0) → ((e : BerElement) (v : V) → means e v → e.head.tag ≡ tag) →
    (octets : List ℕ) (v : Option V) (rest : List ℕ) → OptionReads BeginsWithBerTag tag (ReadsBerElement means) octets v rest ↔ OptTaggedReads BeginsWithBerTag tag (ReadsBerElement means) octets v rest
ber_opt_as tag means has = opt_as BeginsWithBerTag tag (ReadsBerElement means) (λ octets v rest p.
    subst (λ (n : ℕ). BeginsWithBerTag octets n) (has p.element v p.meant) (ber_headed octets rest p.element p.begins))
