-- What an `Any` says, for clauses of this crate and of those above it.
use Rattle.asn1_core.specs.Elements.{Element}
use Rattle.asn1_core.specs.Views.{head_of, ber_head_of}
use Rattle.asn1_any.specs.declared.any.Any.{Any}
use Rattle.asn1_any.specs.BerElements.{BerElement}
use Rattle.asn1_any.specs.DerElements.{element_of}

-- class, constructed bit, tag number and content
abbrev pub any_of : Any → Element
any_of any = element_of (head_of any.header) any.content.now

-- class, constructed bit, tag number, content, and the length in the header
abbrev pub ber_any_of : Any → BerElement
ber_any_of any = record { head = ber_head_of any.header; content = any.content.now }
