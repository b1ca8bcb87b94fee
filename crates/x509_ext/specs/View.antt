-- What the values of this crate's types are, as the data of `Fields`.
use Rattle.std.specs.Prelude.{Option}
use Rattle.asn1_core.specs.declared.error.Error.{Error}
use Rattle.asn1_core.specs.declared.outcome.Err.{Err as Refusal}
use Rattle.x509_names.specs.Fields.{Bits}
use Rattle.x509_names.specs.View.{bits_view}
use Rattle.x509_ext_parse.specs.Cases.{HoldsNoMemory, error_of}
use Rattle.x509_ext_parse.specs.View.{HasCountedElements, parsed_view}
use Rattle.x509_ext.specs.Fields.{Extension}
use Rattle.x509_ext.specs.declared.extension.X509Extension.{X509Extension}
use Rattle.x509_ext.specs.declared.unique.UniqueIdentifier.{UniqueIdentifier}

abbrev pub extension_view : X509Extension → Extension
extension_view e = record { identifier = e.oid; critical = e.critical; value = e.value.now; parsed = parsed_view e.parsed_extension }

-- why its value is none of its type, if it isn't: a view of the value leaves that out
abbrev pub extension_error : X509Extension → Option (Refusal Error)
extension_error e = error_of e.parsed_extension

-- if its value is none of its type, the error isn't `OutOfMemory`
abbrev pub WantsNoMemory : X509Extension → Type 0
WantsNoMemory e = HoldsNoMemory e.parsed_extension

-- the elements in its parsed value have the lengths of their contents
abbrev pub IsCountedExtension : X509Extension → Type 0
IsCountedExtension e = HasCountedElements e.parsed_extension

abbrev pub identifier_view : UniqueIdentifier → Bits
identifier_view id = bits_view id.0
