-- What is said of extensions, by what their values are parsed as.
use Rattle.std.specs.Prelude.{ℕ, List, [], ◌∷◌, ◌++◌, codes, if◌then◌else◌}
use Rattle.std.specs.List.{list_any}
use Rattle.asn1_core.specs.Texts.{needed_text, error_text}
use Rattle.asn1_core.specs.declared.error.Error.{Error}
use Rattle.asn1_core.specs.declared.outcome.Err.{Err as Refusal}
use Rattle.asn1_core.specs.declared.outcome.Err.TheVariants as refusals
use Rattle.asn1_oid.specs.Text.{oid_text}
use Rattle.x509_ext_names.specs.declared.general_name.GeneralName.{GeneralName}
use Rattle.x509_ext_names.specs.declared.general_name.GeneralName.TheVariants as names
use Rattle.x509_certs.specs.x509_ext.specs.Values.{ParsedExtension}
use Rattle.x509_certs.specs.x509_ext.specs.Kinds as cases
use Rattle.x509_certs.specs.x509_ext.specs.declared.extension.X509Extension.{X509Extension}
use Rattle.x509_validate.specs.Messages.{Message, message, warning, fatal}
use Rattle.x509_validate.specs.Names.{is_high}

-- the text of why a value is none of its type
abbrev pub refused_text : Refusal Error → List ℕ
refused_text (refusals.Incomplete n) = codes "incomplete " ++ needed_text n
refused_text (refusals.Error e) = codes "error " ++ error_text e
refused_text (refusals.Failure e) = codes "failure " ++ error_text e

abbrev pub parsed_messages : List ℕ → ParsedExtension → List Message
parsed_messages identifier (cases.UnsupportedExtension oid) = message warning (codes "Unsupported extension " ++ oid_text identifier) ∷ []
parsed_messages identifier (cases.ParseError error) = message fatal ((codes "Parse error in extension " ++ oid_text identifier) ++ (codes ": " ++ refused_text error)) ∷ []
parsed_messages identifier _ = []

-- of one extension: whether its value is known and parsed
abbrev pub extension_messages : X509Extension → List Message
extension_messages e = parsed_messages e.oid e.parsed_extension

abbrev pub each_extension : List X509Extension → List Message
each_extension [] = []
each_extension (e ∷ others) = extension_messages e ++ each_extension others

-- names of hosts and addresses of mail are IA5String (RFC 5280, 4.2.1.6)
abbrev pub text_messages : List ℕ → List Message
text_messages text = if list_any is_high text then message warning ((codes "Invalid charset in 'SAN' entry '" ++ text) ++ codes "'") ∷ [] else []

abbrev pub general_name_messages : GeneralName → List Message
general_name_messages (names.RFC822Name text) = text_messages text.now
general_name_messages (names.DNSName text) = text_messages text.now
general_name_messages _ = []

abbrev pub general_names_messages : List GeneralName → List Message
general_names_messages [] = []
general_names_messages (n ∷ others) = general_name_messages n ++ general_names_messages others

-- of the subject's alternative names, if the value is these
abbrev pub alternative_messages : ParsedExtension → List Message
alternative_messages (cases.SubjectAlternativeName n) = general_names_messages n.general_names.items
alternative_messages _ = []

abbrev pub each_alternative : List X509Extension → List Message
each_alternative [] = []
each_alternative (e ∷ others) = alternative_messages e.parsed_extension ++ each_alternative others
