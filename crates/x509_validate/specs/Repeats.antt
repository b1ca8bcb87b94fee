-- What is said of identifiers that come twice, and of extensions by their kinds.
use Rattle.std.specs.Prelude.{ℕ, ◌==◌, ◌&&◌, ◌||◌, not, Bool, true, false, if◌then◌else◌, codes, Option, Some, None, List, [], ◌∷◌, ◌++◌, map}
use Rattle.asn1_oid.specs.Text.{oid_text}
use Rattle.x509_ext_policies.specs.Reading.{has}
use Rattle.x509_ext_names.specs.declared.identifiers.AuthorityKeyIdentifier.{AuthorityKeyIdentifier}
use Rattle.x509_ext_policies.specs.declared.policies.PolicyInformation.{PolicyInformation}
use Rattle.x509_certs.specs.x509_ext.specs.Values.{ParsedExtension}
use Rattle.x509_certs.specs.x509_ext.specs.Kinds as cases
use Rattle.x509_certs.specs.x509_ext.specs.declared.extension.X509Extension.{X509Extension}
use Rattle.x509_validate.specs.Messages.{Message, message, warning, fault, fatal}
use Rattle.x509_validate.specs.Extensions.{alternative_messages}

-- a message for each identifier that stood before; `kept` are those that stood before, each once
abbrev pub repeat_messages : List ℕ → List (List ℕ) → List (List ℕ) → List Message
repeat_messages text kept [] = []
repeat_messages text kept (id ∷ ids) =
    if has id kept then message fatal (text ++ oid_text id) ∷ repeat_messages text kept ids else repeat_messages text (kept ++ id ∷ []) ids

-- one of the two that name an issuer's certificate is there without the other (RFC 5280, 4.2.1.1)
abbrev pub half_messages : {X Y : Type 0} → Option X → Option Y → List Message
half_messages (Some x) None = message warning (codes "AKI: only one of Issuer and Serial is present") ∷ []
half_messages None (Some y) = message warning (codes "AKI: only one of Issuer and Serial is present") ∷ []
half_messages issuer serial = []

-- it must not be critical (RFC 5280, 4.2.1.1)
abbrev pub critical_messages : Bool → List Message
critical_messages critical = if critical then message fault (codes "Extension AKI MUST NOT be critical, but is") ∷ [] else []

abbrev pub authority_messages : Bool → AuthorityKeyIdentifier → List Message
authority_messages critical a = critical_messages critical ++ half_messages a.authority_cert_issuer a.authority_cert_serial

abbrev pub policy_messages : List PolicyInformation → List Message
policy_messages policies = repeat_messages (codes "Certificate Policies: duplicate policy ") [] (map (λ p. p.policy_id) policies)

abbrev pub usage_messages : ℕ → List Message
usage_messages flags = if flags == 0 then message fault (codes "KeyUsage: all flags are set to 0") ∷ [] else []

-- of an extension by its kind
abbrev pub kind_messages : Bool → ParsedExtension → List Message
kind_messages critical (cases.AuthorityKeyIdentifier a) = authority_messages critical a
kind_messages critical (cases.CertificatePolicies policies) = policy_messages policies.items
kind_messages critical (cases.KeyUsage usage) = usage_messages usage.flags
kind_messages critical other = alternative_messages other

abbrev pub each_kind : List X509Extension → List Message
each_kind [] = []
each_kind (e ∷ others) = kind_messages e.critical e.parsed_extension ++ each_kind others

-- of extensions that repeat an identifier (RFC 5280, 4.2)
abbrev pub duplicate_messages : List X509Extension → List Message
duplicate_messages extensions = repeat_messages (codes "Duplicate extension ") [] (map (λ e. e.oid) extensions)

-- of extensions: those that repeat an identifier, and then each by its kind
abbrev pub list_messages : List X509Extension → List Message
list_messages extensions = duplicate_messages extensions ++ each_kind extensions
