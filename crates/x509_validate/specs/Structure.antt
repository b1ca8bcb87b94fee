-- What is said of a certificate's structure.
use Rattle.std.specs.Prelude.{ℕ, ◌==◌, if◌then◌else◌, codes, Option, Some, None, List, [], ◌∷◌, ◌++◌}
use Rattle.x509_names.specs.View.{name_view, key_view}
use Rattle.x509_certs.specs.declared.tbs.TbsCertificate.{TbsCertificate}
use Rattle.x509_certs.specs.x509_ext.specs.declared.extension.X509Extension.{X509Extension}
use Rattle.x509_validate.specs.Messages.{Message, message, warning, fatal}
use Rattle.x509_validate.specs.Names.{name_messages}
use Rattle.x509_validate.specs.Keys.{key_messages}
use Rattle.x509_validate.specs.Parts.{version_messages, serial_messages, validity_messages}
use Rattle.x509_validate.specs.Extensions.{each_extension, each_alternative}

abbrev pub present : {X : Type 0} → List ℕ → Option X → List Message
present text (Some x) = message warning text ∷ []
present text None = []

-- unique identifiers come with version 2, which is written as 1 (RFC 5280, 4.1.2.8)
abbrev pub unique_messages : {X Y : Type 0} → ℕ → Option X → Option Y → List Message
unique_messages version issuer subject =
    if version == 0 then present (codes "issuerUniqueID present but version 1") issuer ++ present (codes "subjectUniqueID present but version 1") subject else []

-- extensions come with version 3, which is written as 2 (RFC 5280, 4.1.2.9)
abbrev pub presence_messages : ℕ → List X509Extension → List Message
presence_messages version [] = []
presence_messages version (e ∷ others) = if version == 2 then [] else message fatal (codes "Extensions present but version is not 3") ∷ []

-- of version, serial number, subject, issuer, key, times, unique identifiers and extensions, in this order
abbrev pub field_messages : TbsCertificate → List Message
field_messages t =
    version_messages t.version.0 ++ (serial_messages t.raw_serial.now ++ (name_messages (name_view t.subject) ++ (name_messages (name_view t.issuer)
    ++ (key_messages (key_view t.subject_pki) ++ validity_messages t.validity))))

abbrev pub further_messages : TbsCertificate → List Message
further_messages t =
    unique_messages t.version.0 t.issuer_uid t.subject_uid
    ++ (presence_messages t.version.0 t.extensions.items ++ (each_extension t.extensions.items ++ each_alternative t.extensions.items))

abbrev pub structure_messages : TbsCertificate → List Message
structure_messages t = field_messages t ++ further_messages t
