-- Which of several attributes is meant.
use Rattle.std.specs.Prelude.{ℕ, List, [], ◌∷◌, Option, Some, None, map, bytes_eq}
use Rattle.std.specs.List.{filter}
use Rattle.x509_ext.specs.Values.{ParsedExtension}
use Rattle.x509_requests.specs.declared.attribute.ParsedCriAttribute.{ParsedCriAttribute}
use Rattle.x509_requests.specs.declared.attribute.ParsedCriAttribute.TheVariants as cases
use Rattle.x509_requests.specs.declared.attribute.X509CriAttribute.{X509CriAttribute}

-- those that have these octets as their identifier
abbrev pub attributes_of : List ℕ → List X509CriAttribute → List X509CriAttribute
attributes_of identifier attributes = filter (λ a. bytes_eq a.oid identifier) attributes

-- the first one
abbrev pub first_attribute : List X509CriAttribute → Option X509CriAttribute
first_attribute [] = None
first_attribute (a ∷ others) = Some a

-- what the extensions were parsed as that an attribute asks for; else what the next ones do
abbrev pub requested_by : ParsedCriAttribute → Option (List ParsedExtension) → Option (List ParsedExtension)
requested_by (cases.ExtensionRequest r) next = Some (map (λ e. e.parsed_extension) r.extensions.items)
requested_by a next = next

-- those of the first extension request
abbrev pub requested_of : List X509CriAttribute → Option (List ParsedExtension)
requested_of [] = None
requested_of (a ∷ others) = requested_by a.parsed_attribute (requested_of others)
