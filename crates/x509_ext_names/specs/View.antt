-- What the values of this crate's types are, as the data of `Values`.
use Rattle.std.specs.Prelude.{List, All, IfSome, option_map, map}
use Rattle.asn1_any.specs.CutViews.{HasOwnLength}
use Rattle.asn1_any.specs.Views.{any_of}
use Rattle.x509_ext_flags.specs.x509_names.specs.View.{IsCountedName, name_view}
use Rattle.x509_ext_flags.specs.View.{key_identifier_view}
use Rattle.x509_ext_names.specs.Values as values
use Rattle.x509_ext_names.specs.declared.general_name.GeneralName.{GeneralName}
use Rattle.x509_ext_names.specs.declared.general_name.GeneralName.TheVariants as names
use Rattle.x509_ext_names.specs.declared.alternative.SubjectAlternativeName.{SubjectAlternativeName}
use Rattle.x509_ext_names.specs.declared.alternative.IssuerAlternativeName.{IssuerAlternativeName}
use Rattle.x509_ext_names.specs.declared.identifiers.AuthorityKeyIdentifier.{AuthorityKeyIdentifier}
use Rattle.x509_ext_names.specs.declared.constraints.GeneralSubtree.{GeneralSubtree}
use Rattle.x509_ext_names.specs.declared.constraints.NameConstraints.{NameConstraints}
use Rattle.x509_ext_names.specs.declared.access.AccessDescription.{AccessDescription}
use Rattle.x509_ext_names.specs.declared.access.AuthorityInfoAccess.{AuthorityInfoAccess}
use Rattle.x509_ext_names.specs.declared.access.SubjectInfoAccess.{SubjectInfoAccess}

abbrev pub general_name_view : GeneralName → values.GeneralName
general_name_view (names.OtherName id octets) = values.other_name id octets.now
general_name_view (names.RFC822Name text) = values.rfc822_name text.now
general_name_view (names.DNSName text) = values.dns_name text.now
general_name_view (names.X400Address any) = values.x400_address (any_of any)
general_name_view (names.DirectoryName name) = values.directory_name (name_view name)
general_name_view (names.EDIPartyName any) = values.edi_party_name (any_of any)
general_name_view (names.URI text) = values.uri text.now
general_name_view (names.IPAddress octets) = values.ip_address octets.now
general_name_view (names.RegisteredID id) = values.registered_id id
general_name_view (names.Invalid tag octets) = values.invalid tag.0 octets.now

-- the elements in a name have the lengths of their contents: one that isn't parsed, and the values of a distinguished name
abbrev pub IsCountedGeneralName : GeneralName → Type 0
IsCountedGeneralName (names.X400Address any) = HasOwnLength any
IsCountedGeneralName (names.DirectoryName name) = IsCountedName name
IsCountedGeneralName (names.EDIPartyName any) = HasOwnLength any
IsCountedGeneralName name = Unit {0}

abbrev pub authority_key_view : AuthorityKeyIdentifier → values.AuthorityKeyIdentifier
authority_key_view a = record {
  key_identifier = option_map key_identifier_view a.key_identifier;
  authority_cert_issuer = option_map (λ v. map general_name_view v.items) a.authority_cert_issuer;
  authority_cert_serial = option_map (λ o. o.now) a.authority_cert_serial;
}

-- the elements in its names have the lengths of their contents
abbrev pub IsCountedIdentifier : AuthorityKeyIdentifier → Type 0
IsCountedIdentifier a = IfSome a.authority_cert_issuer (λ v. All IsCountedGeneralName v.items)

abbrev pub subtree_view : GeneralSubtree → values.GeneralName
subtree_view s = general_name_view s.base

-- so have those in its base
abbrev pub IsCountedSubtree : GeneralSubtree → Type 0
IsCountedSubtree s = IsCountedGeneralName s.base

abbrev pub name_constraints_view : NameConstraints → values.NameConstraints
name_constraints_view c = record {
  permitted_subtrees = option_map (λ v. map subtree_view v.items) c.permitted_subtrees;
  excluded_subtrees = option_map (λ v. map subtree_view v.items) c.excluded_subtrees;
}

-- so have those in each of its subtrees
abbrev pub HasCountedSubtrees : NameConstraints → Type 0
HasCountedSubtrees c = IfSome c.permitted_subtrees (λ v. All IsCountedSubtree v.items) × IfSome c.excluded_subtrees (λ v. All IsCountedSubtree v.items)

abbrev pub access_view : AccessDescription → values.AccessDescription
access_view d = record { access_method = d.access_method; access_location = general_name_view d.access_location }

-- so have those in its location
abbrev pub HasCountedLocation : AccessDescription → Type 0
HasCountedLocation d = IsCountedGeneralName d.access_location

abbrev pub authority_info_view : AuthorityInfoAccess → List values.AccessDescription
authority_info_view a = map access_view a.accessdescs.items

abbrev pub subject_info_view : SubjectInfoAccess → List values.AccessDescription
subject_info_view a = map access_view a.accessdescs.items

abbrev pub subject_names_view : SubjectAlternativeName → List values.GeneralName
subject_names_view n = map general_name_view n.general_names.items

abbrev pub issuer_names_view : IssuerAlternativeName → List values.GeneralName
issuer_names_view n = map general_name_view n.general_names.items
