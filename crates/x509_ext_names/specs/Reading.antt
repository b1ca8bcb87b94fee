-- The readers of this crate as functions on octets. What they read is defined in `Names` and
-- `Extensions`; laws tie each function to it. None of their refusals is promised by its error.
use Rattle.std.specs.Prelude.{ℕ, ◌==◌, if◌then◌else◌, List, Ok, Err}
use Rattle.asn1_core.specs.Elements.{Element}
use Rattle.asn1_any.specs.Cutting.{Piece}
use Rattle.x509_core.specs.Answers.{Answer, unnamed, ◌>>=◌}
use Rattle.x509_core.specs.Reading.{Reader, content_in, next, many_of}
use Rattle.x509_ext_flags.specs.x509_names.specs.Reading.{name_at, integer_in}
use Rattle.x509_items.specs.Reading.{held, maybe_of, some_of, to_end, ended, all_of, oid_at, text_in}
use Rattle.x509_ext_names.specs.Values as values

unfoldable pub other_name_in : List ℕ → Answer values.GeneralName
other_name_in content = do
  id ← oid_at content
  Ok (values.other_name id.0 id.1)

unfoldable pub text_name_in : ℕ → List ℕ → Answer values.GeneralName
text_name_in tag content = do
  text ← text_in content
  Ok (if tag == 1 then values.rfc822_name text else if tag == 2 then values.dns_name text else values.uri text)

unfoldable pub directory_name_in : List ℕ → Answer values.GeneralName
directory_name_in content = do
  name ← name_at content
  whole ← to_end name
  Ok (values.directory_name whole)

-- the name of an element by its tag number
unfoldable pub entry_in : Element → Answer values.GeneralName
entry_in e =
    if e.tag == 0 then other_name_in e.content
    else if e.tag == 1 then text_name_in 1 e.content
    else if e.tag == 2 then text_name_in 2 e.content
    else if e.tag == 3 then Ok (values.x400_address e)
    else if e.tag == 4 then directory_name_in e.content
    else if e.tag == 5 then Ok (values.edi_party_name e)
    else if e.tag == 6 then text_name_in 6 e.content
    else if e.tag == 7 then Ok (values.ip_address e.content)
    else if e.tag == 8 then Ok (values.registered_id e.content)
    else Err unnamed

-- what is no name is kept
abbrev pub or_invalid : Element → Answer values.GeneralName → values.GeneralName
or_invalid e (Ok n) = n
or_invalid e (Err y) = values.invalid e.tag e.content

abbrev pub general_name_of : Element → Answer values.GeneralName
general_name_of e = if e.class == 2 then Ok (or_invalid e (entry_in e)) else Err unnamed

abbrev pub general_name_in : Piece → Answer values.GeneralName
general_name_in p = general_name_of p.element

abbrev pub general_name_at : Reader values.GeneralName
general_name_at = next general_name_in

-- other names of subject and issuer
abbrev pub alternative_in : Piece → Answer (List values.GeneralName)
alternative_in = held 16 (ended (all_of general_name_at))

abbrev pub alternative_at : Reader (List values.GeneralName)
alternative_at = next alternative_in

-- names under a tag number: as many as begin there, or one at least
abbrev pub many_names_at : ℕ → Reader (List values.GeneralName)
many_names_at tag = next (held tag (λ i. Ok (many_of general_name_at i)))

abbrev pub some_names_at : ℕ → Reader (List values.GeneralName)
some_names_at tag = next (held tag (some_of general_name_at))

-- the content of an element of this tag number
abbrev pub tagged_at : ℕ → Reader (List ℕ)
tagged_at tag = next (λ p. content_in tag p.element)

abbrev pub serial_at : Reader (List ℕ)
serial_at = next (λ p. integer_in p.element)

unfoldable pub authority_key_parts_at : Reader values.AuthorityKeyIdentifier
authority_key_parts_at i = do
  let key = maybe_of (tagged_at 0) i
  let issuer = maybe_of (many_names_at 1) key.1
  let serial = maybe_of serial_at issuer.1
  Ok (record { key_identifier = key.0; authority_cert_issuer = issuer.0; authority_cert_serial = serial.0 }, serial.1)

abbrev pub authority_key_in : Piece → Answer values.AuthorityKeyIdentifier
authority_key_in = held 16 authority_key_parts_at

abbrev pub authority_key_at : Reader values.AuthorityKeyIdentifier
authority_key_at = next authority_key_in

-- a subtree is its base
abbrev pub subtree_in : Piece → Answer values.GeneralName
subtree_in = held 16 general_name_at

abbrev pub subtree_at : Reader values.GeneralName
subtree_at = next subtree_in

-- subtrees under a tag number, to the end
abbrev pub subtrees_in : List ℕ → Answer (List values.GeneralName)
subtrees_in i = some_of subtree_at i >>= to_end

abbrev pub subtrees_at : ℕ → Reader (List values.GeneralName)
subtrees_at tag = next (held tag (ended subtrees_in))

unfoldable pub name_constraints_parts_at : Reader values.NameConstraints
name_constraints_parts_at i = do
  let permitted = maybe_of (subtrees_at 0) i
  let excluded = maybe_of (subtrees_at 1) permitted.1
  Ok (record { permitted_subtrees = permitted.0; excluded_subtrees = excluded.0 }, excluded.1)

abbrev pub name_constraints_in : Piece → Answer values.NameConstraints
name_constraints_in = held 16 name_constraints_parts_at

abbrev pub name_constraints_at : Reader values.NameConstraints
name_constraints_at = next name_constraints_in

unfoldable pub access_parts_at : Reader values.AccessDescription
access_parts_at i = do
  method ← oid_at i
  location ← general_name_at method.1
  Ok (record { access_method = method.0; access_location = location.0 }, location.1)

abbrev pub access_in : Piece → Answer values.AccessDescription
access_in = held 16 access_parts_at

abbrev pub access_at : Reader values.AccessDescription
access_at = next access_in

abbrev pub info_access_in : Piece → Answer (List values.AccessDescription)
info_access_in = held 16 (ended (all_of access_at))

abbrev pub info_access_at : Reader (List values.AccessDescription)
info_access_at = next info_access_in
