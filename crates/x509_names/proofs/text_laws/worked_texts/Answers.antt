use Rattle.std.proofs.Common.{refl}
use Rattle.std.specs.Char.{encode_utf8}
use Rattle.std.specs.Char.Utf16.{utf16_chars}
use Rattle.std.specs.Fmt.{digits}
use Rattle.std.specs.Str.{chars, is_utf8}
use Rattle.asn1_oid.specs.Reading.{is_small_after, numbers_after}
use Rattle.asn1_oid.specs.Text.{oid_text}
use Rattle.x509_names.specs.NameTexts.{units_of}
use Rattle.x509_names.proofs.text_laws.worked_texts.Goals as goal

pub returns-clause-row : goal.returns-clause-row
unfolding is_utf8 encode_utf8 chars
returns-clause-row c = refl

pub returns-clause-wide : goal.returns-clause-wide
unfolding units_of utf16_chars encode_utf8
returns-clause-wide c = refl

pub returns-clause-hex : goal.returns-clause-hex
unfolding oid_text digits is_small_after numbers_after
returns-clause-hex c = refl

pub returns-clause-empty : goal.returns-clause-empty
unfolding units_of utf16_chars encode_utf8
returns-clause-empty c = refl

pub returns-clause-fault : goal.returns-clause-fault
unfolding units_of utf16_chars
returns-clause-fault c = refl
