-- Items with their first faults, written out by hand: they try the law's definitions, not the code.
use Rattle.std.specs.Prelude.{ℕ, false, List, [], ◌∷◌, Some, None}
use Rattle.asn1_core.specs.declared.class.Class.TheVariants.{Universal}
use Rattle.asn1_core.specs.declared.header.Header.{Header}
use Rattle.asn1_core.specs.declared.length.Length.TheVariants.{Definite}
use Rattle.cert_faults.specs.declared.fault.Fault.{Fault}
use Rattle.cert_faults.specs.declared.places.Expected.TheVariants.{NumberFromZero, Sequence, WholeElement}
use Rattle.cert_faults.specs.declared.places.Field.TheVariants.{Item, SerialNumber, TbsCertificate}
use Rattle.cert_faults.specs.declared.places.Part.TheVariants.{Whole}

-- the header of a NULL with so many content octets
abbrev pub null_header : ℕ → Header
null_header size = record { class = Universal; constructed = false; tag = record { 0 = 5 }; length = Definite size }

-- a SEQUENCE of a SEQUENCE of a NULL, in the place of a certificate's serial number
abbrev pub null_serial : List ℕ
null_serial = 0x30 ∷ 0x04 ∷ 0x30 ∷ 0x02 ∷ 0x05 ∷ 0x00 ∷ []

abbrev pub serial_fault : Fault
serial_fault = record { field = SerialNumber; part = Whole; expected = NumberFromZero; offset = 4; found = Some (null_header 0) }

-- a SEQUENCE of a NULL that lacks its one content octet
abbrev pub cut_null : List ℕ
cut_null = 0x30 ∷ 0x02 ∷ 0x05 ∷ 0x01 ∷ []

abbrev pub cut_fault : Fault
cut_fault = record { field = Item; part = Whole; expected = WholeElement; offset = 2; found = Some (null_header 1) }

-- an empty SEQUENCE, which lacks a certificate's first part
abbrev pub no_parts : List ℕ
no_parts = 0x30 ∷ 0x00 ∷ []

abbrev pub missing_fault : Fault
missing_fault = record { field = TbsCertificate; part = Whole; expected = Sequence; offset = 2; found = None }
