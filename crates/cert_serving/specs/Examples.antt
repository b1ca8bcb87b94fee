-- Worked examples.
use Rattle.std.specs.Prelude.{ℕ, false, true, Some, None, List, [], ◌∷◌}
use Rattle.host_names.specs.Asked.{name}
use Rattle.host_names.specs.Examples.{w_a_b}
use Rattle.cert_model.specs.Fields.{Identifier, Extension, Certificate}
use Rattle.cert_judge.specs.Examples.{extended_by, extension}
use Rattle.cert_purpose.specs.Examples.{server_auth}
use Rattle.cert_serving.specs.declared.names.Choice.TheVariants.{DnsName, IpAddress}
use Rattle.cert_serving.specs.GeneralNames.{GeneralName, general_names_octets}
use Rattle.cert_serving.specs.Serving.{subject_alt_name}
use Rattle.cert_serving.specs.Demanding.{Demanded}

-- an extension that isn't critical
abbrev pub alternative : List ℕ → Extension
alternative value = record { identifier = subject_alt_name; critical = false; value = value }

abbrev pub dns : List ℕ → GeneralName
dns text = record { choice = DnsName; content = text }

abbrev pub ip : List ℕ → GeneralName
ip octets = record { choice = IpAddress; content = octets }

-- the extensions of a certificate that has one name
abbrev pub naming : GeneralName → List Extension
naming g = alternative (general_names_octets (g ∷ [])) ∷ []

-- the address 1.2.3.4, its text, and ::ffff:1.2.3.4
abbrev pub four : List ℕ
four = 1 ∷ 2 ∷ 3 ∷ 4 ∷ []

abbrev pub four_written : List ℕ
four_written = 49 ∷ 46 ∷ 50 ∷ 46 ∷ 51 ∷ 46 ∷ 52 ∷ []

abbrev pub four_in_sixteen : List ℕ
four_in_sixteen = 0 ∷ 0 ∷ 0 ∷ 0 ∷ 0 ∷ 0 ∷ 0 ∷ 0 ∷ 0 ∷ 0 ∷ 0xff ∷ 0xff ∷ 1 ∷ 2 ∷ 3 ∷ 4 ∷ []

-- SEQUENCE { [2] "*.a.b" }
abbrev pub star_value : List ℕ
star_value = 0x30 ∷ 0x07 ∷ 0x82 ∷ 0x05 ∷ 42 ∷ 46 ∷ 97 ∷ 46 ∷ 98 ∷ []

-- SEQUENCE { [7] 1.2.3.4 }
abbrev pub four_value : List ℕ
four_value = 0x30 ∷ 0x06 ∷ 0x87 ∷ 0x04 ∷ four

-- SEQUENCE {}
abbrev pub empty_value : List ℕ
empty_value = 0x30 ∷ 0x00 ∷ []

-- demands of a purpose alone, and of a host alone, where the target is an item of octet 1
abbrev pub of_purpose : Demanded
of_purpose = record { purpose = Some server_auth; host = None; target = 1 ∷ [] }

abbrev pub of_host : Demanded
of_host = record { purpose = None; host = Some (name w_a_b); target = 1 ∷ [] }

-- a certificate whose one extension is critical
abbrev pub critical : Identifier → List ℕ → Certificate
critical identifier value = extended_by (extension identifier true value ∷ [])
