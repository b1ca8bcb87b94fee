-- Object identifiers, as content octets (X.690, 8.19).
use Rattle.std.specs.Prelude.{ℕ, List, [], ◌∷◌}

-- rsaEncryption, 1.2.840.113549.1.1.1 (RFC 3279, 2.3.1)
abbrev pub rsa_id : List ℕ
rsa_id = 0x2a ∷ 0x86 ∷ 0x48 ∷ 0x86 ∷ 0xf7 ∷ 0x0d ∷ 0x01 ∷ 0x01 ∷ 0x01 ∷ []

-- id-mgf1, 1.2.840.113549.1.1.8 (RFC 4055, 2.2)
abbrev pub mgf1_id : List ℕ
mgf1_id = 0x2a ∷ 0x86 ∷ 0x48 ∷ 0x86 ∷ 0xf7 ∷ 0x0d ∷ 0x01 ∷ 0x01 ∷ 0x08 ∷ []

-- id-ecPublicKey, 1.2.840.10045.2.1 (RFC 5480, 2.1.1)
abbrev pub ec_id : List ℕ
ec_id = 0x2a ∷ 0x86 ∷ 0x48 ∷ 0xce ∷ 0x3d ∷ 0x02 ∷ 0x01 ∷ []

-- id-dsa, 1.2.840.10040.4.1 (RFC 3279, 2.3.2)
abbrev pub dsa_id : List ℕ
dsa_id = 0x2a ∷ 0x86 ∷ 0x48 ∷ 0xce ∷ 0x38 ∷ 0x04 ∷ 0x01 ∷ []

-- id-GostR3410-2001, 1.2.643.2.2.19 (RFC 4491, 2.3.2)
abbrev pub gost_id : List ℕ
gost_id = 0x2a ∷ 0x85 ∷ 0x03 ∷ 0x02 ∷ 0x02 ∷ 0x13 ∷ []

-- id-tc26-gost3410-12-256, 1.2.643.7.1.1.1.1 (RFC 9215, 4)
abbrev pub gost_2012_256_id : List ℕ
gost_2012_256_id = 0x2a ∷ 0x85 ∷ 0x03 ∷ 0x07 ∷ 0x01 ∷ 0x01 ∷ 0x01 ∷ 0x01 ∷ []

-- id-tc26-gost3410-12-512, 1.2.643.7.1.1.1.2 (RFC 9215, 4)
abbrev pub gost_2012_512_id : List ℕ
gost_2012_512_id = 0x2a ∷ 0x85 ∷ 0x03 ∷ 0x07 ∷ 0x01 ∷ 0x01 ∷ 0x01 ∷ 0x02 ∷ []

-- id-at-commonName, 2.5.4.3 (RFC 5280, appendix A.1), and the others of attribute types
abbrev pub common_name_id : List ℕ
common_name_id = 0x55 ∷ 0x04 ∷ 0x03 ∷ []

-- id-at-countryName, 2.5.4.6
abbrev pub country_id : List ℕ
country_id = 0x55 ∷ 0x04 ∷ 0x06 ∷ []

-- id-at-localityName, 2.5.4.7
abbrev pub locality_id : List ℕ
locality_id = 0x55 ∷ 0x04 ∷ 0x07 ∷ []

-- id-at-stateOrProvinceName, 2.5.4.8
abbrev pub state_or_province_id : List ℕ
state_or_province_id = 0x55 ∷ 0x04 ∷ 0x08 ∷ []

-- id-at-organizationName, 2.5.4.10
abbrev pub organization_id : List ℕ
organization_id = 0x55 ∷ 0x04 ∷ 0x0a ∷ []

-- id-at-organizationalUnitName, 2.5.4.11
abbrev pub organizational_unit_id : List ℕ
organizational_unit_id = 0x55 ∷ 0x04 ∷ 0x0b ∷ []

-- id-domainComponent, 0.9.2342.19200300.100.1.25
abbrev pub domain_component_id : List ℕ
domain_component_id = 0x09 ∷ 0x92 ∷ 0x26 ∷ 0x89 ∷ 0x93 ∷ 0xf2 ∷ 0x2c ∷ 0x64 ∷ 0x01 ∷ 0x19 ∷ []

-- id-emailAddress, 1.2.840.113549.1.9.1
abbrev pub email_id : List ℕ
email_id = 0x2a ∷ 0x86 ∷ 0x48 ∷ 0x86 ∷ 0xf7 ∷ 0x0d ∷ 0x01 ∷ 0x09 ∷ 0x01 ∷ []
