-- Certificates, lists and moments of worked cases: they try the definitions, not the code.
use Rattle.std.specs.Prelude.{◌≡◌, ℕ, zero, suc, pos, false, true, List, [], ◌∷◌, Bool, ◌||◌, nat_eq, Contains}
use Rattle.std.specs.Cmp.Lexicographic.{pointwise}
use Rattle.cert_model.specs.Fields.{Identifier, Extension, CivilTime, Key, Certificate, RevocationList}
use Rattle.cert_model.specs.Octets.{key_octets, certificate_octets, list_octets}
use Rattle.cert_model.specs.Class.{certificate, list}
use Rattle.cert_model.specs.Extended.{basic_constraints, key_usage}
use Rattle.cert_model.specs.Examples.{key, common_name, plain, issued_by_b, revoking, authority_b}
use Rattle.cert_judge.specs.Revoking.{Item, JudgingContext}
use Rattle.cert_judge.specs.Vouching.{nothing}

-- the first of June 2025 at midnight
abbrev pub in_june : CivilTime
in_june = record { year = pos 2025; month = 6; day = 1; hour = 0; minute = 0; second = 0; nanosecond = 0 }

-- a second before 2025, a second after 2026 began
abbrev pub too_early : CivilTime
too_early = record { year = pos 2024; month = 12; day = 31; hour = 23; minute = 59; second = 59; nanosecond = 0 }

abbrev pub too_late : CivilTime
too_late = record { year = pos 2026; month = 1; day = 1; hour = 0; minute = 0; second = 1; nanosecond = 0 }

abbrev pub extended_by : List Extension → Certificate
extended_by extensions = record plain { version = 2; extensions = extensions }

abbrev pub extension : Identifier → Bool → List ℕ → Extension
extension identifier critical value = record { identifier = identifier; critical = critical; value = value }

-- basic constraints that say nothing, and with the default written out
abbrev pub unconstrained : List ℕ
unconstrained = 0x30 ∷ 0x00 ∷ []

abbrev pub default_written : List ℕ
default_written = 0x30 ∷ 0x03 ∷ 0x01 ∷ 0x01 ∷ 0x00 ∷ []

-- extended key usage, which is not judged
abbrev pub extended_key_usage : Identifier
extended_key_usage = 0x55 ∷ 0x1d ∷ 0x25 ∷ []

-- an authority with path length 0, and one with a key usage too
abbrev pub path_length_zero : Extension
path_length_zero = extension basic_constraints true (0x30 ∷ 0x06 ∷ 0x01 ∷ 0x01 ∷ 0xff ∷ 0x02 ∷ 0x01 ∷ 0x00 ∷ [])

abbrev pub authority_with_usage : List ℕ → Certificate
authority_with_usage usage = record authority_b { extensions = path_length_zero ∷ extension key_usage false usage ∷ [] }

-- digitalSignature and keyEncipherment; keyCertSign
abbrev pub encipherment : List ℕ
encipherment = 0x03 ∷ 0x02 ∷ 0x05 ∷ 0xa0 ∷ []

abbrev pub signing : List ℕ
signing = 0x03 ∷ 0x02 ∷ 0x02 ∷ 0x04 ∷ []

-- an anchor of this subject
abbrev pub anchor_named : ℕ → Certificate
anchor_named letter = record plain { subject = common_name letter }

-- the list with an entry of serial number 2 in place of 1
abbrev pub revoking_two : RevocationList
revoking_two = record revoking { entries = record { serial = 2 ∷ []; date = revoking.this_update; extensions = [] } ∷ [] }

abbrev pub certificate_item : Certificate → Item
certificate_item c = record { octets = certificate_octets c; class = certificate c }

abbrev pub list_item : RevocationList → Item
list_item l = record { octets = list_octets l; class = list l }

-- every key vouches for everything, or for everything but one item
abbrev pub vouching_for_all : Bool → JudgingContext
vouching_for_all demand = record { moment = in_june; demand_lists = demand; Vouches = λ key item. Unit {0}; Processes = nothing }

abbrev pub vouching_but_for : List ℕ → JudgingContext
vouching_but_for octets = record { moment = in_june; demand_lists = false; Vouches = λ key item. item ≡ octets → ⊥; Processes = nothing }

-- ---- paths

-- the key of one octet
abbrev pub key_of : ℕ → Key
key_of octet = record key { key = record { unused = 0; octets = octet ∷ [] } }

-- cA alone, and with path lengths 0 and 1
abbrev pub unlimited : List ℕ
unlimited = 0x30 ∷ 0x03 ∷ 0x01 ∷ 0x01 ∷ 0xff ∷ []

abbrev pub limited_to : ℕ → List ℕ
limited_to n = 0x30 ∷ 0x06 ∷ 0x01 ∷ 0x01 ∷ 0xff ∷ 0x02 ∷ 0x01 ∷ n ∷ []

-- an authority: its name's letter, its issuer's, its key, its basic constraints
abbrev pub authority : ℕ → ℕ → Key → List ℕ → Certificate
authority subject issuer own constraints =
    record authority_b { subject = common_name subject; issuer = common_name issuer; key = own; extensions = extension basic_constraints true constraints ∷ [] }

-- a key vouches for a certificate
abbrev pub vouches_for : Key → Certificate → List ℕ × List ℕ
vouches_for own c = (key_octets own, certificate_octets c)

abbrev pub vouching_by : List (List ℕ × List ℕ) → JudgingContext
vouching_by pairs = record { moment = in_june; demand_lists = false; Vouches = λ own item. Contains pairs (own, item); Processes = nothing }

abbrev pub self_issued_b : ℕ → Certificate
self_issued_b octet = authority 0x62 0x62 (key_of octet) unlimited

-- of b under c under d, where d's certificate allows no further authority below it
abbrev pub limited_above : List Certificate
limited_above = issued_by_b ∷ authority 0x62 0x63 key unlimited ∷ authority 0x63 0x64 key (limited_to 0) ∷ []

-- of b, which changed its key once: b's certificate for its new key by its old one is self-issued
abbrev pub b_from_c : ℕ → List ℕ → Certificate
b_from_c octet constraints = authority 0x62 0x63 (key_of octet) constraints

abbrev pub one_rollover : List Certificate
one_rollover = issued_by_b ∷ self_issued_b 1 ∷ b_from_c 2 (limited_to 0) ∷ []

abbrev pub one_rollover_rules : JudgingContext
one_rollover_rules =
    vouching_by (vouches_for (key_of 1) issued_by_b ∷ vouches_for (key_of 2) (self_issued_b 1) ∷ vouches_for key (b_from_c 2 (limited_to 0)) ∷ [])

-- of b, which changed its key twice, beside b under e under c: c's certificate allows one authority
-- below it
abbrev pub b_from_e : Certificate
b_from_e = authority 0x62 0x65 (key_of 2) unlimited

abbrev pub e_from_c : Certificate
e_from_c = authority 0x65 0x63 key unlimited

abbrev pub c_from_d : Certificate
c_from_d = authority 0x63 0x64 key (limited_to 1)

abbrev pub two_rollovers : List Certificate
two_rollovers = issued_by_b ∷ b_from_e ∷ e_from_c ∷ self_issued_b 2 ∷ self_issued_b 1 ∷ b_from_c 0 unlimited ∷ c_from_d ∷ []

abbrev pub two_rollover_rules : JudgingContext
two_rollover_rules =
    vouching_by (
    vouches_for (key_of 2) issued_by_b ∷ vouches_for (key_of 1) (self_issued_b 2) ∷ vouches_for (key_of 0) (self_issued_b 1)
    ∷ vouches_for key b_from_e ∷ vouches_for key e_from_c ∷ vouches_for key (b_from_c 0 unlimited) ∷ vouches_for key c_from_d ∷ [])

-- two equal issuers, under two equal anchors
abbrev pub equal_issuers : List Certificate
equal_issuers = issued_by_b ∷ authority_b ∷ authority_b ∷ []

-- ---- laws

-- an item of one octet, and the class of a certificate
abbrev pub numbered : ℕ → Certificate → Item
numbered octet c = record { octets = octet ∷ []; class = certificate c }

-- of b and b's own, which differ in an octet, and these two in the other order
abbrev pub told_apart : List Item
told_apart = numbered 1 issued_by_b ∷ numbered 2 authority_b ∷ []

abbrev pub told_backwards : List Item
told_backwards = numbered 2 authority_b ∷ numbered 1 issued_by_b ∷ []

-- 0 goes to 1 and everything else to 0
abbrev pub exchanged : ℕ → ℕ
exchanged zero = 1
exchanged (suc v) = 0

-- every key vouches for an item of this octet, or of one of these two
abbrev pub vouching_for : ℕ → List ℕ → List ℕ → Bool
vouching_for octet key item = pointwise nat_eq item (octet ∷ [])

abbrev pub vouching_for_both : ℕ → ℕ → List ℕ → List ℕ → Bool
vouching_for_both octet another key item = vouching_for octet key item || vouching_for another key item
