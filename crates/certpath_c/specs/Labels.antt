-- The numbers that the header gives the labels of PEM blocks.
use Rattle.std.specs.Prelude.{ℕ, ◌+◌, nat_eq, if◌then◌else◌, List, [], ◌∷◌, codes, bytes_eq}

-- the number of a label among some, of which the first has this number; 0 if it is none of them
abbrev pub number_among : List ℕ → ℕ → List (List ℕ) → ℕ
number_among label first [] = 0
number_among label first (name ∷ names) = if bytes_eq label name then first else number_among label (first + 1) names

-- what holds a certificate or a list
abbrev pub item_number : List ℕ → ℕ
item_number label =
    number_among label 1 (codes "CERTIFICATE" ∷ codes "X509 CRL" ∷ codes "X509 CERTIFICATE" ∷ codes "X.509 CERTIFICATE" ∷ [])

-- with trust settings, and SignedData
abbrev pub signed_number : List ℕ → ℕ
signed_number label =
    number_among label 5 (codes "TRUSTED CERTIFICATE" ∷ codes "PKCS7" ∷ codes "CMS" ∷ codes "PKCS #7 SIGNED DATA" ∷ [])

-- keys
abbrev pub key_number : List ℕ → ℕ
key_number label =
    number_among label 9 (codes "PRIVATE KEY" ∷ codes "ENCRYPTED PRIVATE KEY" ∷ codes "PUBLIC KEY" ∷ codes "OPENSSH PRIVATE KEY" ∷ [])

abbrev pub old_key_number : List ℕ → ℕ
old_key_number label =
    number_among label 13 (codes "RSA PRIVATE KEY" ∷ codes "EC PRIVATE KEY" ∷ codes "DSA PRIVATE KEY" ∷ codes "RSA PUBLIC KEY" ∷ [])

-- requests, and attribute certificates
abbrev pub request_number : List ℕ → ℕ
request_number label =
    number_among label 17
    (codes "CERTIFICATE REQUEST" ∷ codes "NEW CERTIFICATE REQUEST" ∷ codes "ATTRIBUTE CERTIFICATE" ∷ codes "X509 ATTRIBUTE CERTIFICATE" ∷ [])

-- parameters of keys
abbrev pub parameter_number : List ℕ → ℕ
parameter_number label =
    number_among label 21 (codes "EC PARAMETERS" ∷ codes "DSA PARAMETERS" ∷ codes "DH PARAMETERS" ∷ codes "X9.42 DH PARAMETERS" ∷ [])

abbrev pub first_number : ℕ → ℕ → ℕ
first_number first second = if nat_eq first 0 then second else first

-- the number of a label; 0 if it isn't a known one
abbrev pub label_number : List ℕ → ℕ
label_number label =
    first_number (first_number (item_number label) (signed_number label))
    (first_number (first_number (key_number label) (old_key_number label)) (first_number (request_number label) (parameter_number label)))
