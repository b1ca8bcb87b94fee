-- What is said of keys.
use Rattle.std.specs.Prelude.{◌≡◌, ℕ, Option, Some, None, if◌then◌else◌, codes, List, [], ◌∷◌, ◌++◌}
use Rattle.x509_names.specs.Fields.{Key, KeyValue, RsaKey, rsa, ec, dsa, gost, gost_2012, unknown}
use Rattle.x509_names.specs.PublicKeys.{IsKeyValue}
use Rattle.x509_names.specs.Reading.{key_value_of}
use Rattle.x509_validate.specs.Messages.{Message, message, warning, fatal}
use Rattle.x509_validate.specs.Names.{is_high}

-- a warning if a number is negative: the first octet of its content has the highest bit (X.690,
-- 8.3.3)
abbrev pub sign_messages : List ℕ → List ℕ → List Message
sign_messages text [] = []
sign_messages text (first ∷ octets) = if is_high first then message warning text ∷ [] else []

abbrev pub rsa_messages : RsaKey → List Message
rsa_messages k = sign_messages (codes "Public key: (RSA) modulus is negative") k.modulus ++ sign_messages (codes "Public key: (RSA) exponent is negative") k.exponent

-- of what a key's octets are
abbrev pub value_messages : KeyValue → List Message
value_messages (rsa k) = rsa_messages k
value_messages (ec point) = []
value_messages (dsa y) = []
value_messages (gost y) = []
value_messages (gost_2012 y) = []
value_messages (unknown octets) = message warning (codes "Unknown public key type") ∷ []

-- of what a key's octets are, or of their being none of its algorithm
abbrev pub read_messages : Option KeyValue → List Message
read_messages (Some v) = value_messages v
read_messages None = message fatal (codes "Invalid public key") ∷ []

-- of a key, by what its octets are for its algorithm
abbrev pub key_messages : Key → List Message
key_messages k = read_messages (key_value_of k.algorithm.identifier k.key.octets)

-- the messages of a key, in words of what its octets are: what is said of the value, or that there
-- is none
pub data AreKeyMessages (k : Key) (ms : List Message) : Type 0 where
  of_value : (v : KeyValue) → IsKeyValue k.algorithm.identifier k.key.octets v → ms ≡ value_messages v → AreKeyMessages k ms
  of_none : ((v : KeyValue) → IsKeyValue k.algorithm.identifier k.key.octets v → ⊥) → ms ≡ message fatal (codes "Invalid public key") ∷ [] → AreKeyMessages k ms
