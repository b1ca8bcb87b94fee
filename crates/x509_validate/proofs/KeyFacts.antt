-- What is said of keys, by what their octets are.
use Rattle.std.proofs.Common.{◌≡◌, ◌∙◌, ap, refl, sym, ℕ, List, [], ◌∷◌, Option, Some, None, codes}
use Rattle.std.specs.Int.Digits.{AllBelowBase}
use Rattle.x509_names.specs.Fields.{Key, KeyValue}
use Rattle.x509_names.specs.PublicKeys.{IsKeyValue}
use Rattle.x509_names.specs.Reading.{key_value_of}
use Rattle.x509_names.proofs.KeyLaws.{key_found, key_only}
use Rattle.x509_validate.specs.Messages.{message, fatal}
use Rattle.x509_validate.specs.Keys.{value_messages, read_messages, key_messages, AreKeyMessages, of_value, of_none}

pub read_value : (k : Key) (v : KeyValue) → AllBelowBase 256 k.key.octets → IsKeyValue k.algorithm.identifier k.key.octets v → value_messages v ≡ key_messages k
read_value k v below is = ap read_messages (sym (key_only k.algorithm.identifier k.key.octets v below is))

none_by : (k : Key) (o : Option KeyValue) → AllBelowBase 256 k.key.octets → key_value_of k.algorithm.identifier k.key.octets ≡ o → ((v : KeyValue) → IsKeyValue k.algorithm.identifier k.key.octets v → ⊥)
    → message fatal (codes "Invalid public key") ∷ [] ≡ read_messages o
none_by k None below e none = refl
none_by k (Some v) below e none = absurd (none v (key_found k.algorithm.identifier k.key.octets v below e))

pub read_none : (k : Key) → AllBelowBase 256 k.key.octets → ((v : KeyValue) → IsKeyValue k.algorithm.identifier k.key.octets v → ⊥) → message fatal (codes "Invalid public key") ∷ [] ≡ key_messages k
read_none k below none = none_by k (key_value_of k.algorithm.identifier k.key.octets) below refl none

not_some : (v w : KeyValue) → None ≡ Some w → ⊥
not_some v w e = cc

are_by : (k : Key) (o : Option KeyValue) → AllBelowBase 256 k.key.octets → key_value_of k.algorithm.identifier k.key.octets ≡ o → AreKeyMessages k (read_messages o)
are_by k None below e = of_none (λ v is. not_some v v (sym e ∙ key_only k.algorithm.identifier k.key.octets v below is)) refl
are_by k (Some v) below e = of_value v (key_found k.algorithm.identifier k.key.octets v below e) refl

pub are_messages : (k : Key) → AllBelowBase 256 k.key.octets → AreKeyMessages k (key_messages k)
are_messages k below = are_by k (key_value_of k.algorithm.identifier k.key.octets) below refl
