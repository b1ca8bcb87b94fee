-- Worked examples.
use Rattle.std.specs.Prelude.{ℕ, Bool, false, ◌||◌, List, [], ◌∷◌}
use Rattle.cert_model.specs.Fields.{Extension}
use Rattle.cert_judge.specs.Examples.{vouching_for, vouching_for_both}
use Rattle.cert_purpose.specs.Purposes.{extended_key_usage}

-- serverAuth, 1.3.6.1.5.5.7.3.1
abbrev pub server_auth : List ℕ
server_auth = 0x2b ∷ 6 ∷ 1 ∷ 5 ∷ 5 ∷ 7 ∷ 3 ∷ 1 ∷ []

-- SEQUENCE { serverAuth }
abbrev pub for_servers : List ℕ
for_servers = 0x30 ∷ 0x0a ∷ 0x06 ∷ 0x08 ∷ server_auth

-- an extension that isn't critical
abbrev pub usage : List ℕ → Extension
usage value = record { identifier = extended_key_usage; critical = false; value = value }

-- every key vouches for an item of octet 1, 2 or 9
abbrev pub vouching_beyond : List ℕ → List ℕ → Bool
vouching_beyond key item = vouching_for_both 1 2 key item || vouching_for 9 key item
