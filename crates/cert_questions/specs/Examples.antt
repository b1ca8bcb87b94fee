-- A worked case of questions: it tries the definitions, not the code.
use Rattle.std.specs.Prelude.{ℕ, List, [], ◌∷◌, Bool, ◌||◌}
use Rattle.cert_judge.specs.Revoking.{Item}
use Rattle.cert_judge.specs.Examples.{anchor_named, certificate_item, vouching_for, vouching_for_both}

-- the anchor c, and a test that vouches for one item more than another, whose octet no item of the
-- case has
abbrev pub anchor_c : List Item
anchor_c = certificate_item (anchor_named 0x63) ∷ []

abbrev pub vouching_for_a_third : List ℕ → List ℕ → Bool
vouching_for_a_third key item = vouching_for_both 1 2 key item || vouching_for 3 key item
