-- The text of a version.
use Rattle.std.specs.Prelude.{ℕ, ◌==◌, if◌then◌else◌, List, ◌++◌, codes, decimal}

-- counted from 1 in the name, from 0 in the number
abbrev pub version_text : ℕ → List ℕ
version_text n =
    if n == 0 then codes "V1" else
    if n == 1 then codes "V2" else
    if n == 2 then codes "V3" else
    codes "X509Version(" ++ decimal n ++ codes ")"
