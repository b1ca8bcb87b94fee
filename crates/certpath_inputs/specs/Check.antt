-- The line of the check: each report ends in it or has it. This page is to be believed.
use Rattle.std.specs.Prelude.{ℕ, Bool, if◌then◌else◌, List, codes}

-- what the check says
abbrev pub check_line : Bool → List ℕ
check_line said = if said then codes "check yes\n" else codes "check no\n"
