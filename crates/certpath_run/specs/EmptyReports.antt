-- Reports on no items: they try the definitions, not the code.
use Rattle.std.specs.Prelude.{ℕ, List, [], ◌++◌, codes}
use Rattle.cert_framing.specs.Held.{Framed}
use Rattle.cert_framing.specs.declared.ending.End.TheVariants.{Clean}

-- a stream without items, at whose end nothing is left
abbrev pub no_items : Framed
no_items = record { items = []; end = Clean }

-- the report on a target if there is no item and no anchor, with the lines of a demand
abbrev pub empty_report : List ℕ → List ℕ
empty_report lines = codes "end clean\nanchors 0 of 0, clean\n" ++ (lines ++ codes "no target\ncheck yes\n")

-- and that on all items
abbrev pub empty_report_on_all : List ℕ → List ℕ
empty_report_on_all lines = codes "end clean\nanchors 0 of 0, clean\n" ++ (lines ++ codes "check yes\n")
