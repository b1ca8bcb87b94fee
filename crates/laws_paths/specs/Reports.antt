-- Reports of what prevents a path, of small bundles: they try the definitions, not the code.
use Rattle.std.specs.Prelude.{ℕ, List, [], ◌∷◌, ◌++◌, codes}
use Rattle.cert_framing.specs.Held.{Framed}
use Rattle.cert_framing.specs.declared.ending.End.TheVariants.{Clean}
use Rattle.cert_model.specs.Examples.{common_name, issued_by_b}
use Rattle.cert_model.specs.Octets.{certificate_octets, name_octets}
use Rattle.certpath_run.specs.declared.settings.Settings.{Settings}
use Rattle.certpath_why.specs.Lines.{missing_line, subject_line}
use Rattle.laws_items.specs.Faults.{no_parts}
use Rattle.laws_paths.specs.Found.{by_june}

-- without items and anchors, with the lines of a demand
abbrev pub empty_why : List ℕ → List ℕ
empty_why lines = lines ++ codes "no target\ncheck yes\n"

-- the one anchor is an empty SEQUENCE
abbrev pub one_anchor : Framed
one_anchor = record { items = no_parts ∷ []; end = Clean }

abbrev pub why_of_an_anchor : List ℕ
why_of_an_anchor = codes "no target\ncheck yes\nother anchor 0 at 2: tbsCertificate: expected a SEQUENCE; found no element\n"

-- a certificate alone, issued by b
abbrev pub alone : Framed
alone = record { items = certificate_octets issued_by_b ∷ []; end = Clean }

abbrev pub alone_settings : Settings
alone_settings = record { target = 0; policy = by_june.now; limit = 4_294_967_295 }

abbrev pub why_of_one_alone : List ℕ
why_of_one_alone = codes "none\ncheck yes\n" ++ (subject_line 0 (name_octets []) ++ missing_line 0 (name_octets (common_name 0x62)))
