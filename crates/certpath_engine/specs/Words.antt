-- The program's commands and their words, as they are declared to clap.
use Rattle.std.specs.Prelude.{true, [], ◌∷◌, Some, codes}
use Rattle.clap.specs.Walk.{Rule, Text}
use Rattle.clap.specs.Simple.{App, new_app, new_rule, on_top, with_rule, with_subcommand}
use Rattle.clap.specs.declared.builder.action.ArgAction.TheVariants.{Append, SetTrue}

-- a file, which must be there
abbrev pub file_rule : Text → Rule
file_rule name = record (new_rule name) { required = true }

-- files, one at least
abbrev pub files_rule : Rule
files_rule = record (new_rule (codes "FILE")) { required = true; action = Some Append }

-- `--target N`, which must be there
abbrev pub target_rule : Rule
target_rule = record (new_rule (codes "target")) { long = Some (codes "target"); value_names = 1; required = true }

-- `--at YYYY-MM-DDTHH:MM:SS`, which must be there
abbrev pub moment_rule : Rule
moment_rule = record (new_rule (codes "at")) { long = Some (codes "at"); value_names = 1; required = true }

-- `--demand-lists`
abbrev pub demand_rule : Rule
demand_rule = record (new_rule (codes "demand-lists")) { long = Some (codes "demand-lists"); action = Some SetTrue }

-- `--limit N`, which is 16777216 if it is absent
abbrev pub limit_rule : Rule
limit_rule = record (new_rule (codes "limit")) { long = Some (codes "limit"); value_names = 1; defaults = codes "16777216" ∷ [] }

-- `--why`
abbrev pub faults_rule : Rule
faults_rule = record (new_rule (codes "why")) { long = Some (codes "why"); action = Some SetTrue }

-- `frame FILE [--limit N] [--why]`
abbrev pub frame_app : App
frame_app = with_rule (with_rule (with_rule (new_app (codes "frame")) (file_rule (codes "FILE"))) limit_rule) faults_rule

-- `bundle FILE..`
abbrev pub bundle_app : App
bundle_app = with_rule (new_app (codes "bundle")) files_rule

-- an app with the three files
abbrev pub with_files : App → App
with_files app = with_rule (with_rule (with_rule app (file_rule (codes "BUNDLE"))) (file_rule (codes "ANCHORS"))) (file_rule (codes "VOUCHERS"))

-- `--at YYYY-MM-DDTHH:MM:SS [--demand-lists] [--limit N]` after it
abbrev pub with_policy : App → App
with_policy app = with_rule (with_rule (with_rule app moment_rule) demand_rule) limit_rule

-- `BUNDLE ANCHORS VOUCHERS --target N --at YYYY-MM-DDTHH:MM:SS [--demand-lists] [--limit N]` after
-- it
abbrev pub with_question : App → App
with_question app = with_policy (with_rule (with_files app) target_rule)

-- `--host NAME`
abbrev pub host_rule : Rule
host_rule = record (new_rule (codes "host")) { long = Some (codes "host"); value_names = 1 }

-- `--purpose NAME|OID`
abbrev pub purpose_rule : Rule
purpose_rule = record (new_rule (codes "purpose")) { long = Some (codes "purpose"); value_names = 1 }

-- `[--purpose NAME|OID]` after it
abbrev pub with_purpose : App → App
with_purpose app = with_rule app purpose_rule

-- `[--host NAME] [--purpose NAME|OID]` after it
abbrev pub with_host : App → App
with_host app = with_purpose (with_rule app host_rule)

-- `path` with these words
abbrev pub path_app : App
path_app = with_host (with_question (new_app (codes "path")))

-- `why` with them too
abbrev pub why_app : App
why_app = with_host (with_question (new_app (codes "why")))

-- `questions BUNDLE ANCHORS [--limit N]`
abbrev pub questions_app : App
questions_app = with_rule (with_rule (with_rule (new_app (codes "questions")) (file_rule (codes "BUNDLE"))) (file_rule (codes "ANCHORS"))) limit_rule

-- `--evidence FILE`
abbrev pub evidence_rule : Rule
evidence_rule = record (new_rule (codes "evidence")) { long = Some (codes "evidence"); value_names = 1 }

-- `paths BUNDLE ANCHORS VOUCHERS --at YYYY-MM-DDTHH:MM:SS [--demand-lists] [--limit N] [--evidence FILE] [--purpose NAME|OID]`
abbrev pub paths_app : App
paths_app = with_purpose (with_rule (with_policy (with_files (new_app (codes "paths")))) evidence_rule)

-- `recheck BUNDLE ANCHORS VOUCHERS EVIDENCE --at YYYY-MM-DDTHH:MM:SS [--demand-lists] [--limit N] [--purpose NAME|OID]`
abbrev pub recheck_app : App
recheck_app = with_purpose (with_policy (with_rule (with_files (new_app (codes "recheck"))) (file_rule (codes "EVIDENCE"))))

-- the program with the commands over items
abbrev pub items_app : App
items_app = with_subcommand (with_subcommand (on_top (λ s. record s { subcommand_required = true }) (new_app (codes "certpath"))) frame_app.top) questions_app.top

-- and with the commands on one target
abbrev pub targets_app : App
targets_app = with_subcommand (with_subcommand items_app path_app.top) why_app.top

-- the program, which has these subcommands too, and must be given one
abbrev pub certpath_app : App
certpath_app = with_subcommand (with_subcommand (with_subcommand targets_app paths_app.top) recheck_app.top) bundle_app.top
