-- What the words of the command line ask for. Which values clap gives to which words is said in the terms of the crate `clap`: `takes`
-- (it accepts the words) and `subcommand_of` (the subcommand's name, and a row of values for each argument).
use Rattle.std.specs.Prelude.{◌≡◌, ◌≢◌, ◌↔◌, ◌⊎◌, ℕ, ◌^◌, ◌<◌, true, List, [], ◌∷◌, map, Contains, Option, None, Some, Result, Ok, Err, IsTrue, codes, string_bytes}
use Rattle.std.specs.Borrow.{Bor}
use Rattle.std.specs.Option.{option_map}
use Rattle.clap.specs.Walk.{Row, Text, first_of, all_of}
use Rattle.clap.specs.Simple.{subcommand_of}
use Rattle.clap.specs.Takes.{takes}
use Rattle.clap.specs.declared.error.kind.ErrorKind.{ErrorKind}
use Rattle.clap.specs.declared.error.kind.ErrorKind.TheVariants.{OutOfMemory as NoMemory}
use Rattle.cert_model.specs.Fields.{CivilTime}
use Rattle.cert_model.specs.View.{time_view}
use Rattle.host_names.specs.Asked.{AsksFor}
use Rattle.host_names.specs.Refusals.{IsRefusedFor}
use Rattle.purpose_names.specs.Reading.{WritesPurpose, RefusesPurpose}
use Rattle.purpose_names.specs.Showing.{IsShown}
use Rattle.certpath_inputs.specs.declared.demand.AskedHost.{AskedHost}
use Rattle.certpath_inputs.specs.declared.demand.AskedPurpose.{AskedPurpose}
use Rattle.certpath_inputs.specs.declared.demand.Demand.{Demand}
use Rattle.certpath_engine.specs.Moments.{WritesMoment}
use Rattle.certpath_engine.specs.Numbers.{WritesNumber}
use Rattle.certpath_engine.specs.Words.{certpath_app}
use Rattle.certpath_engine.specs.declared.texts.Asked.{Asked}
use Rattle.certpath_engine.specs.declared.texts.Asked.TheVariants as asks
use Rattle.certpath_engine.specs.declared.texts.FrameTexts.{FrameTexts}
use Rattle.certpath_engine.specs.declared.bundle_texts.BundleTexts.{BundleTexts}
use Rattle.certpath_engine.specs.declared.texts.PathTexts.{PathTexts}
use Rattle.certpath_engine.specs.declared.questions_texts.QuestionsTexts.{QuestionsTexts}
use Rattle.certpath_engine.specs.declared.texts.AllTexts.{AllTexts}
use Rattle.certpath_engine.specs.declared.texts.PathsTexts.{PathsTexts}
use Rattle.certpath_engine.specs.declared.texts.RecheckTexts.{RecheckTexts}
use Rattle.certpath_inputs.specs.declared.settings.AllSettings.{AllSettings}
use Rattle.certpath_run.specs.declared.settings.Settings.{Settings}
use Rattle.certpath_engine.specs.declared.path_exit.PathFiles.{PathFiles}
use Rattle.certpath_engine.specs.declared.demands.Purpose.{Purpose}
use Rattle.certpath_engine.specs.declared.words.Question.{Question}
use Rattle.certpath_engine.specs.declared.words.Command.{Command}
use Rattle.certpath_engine.specs.declared.words.Command.TheVariants.{Frame, Bundle, Path, Why, Questions, Paths, Recheck}
use Rattle.certpath_engine.specs.declared.words.WordFault.{WordFault}
use Rattle.certpath_engine.specs.declared.words.WordFault.TheVariants.{Refused, Number, Moment, Host, Purpose as PurposeFault, OutOfMemory}

-- the values of a command's words
pub record AreFrameTexts (rows : List Row) (t : FrameTexts) : Type 0 where
  pub file : first_of (codes "FILE") rows ≡ Some t.file.now
  pub limit : first_of (codes "limit") rows ≡ Some t.limit.now
  pub why : first_of (codes "why") rows ≡ Some t.why.now

pub record AreBundleTexts (rows : List Row) (t : BundleTexts) : Type 0 where
  pub files : all_of (codes "FILE") rows ≡ Some (map (λ s. s.now) t.files.items)

pub record AreQuestionsTexts (rows : List Row) (t : QuestionsTexts) : Type 0 where
  pub bundle : first_of (codes "BUNDLE") rows ≡ Some t.bundle.now
  pub anchors : first_of (codes "ANCHORS") rows ≡ Some t.anchors.now
  pub limit : first_of (codes "limit") rows ≡ Some t.limit.now

pub record AreAllTexts (rows : List Row) (t : AllTexts) : Type 0 where
  pub bundle : first_of (codes "BUNDLE") rows ≡ Some t.bundle.now
  pub anchors : first_of (codes "ANCHORS") rows ≡ Some t.anchors.now
  pub vouchers : first_of (codes "VOUCHERS") rows ≡ Some t.vouchers.now
  pub moment : first_of (codes "at") rows ≡ Some t.moment.now
  pub demand : first_of (codes "demand-lists") rows ≡ Some t.demand.now
  pub limit : first_of (codes "limit") rows ≡ Some t.limit.now
  pub purpose : first_of (codes "purpose") rows ≡ option_map (λ s. s.now) t.purpose

pub record ArePathTexts (rows : List Row) (t : PathTexts) : Type 0 where
  pub target : first_of (codes "target") rows ≡ Some t.target.now
  pub host : first_of (codes "host") rows ≡ option_map (λ s. s.now) t.host
  pub all : AreAllTexts rows t.all

pub record ArePathsTexts (rows : List Row) (t : PathsTexts) : Type 0 where
  pub all : AreAllTexts rows t.all
  pub evidence : first_of (codes "evidence") rows ≡ option_map (λ s. s.now) t.evidence

pub record AreRecheckTexts (rows : List Row) (t : RecheckTexts) : Type 0 where
  pub all : AreAllTexts rows t.all
  pub evidence : first_of (codes "EVIDENCE") rows ≡ Some t.evidence.now

abbrev pub AsksOf : List Row → Asked → Type 0
AsksOf rows (asks.Frame t) = AreFrameTexts rows t
AsksOf rows (asks.Bundle t) = AreBundleTexts rows t
AsksOf rows (asks.Path t) = ArePathTexts rows t
AsksOf rows (asks.Why t) = ArePathTexts rows t
AsksOf rows (asks.Questions t) = AreQuestionsTexts rows t
AsksOf rows (asks.Paths t) = ArePathsTexts rows t
AsksOf rows (asks.Recheck t) = AreRecheckTexts rows t

abbrev pub name_of : Asked → Text
name_of (asks.Frame t) = codes "frame"
name_of (asks.Bundle t) = codes "bundle"
name_of (asks.Path t) = codes "path"
name_of (asks.Why t) = codes "why"
name_of (asks.Questions t) = codes "questions"
name_of (asks.Paths t) = codes "paths"
name_of (asks.Recheck t) = codes "recheck"

-- the words of the arguments that each command has a value of; those of `why` are those of `path`
abbrev pub frame_arguments : List Text
frame_arguments = codes "FILE" ∷ codes "limit" ∷ codes "why" ∷ []

abbrev pub all_arguments : List Text
all_arguments = codes "BUNDLE" ∷ codes "ANCHORS" ∷ codes "VOUCHERS" ∷ codes "at" ∷ codes "demand-lists" ∷ codes "limit" ∷ []

abbrev pub path_arguments : List Text
path_arguments = codes "target" ∷ all_arguments

abbrev pub recheck_arguments : List Text
recheck_arguments = codes "EVIDENCE" ∷ all_arguments

abbrev pub questions_arguments : List Text
questions_arguments = codes "BUNDLE" ∷ codes "ANCHORS" ∷ codes "limit" ∷ []

-- one of these arguments has no value
pub record LacksOneOf (arguments : List Text) (rows : List Row) : Type 0 where
  pub argument : Text
  pub listed : Contains arguments argument
  pub lacks : first_of argument rows ≡ None

-- the words of the command of this name; none only if one of its arguments has no value
abbrev pub TellsTexts : Text → List Text → List Row → Result Asked WordFault → Type 0
TellsTexts name arguments rows (Ok asked) = (name_of asked ≡ name) × AsksOf rows asked
TellsTexts name arguments rows (Err (Refused said)) = ⊥
TellsTexts name arguments rows (Err Number) = ⊥
TellsTexts name arguments rows (Err Moment) = ⊥
TellsTexts name arguments rows (Err (Host reason)) = ⊥
TellsTexts name arguments rows (Err (PurposeFault reason)) = ⊥
TellsTexts name arguments rows (Err OutOfMemory) = LacksOneOf arguments rows

-- the words of `bundle`; none if they can't be kept
abbrev pub GivesBundle : List Row → Result Asked WordFault → Type 0
GivesBundle rows (Ok asked) = (name_of asked ≡ codes "bundle") × AsksOf rows asked
GivesBundle rows (Err (Refused said)) = ⊥
GivesBundle rows (Err Number) = ⊥
GivesBundle rows (Err Moment) = ⊥
GivesBundle rows (Err (Host reason)) = ⊥
GivesBundle rows (Err (PurposeFault reason)) = ⊥
GivesBundle rows (Err OutOfMemory) = Unit {0}

-- the words of a question on one target; none only if one of its arguments has no value
abbrev pub TellsQuestion : List Row → Result PathTexts WordFault → Type 0
TellsQuestion rows (Ok texts) = ArePathTexts rows texts
TellsQuestion rows (Err (Refused said)) = ⊥
TellsQuestion rows (Err Number) = ⊥
TellsQuestion rows (Err Moment) = ⊥
TellsQuestion rows (Err (Host reason)) = ⊥
TellsQuestion rows (Err (PurposeFault reason)) = ⊥
TellsQuestion rows (Err OutOfMemory) = LacksOneOf path_arguments rows

-- the words of a question on all items; none only if one of its arguments has no value
abbrev pub TellsAll : List Row → Result AllTexts WordFault → Type 0
TellsAll rows (Ok texts) = AreAllTexts rows texts
TellsAll rows (Err (Refused said)) = ⊥
TellsAll rows (Err Number) = ⊥
TellsAll rows (Err Moment) = ⊥
TellsAll rows (Err (Host reason)) = ⊥
TellsAll rows (Err (PurposeFault reason)) = ⊥
TellsAll rows (Err OutOfMemory) = LacksOneOf all_arguments rows

-- clap reads the words as this command with these values
abbrev pub Asks : List Text → Asked → Type 0
Asks words asked = (rows : List Row) × (subcommand_of certpath_app words ≡ Some (name_of asked, rows)) × AsksOf rows asked

-- a number below 2^32
abbrev pub IsNumber : Text → Type 0
IsNumber text = (n : ℕ) × (n < 2 ^ 32) × WritesNumber text n

-- no number below 2^32, no moment
abbrev pub IsNoNumber : Text → Type 0
IsNoNumber text = (n : ℕ) → n < 2 ^ 32 → ¬ (WritesNumber text n)

abbrev pub IsNoMoment : Text → Type 0
IsNoMoment text = (t : CivilTime) → ¬ (WritesMoment text t)

-- what is returned for the words after `frame`
abbrev pub ReadsFrame : FrameTexts → Result Command WordFault → Type 0
ReadsFrame t (Ok (Frame file limit why)) = (file.now ≡ t.file.now) × WritesNumber t.limit.now limit × (IsTrue why ↔ (t.why.now ≡ codes "true"))
ReadsFrame t (Ok _) = ⊥
ReadsFrame t (Err (Refused said)) = ⊥
ReadsFrame t (Err Number) = IsNoNumber t.limit.now
ReadsFrame t (Err Moment) = ⊥
ReadsFrame t (Err (Host reason)) = ⊥
ReadsFrame t (Err (PurposeFault reason)) = ⊥
ReadsFrame t (Err OutOfMemory) = ⊥

-- what is returned for the words after `bundle`
abbrev pub ReadsBundle : BundleTexts → Result Command WordFault → Type 0
ReadsBundle t (Ok (Bundle files)) = files.items ≡ t.files.items
ReadsBundle t (Ok _) = ⊥
ReadsBundle t (Err fault) = ⊥

-- the words name these files
abbrev pub NamesFiles : AllTexts → PathFiles → Type 0
NamesFiles t files = (files.bundle.now ≡ t.bundle.now) × (files.anchors.now ≡ t.anchors.now) × (files.vouchers.now ≡ t.vouchers.now)

-- the words write how all items are judged
abbrev pub WritesSettings : AllTexts → AllSettings → Type 0
WritesSettings t settings =
    WritesMoment t.moment.now (time_view settings.policy.moment) × (IsTrue settings.policy.demand_lists ↔ (t.demand.now ≡ codes "true"))
    × WritesNumber t.limit.now settings.limit

-- or they write nothing of the kind: the limit is looked at before the moment
abbrev pub RefusesSettings : AllTexts → WordFault → Type 0
RefusesSettings t (Refused said) = ⊥
RefusesSettings t Number = IsNoNumber t.limit.now
RefusesSettings t Moment = IsNumber t.limit.now × IsNoMoment t.moment.now
RefusesSettings t (Host reason) = ⊥
RefusesSettings t (PurposeFault reason) = ⊥
RefusesSettings t OutOfMemory = ⊥

-- the words of a question write these values
abbrev pub WritesTarget : PathTexts → Settings → Type 0
WritesTarget t settings =
    WritesNumber t.target.now settings.target × WritesMoment t.all.moment.now (time_view settings.policy.moment)
    × (IsTrue settings.policy.demand_lists ↔ (t.all.demand.now ≡ codes "true")) × WritesNumber t.all.limit.now settings.limit

-- or they write none: the numbers are looked at before the moment
abbrev pub RefusesQuestion : PathTexts → WordFault → Type 0
RefusesQuestion t (Refused said) = ⊥
RefusesQuestion t Number = IsNoNumber t.target.now ⊎ IsNoNumber t.all.limit.now
RefusesQuestion t Moment = IsNumber t.target.now × IsNumber t.all.limit.now × IsNoMoment t.all.moment.now
RefusesQuestion t (Host reason) = ⊥
RefusesQuestion t (PurposeFault reason) = ⊥
RefusesQuestion t OutOfMemory = ⊥

-- the word of --host asks for this host, which is shown as it is written; there is none if there is
-- no word
abbrev pub WritesHost : Option (Bor Text) → Option AskedHost → Type 0
WritesHost None None = Unit {0}
WritesHost None (Some asked) = ⊥
WritesHost (Some text) None = ⊥
WritesHost (Some text) (Some asked) = AsksFor text.now asked.host × (asked.shown.now ≡ text.now)

-- or it asks for none
abbrev pub RefusesHost : Option (Bor Text) → WordFault → Type 0
RefusesHost None fault = ⊥
RefusesHost (Some text) (Host reason) = IsRefusedFor text.now reason
RefusesHost (Some text) fault = ⊥

-- the word of --purpose asks for this purpose, and so it is shown
abbrev pub WritesPurposeOf : Option (Bor Text) → Option Purpose → Type 0
WritesPurposeOf None None = Unit {0}
WritesPurposeOf None (Some purpose) = ⊥
WritesPurposeOf (Some text) None = ⊥
WritesPurposeOf (Some text) (Some purpose) = WritesPurpose text.now purpose.identifier × IsShown purpose.identifier (string_bytes purpose.shown)

-- or it asks for none, or there is no memory for it
abbrev pub RefusesPurposeOf : Option (Bor Text) → WordFault → Type 0
RefusesPurposeOf None fault = ⊥
RefusesPurposeOf (Some text) (PurposeFault reason) = RefusesPurpose text.now reason
RefusesPurposeOf (Some text) OutOfMemory = Unit {0}
RefusesPurposeOf (Some text) fault = ⊥

-- what is returned for the words after `path`, and after `why`
abbrev pub AsksQuestion : PathTexts → Question → Type 0
AsksQuestion t question = NamesFiles t.all question.files × WritesTarget t question.settings × WritesHost t.host question.host × WritesPurposeOf t.all.purpose question.purpose

-- a run is asked for this purpose, and for what a question demands
abbrev pub AsksPurpose : Option Purpose → Option AskedPurpose → Type 0
AsksPurpose None None = Unit {0}
AsksPurpose None (Some asked) = ⊥
AsksPurpose (Some purpose) None = ⊥
AsksPurpose (Some purpose) (Some asked) = (asked.identifier.now ≡ purpose.identifier) × (asked.shown.now ≡ string_bytes purpose.shown)

abbrev pub AsksDemand : Question → Demand → Type 0
AsksDemand question demand = (demand.host ≡ question.host) × AsksPurpose question.purpose demand.purpose

-- the words of a question write some settings, and a host if they have the word
abbrev pub IsTargeted : PathTexts → Type 0
IsTargeted t = (settings : Settings) × WritesTarget t settings

abbrev pub IsHosted : PathTexts → Type 0
IsHosted t = (host : Option AskedHost) × WritesHost t.host host

-- or they don't, or there is no such purpose: the settings are looked at first, and then the host
abbrev pub RefusesDemands : PathTexts → WordFault → Type 0
RefusesDemands t fault =
    RefusesQuestion t fault ⊎ ((IsTargeted t × RefusesHost t.host fault) ⊎ (IsTargeted t × IsHosted t × RefusesPurposeOf t.all.purpose fault))

-- the words write no such settings, or they do and name no purpose
abbrev pub RefusesAll : AllTexts → WordFault → Type 0
RefusesAll t fault = RefusesSettings t fault ⊎ (((settings : AllSettings) × WritesSettings t settings) × RefusesPurposeOf t.purpose fault)

abbrev pub ReadsPath : PathTexts → Result Command WordFault → Type 0
ReadsPath t (Ok (Path question)) = AsksQuestion t question
ReadsPath t (Ok _) = ⊥
ReadsPath t (Err fault) = RefusesDemands t fault

abbrev pub ReadsWhy : PathTexts → Result Command WordFault → Type 0
ReadsWhy t (Ok (Why question)) = AsksQuestion t question
ReadsWhy t (Ok _) = ⊥
ReadsWhy t (Err fault) = RefusesDemands t fault

-- what is returned for the words after `questions`
abbrev pub ReadsQuestions : QuestionsTexts → Result Command WordFault → Type 0
ReadsQuestions t (Ok (Questions files limit)) = (files.bundle.now ≡ t.bundle.now) × (files.anchors.now ≡ t.anchors.now) × WritesNumber t.limit.now limit
ReadsQuestions t (Ok _) = ⊥
ReadsQuestions t (Err (Refused said)) = ⊥
ReadsQuestions t (Err Number) = IsNoNumber t.limit.now
ReadsQuestions t (Err Moment) = ⊥
ReadsQuestions t (Err (Host reason)) = ⊥
ReadsQuestions t (Err (PurposeFault reason)) = ⊥
ReadsQuestions t (Err OutOfMemory) = ⊥

-- what is returned for the words after `paths`
abbrev pub ReadsPaths : PathsTexts → Result Command WordFault → Type 0
ReadsPaths t (Ok (Paths files evidence settings purpose)) =
    NamesFiles t.all files × (option_map (λ s. s.now) evidence ≡ option_map (λ s. s.now) t.evidence) × WritesSettings t.all settings × WritesPurposeOf t.all.purpose purpose
ReadsPaths t (Ok _) = ⊥
ReadsPaths t (Err fault) = RefusesAll t.all fault

-- what is returned for the words after `recheck`
abbrev pub ReadsRecheck : RecheckTexts → Result Command WordFault → Type 0
ReadsRecheck t (Ok (Recheck files settings purpose)) =
    NamesFiles t.all files.searched × (files.evidence.now ≡ t.evidence.now) × WritesSettings t.all settings × WritesPurposeOf t.all.purpose purpose
ReadsRecheck t (Ok _) = ⊥
ReadsRecheck t (Err fault) = RefusesAll t.all fault

-- what is returned for a command's words
abbrev pub Reads : Asked → Result Command WordFault → Type 0
Reads (asks.Frame t) r = ReadsFrame t r
Reads (asks.Bundle t) r = ReadsBundle t r
Reads (asks.Path t) r = ReadsPath t r
Reads (asks.Why t) r = ReadsWhy t r
Reads (asks.Questions t) r = ReadsQuestions t r
Reads (asks.Paths t) r = ReadsPaths t r
Reads (asks.Recheck t) r = ReadsRecheck t r

-- What is returned for the words: what their command's values write. They are refused only if clap
-- does not take them.
abbrev pub AnswersWords : List Text → Result Command WordFault → Type 0
AnswersWords words (Ok command) = (asked : Asked) × Asks words asked × Reads asked (Ok command)
AnswersWords words (Err (Refused said)) = ¬ (takes certpath_app words ≡ true)
AnswersWords words (Err Number) = (asked : Asked) × Asks words asked × Reads asked (Err Number)
AnswersWords words (Err Moment) = (asked : Asked) × Asks words asked × Reads asked (Err Moment)
AnswersWords words (Err (Host reason)) = (asked : Asked) × Asks words asked × Reads asked (Err (Host reason))
AnswersWords words (Err (PurposeFault reason)) = (asked : Asked) × Asks words asked × Reads asked (Err (PurposeFault reason))
AnswersWords words (Err OutOfMemory) = Unit {0}

-- what is returned for the words alone, before their values are read
abbrev pub AnswersTexts : List Text → Result Asked WordFault → Type 0
AnswersTexts words (Ok asked) = Asks words asked
AnswersTexts words (Err (Refused said)) = ¬ (takes certpath_app words ≡ true)
AnswersTexts words (Err Number) = ⊥
AnswersTexts words (Err Moment) = ⊥
AnswersTexts words (Err (Host reason)) = ⊥
AnswersTexts words (Err (PurposeFault reason)) = ⊥
AnswersTexts words (Err OutOfMemory) = Unit {0}

-- what is returned if clap's error has this kind
abbrev pub IsRefusal : ErrorKind → WordFault → Type 0
IsRefusal kind (Refused said) = kind ≢ NoMemory
IsRefusal kind Number = ⊥
IsRefusal kind Moment = ⊥
IsRefusal kind (Host reason) = ⊥
IsRefusal kind (PurposeFault reason) = ⊥
IsRefusal kind OutOfMemory = Unit {0}
