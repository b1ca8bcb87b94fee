-- What clap's clauses say of a subcommand, in the words of `Asks`.
use Rattle.std.proofs.Common.{◌≡◌, ◌<◌, ℕ, suc, length, List, ◌∷◌, arith, Option, Some, None, true, codes, ◌⊎◌, inl, inr, refl, sym, ap, subst, ◌∙◌, Result, Ok, Err}
use Rattle.std.specs.Option.{option_map}
use Rattle.std.specs.Prelude.{slice_index_or}
use Rattle.std.specs.Borrow.{Bor}
use Rattle.host_names.specs.Refusals.{IsRefusedFor}
use Rattle.host_names.specs.declared.refusal.Refusal.{Refusal}
use Rattle.clap.specs.Matches.{found_of, first_value, subcommand_name_of}
use Rattle.clap.specs.Simple.{App, HasMatchesOf, is_simple, subcommand_of, subcommand_rows_of}
use Rattle.clap.specs.Walk.{Row, Text, first_of, rows_of}
use Rattle.clap.specs.Takes.{takes}
use Rattle.clap.specs.declared.error.kind.ErrorKind.{ErrorKind}
use Rattle.clap.specs.declared.error.kind.ErrorKind.TheVariants.{OutOfMemory as NoMemory}
use Rattle.clap.proofs.WalkLemmas.{first_value-rows}
use Rattle.clap.specs.declared.parser.matches.ArgMatches.{ArgMatches}
use Rattle.certpath_engine.specs.Words.{certpath_app}
use Rattle.certpath_engine.specs.Asking.{AreFrameTexts, ArePathTexts, AreQuestionsTexts, AreAllTexts, ArePathsTexts, AreRecheckTexts, LacksOneOf, TellsTexts, TellsQuestion, TellsAll, all_arguments, path_arguments, recheck_arguments, Asks, ReadsPath, ReadsWhy, RefusesDemands, RefusesHost, RefusesPurposeOf, RefusesQuestion, RefusesSettings, AnswersTexts, AnswersWords, IsNumber, IsRefusal}
use Rattle.certpath_engine.specs.declared.texts.FrameTexts.{FrameTexts}
use Rattle.certpath_engine.specs.declared.texts.PathTexts.{PathTexts}
use Rattle.certpath_engine.specs.declared.questions_texts.QuestionsTexts.{QuestionsTexts}
use Rattle.certpath_engine.specs.declared.texts.AllTexts.{AllTexts}
use Rattle.certpath_engine.specs.declared.texts.PathsTexts.{PathsTexts}
use Rattle.certpath_engine.specs.declared.texts.RecheckTexts.{RecheckTexts}
use Rattle.certpath_engine.specs.declared.texts.Asked.{Asked}
use Rattle.certpath_engine.specs.declared.texts.Asked.TheVariants as asks
use Rattle.certpath_engine.specs.declared.words.Command.{Command}
use Rattle.certpath_engine.specs.declared.words.WordFault.{WordFault}
use Rattle.certpath_engine.specs.declared.words.WordFault.TheVariants as faults

-- the two halves of a pair are those of one entry
pair_of : {B : Type 0} (o : Option B) (f : B → Text) (g : B → List Row) (name : Text) (rows : List Row) → Some name ≡ option_map f o
    → Some rows ≡ option_map (λ (p : Text × List Row). p.1) (option_map {U = Text × List Row} (λ b. (f b, g b)) o) → option_map {U = Text × List Row} (λ b. (f b, g b)) o ≡ Some (name, rows)
pair_of None f g name rows named given = cc
pair_of (Some b) f g name rows named given = cc

is_simple_app : is_simple certpath_app ≡ true
is_simple_app = refl

-- a value of an argument is that of its row
value : (found : ArgMatches) (id text : Text) → Some text ≡ first_value (found_of found) id → first_of id (rows_of (found_of found)) ≡ Some text
value found id text is = sym (first_value-rows (found_of found) id) ∙ sym is

-- and that it has none is that its row has none
lacks : (found : ArgMatches) (id : Text) → None ≡ first_value (found_of found) id → first_of id (rows_of (found_of found)) ≡ None
lacks found id is = sym (first_value-rows (found_of found) id) ∙ sym is

-- so one of a command's arguments has no value: the one at this place
pub lacks_one : (arguments : List Text) (found : ArgMatches) (k : ℕ) (id : Text) → k < length arguments → slice_index_or arguments k id ≡ id → None ≡ first_value (found_of found) id
    → LacksOneOf arguments (rows_of (found_of found))
lacks_one arguments found k id lt is none = record { argument = id; listed = (k, lt, is); lacks = lacks found id none }

-- clap read the words as the subcommand of this name
entered : (app : App) (words : List Text) (m sub : ArgMatches) (name wanted : Text) → app ≡ certpath_app → HasMatchesOf app words m
    → Some name ≡ subcommand_name_of m → Some (rows_of (found_of sub)) ≡ option_map (λ p. p.1) (subcommand_rows_of m) → name ≡ wanted
    → subcommand_of certpath_app words ≡ Some (wanted, rows_of (found_of sub))
entered app words m sub name wanted is_app matches named given is =
    let found = matches (ap is_simple is_app ∙ is_simple_app) in
    let pair : subcommand_rows_of m ≡ Some (name, rows_of (found_of sub)) = pair_of _ _ _ name (rows_of (found_of sub)) named given in
    ap (λ a. subcommand_of a words) (sym is_app) ∙ sym found.1 ∙ pair ∙ ap (λ n. Some (n, rows_of (found_of sub))) is

told : (words : List Text) (name : Text) (arguments : List Text) (rows : List Row) (r : Result Asked WordFault) → subcommand_of certpath_app words ≡ Some (name, rows) → TellsTexts name arguments rows r → AnswersTexts words r
told words name arguments rows (Ok asked) command t = (rows, command ∙ ap (λ n. Some (n, rows)) (sym t.0), t.1)
told words name arguments rows (Err (faults.Refused said)) command t = absurd t
told words name arguments rows (Err faults.Number) command t = absurd t
told words name arguments rows (Err faults.Moment) command t = absurd t
told words name arguments rows (Err (faults.Host reason)) command t = absurd t
told words name arguments rows (Err (faults.Purpose reason)) command t = absurd t
told words name arguments rows (Err faults.OutOfMemory) command t = tt

pub answers_texts : (app : App) (words : List Text) (m sub : ArgMatches) (name wanted : Text) (arguments : List Text) (r : Result Asked WordFault) → app ≡ certpath_app → HasMatchesOf app words m
    → Some name ≡ subcommand_name_of m → Some (rows_of (found_of sub)) ≡ option_map (λ p. p.1) (subcommand_rows_of m) → name ≡ wanted
    → TellsTexts wanted arguments (rows_of (found_of sub)) r → AnswersTexts words r
answers_texts app words m sub name wanted arguments r is_app matches named given is t =
    told words wanted arguments (rows_of (found_of sub)) r (entered app words m sub name wanted is_app matches named given is) t

-- words that clap did not take are refused, or memory was
pub refused_texts : (app : App) (words : List Text) (kind : ErrorKind) (fault : WordFault) → app ≡ certpath_app → (takes app words ≡ true → kind ≡ NoMemory) → IsRefusal kind fault → AnswersTexts words (Err fault)
refused_texts app words kind (faults.Refused said) is passes n = λ t. n (passes (ap (λ a. takes a words) is ∙ t))
refused_texts app words kind faults.Number is passes n = absurd n
refused_texts app words kind faults.Moment is passes n = absurd n
refused_texts app words kind (faults.Host reason) is passes n = absurd n
refused_texts app words kind (faults.Purpose reason) is passes n = absurd n
refused_texts app words kind faults.OutOfMemory is passes n = tt

-- ---- values

pub frame_values : (found : ArgMatches) (t : FrameTexts) → Some t.file.now ≡ first_value (found_of found) (codes "FILE") → Some t.limit.now ≡ first_value (found_of found) (codes "limit")
    → Some t.why.now ≡ first_value (found_of found) (codes "why") → AreFrameTexts (rows_of (found_of found)) t
frame_values found t file limit why = record { file = value found (codes "FILE") t.file.now file; limit = value found (codes "limit") t.limit.now limit; why = value found (codes "why") t.why.now why }

pub path_values : (found : ArgMatches) (t : PathTexts) → Some t.target.now ≡ first_value (found_of found) (codes "target") → option_map (λ s. s.now) t.host ≡ first_value (found_of found) (codes "host")
    → AreAllTexts (rows_of (found_of found)) t.all → ArePathTexts (rows_of (found_of found)) t
path_values found t target host all = record { target = value found (codes "target") t.target.now target; host = sym (first_value-rows (found_of found) (codes "host")) ∙ sym host; all = all }

pub paths_values : (found : ArgMatches) (t : PathsTexts) → option_map (λ s. s.now) t.evidence ≡ first_value (found_of found) (codes "evidence") → AreAllTexts (rows_of (found_of found)) t.all → ArePathsTexts (rows_of (found_of found)) t
paths_values found t evidence all = record { all = all; evidence = sym (first_value-rows (found_of found) (codes "evidence")) ∙ sym evidence }

pub recheck_values : (found : ArgMatches) (t : RecheckTexts) → Some t.evidence.now ≡ first_value (found_of found) (codes "EVIDENCE") → AreAllTexts (rows_of (found_of found)) t.all → AreRecheckTexts (rows_of (found_of found)) t
recheck_values found t evidence all = record { all = all; evidence = value found (codes "EVIDENCE") t.evidence.now evidence }

-- one of the further arguments has no value
pub lacks_further : (id : Text) (arguments : List Text) (rows : List Row) → LacksOneOf arguments rows → LacksOneOf (id ∷ arguments) rows
lacks_further id arguments rows l = record { argument = l.argument; listed = (suc l.listed.0, omega (arith, l.listed.1), l.listed.2); lacks = l.lacks }

pub questions_values : (found : ArgMatches) (t : QuestionsTexts) → Some t.bundle.now ≡ first_value (found_of found) (codes "BUNDLE") → Some t.anchors.now ≡ first_value (found_of found) (codes "ANCHORS")
    → Some t.limit.now ≡ first_value (found_of found) (codes "limit") → AreQuestionsTexts (rows_of (found_of found)) t
questions_values found t bundle anchors limit = record {
  bundle = value found (codes "BUNDLE") t.bundle.now bundle;
  anchors = value found (codes "ANCHORS") t.anchors.now anchors;
  limit = value found (codes "limit") t.limit.now limit;
}

pub all_values : (found : ArgMatches) (t : AllTexts) → Some t.bundle.now ≡ first_value (found_of found) (codes "BUNDLE") → Some t.anchors.now ≡ first_value (found_of found) (codes "ANCHORS")
    → Some t.vouchers.now ≡ first_value (found_of found) (codes "VOUCHERS") → Some t.moment.now ≡ first_value (found_of found) (codes "at")
    → Some t.demand.now ≡ first_value (found_of found) (codes "demand-lists") → Some t.limit.now ≡ first_value (found_of found) (codes "limit")
    → option_map (λ s. s.now) t.purpose ≡ first_value (found_of found) (codes "purpose") → AreAllTexts (rows_of (found_of found)) t
all_values found t bundle anchors vouchers moment demand limit purpose = record {
  bundle = value found (codes "BUNDLE") t.bundle.now bundle;
  anchors = value found (codes "ANCHORS") t.anchors.now anchors;
  vouchers = value found (codes "VOUCHERS") t.vouchers.now vouchers;
  moment = value found (codes "at") t.moment.now moment;
  demand = value found (codes "demand-lists") t.demand.now demand;
  limit = value found (codes "limit") t.limit.now limit;
  purpose = sym (first_value-rows (found_of found) (codes "purpose")) ∙ sym purpose;
}

-- ---- faults, handed on

pub question_fault : (name : Text) (rows : List Row) (fault : WordFault) → TellsQuestion rows (Err fault) → TellsTexts name path_arguments rows (Err fault)
question_fault name rows (faults.Refused said) t = t
question_fault name rows faults.Number t = t
question_fault name rows faults.Moment t = t
question_fault name rows (faults.Host reason) t = t
question_fault name rows (faults.Purpose reason) t = t
question_fault name rows faults.OutOfMemory t = t

pub all_fault : (name : Text) (rows : List Row) (fault : WordFault) → TellsAll rows (Err fault) → TellsTexts name all_arguments rows (Err fault)
all_fault name rows (faults.Refused said) t = t
all_fault name rows faults.Number t = t
all_fault name rows faults.Moment t = t
all_fault name rows (faults.Host reason) t = t
all_fault name rows (faults.Purpose reason) t = t
all_fault name rows faults.OutOfMemory t = t

pub target_fault : (rows : List Row) (fault : WordFault) → TellsAll rows (Err fault) → TellsQuestion rows (Err fault)
target_fault rows (faults.Refused said) t = t
target_fault rows faults.Number t = t
target_fault rows faults.Moment t = t
target_fault rows (faults.Host reason) t = t
target_fault rows (faults.Purpose reason) t = t
target_fault rows faults.OutOfMemory t = lacks_further (codes "target") all_arguments rows t

pub evidence_fault : (name : Text) (rows : List Row) (fault : WordFault) → TellsAll rows (Err fault) → TellsTexts name recheck_arguments rows (Err fault)
evidence_fault name rows (faults.Refused said) t = t
evidence_fault name rows faults.Number t = t
evidence_fault name rows faults.Moment t = t
evidence_fault name rows (faults.Host reason) t = t
evidence_fault name rows (faults.Purpose reason) t = t
evidence_fault name rows faults.OutOfMemory t = lacks_further (codes "EVIDENCE") all_arguments rows t

pub settings_fault : (t : PathTexts) (fault : WordFault) → IsNumber t.target.now → RefusesSettings t.all fault → RefusesQuestion t fault
settings_fault t (faults.Refused said) target r = r
settings_fault t faults.Number target r = inr r
settings_fault t faults.Moment target r = (target, r.0, r.1)
settings_fault t (faults.Host reason) target r = r
settings_fault t (faults.Purpose reason) target r = r
settings_fault t faults.OutOfMemory target r = r

-- ---- hosts

pub refused_host : (word : Option (Bor Text)) (text : Bor Text) (octets : Text) (reason : Refusal) → word ≡ Some text → octets ≡ text.now → IsRefusedFor octets reason → RefusesHost word (faults.Host reason)
refused_host word text octets reason is same refused = subst (λ w. RefusesHost w (faults.Host reason)) (sym is) (subst (λ t. IsRefusedFor t reason) same refused)

-- ---- which word is named

-- a fault of a host, and of a purpose
abbrev IsHostFault : WordFault → Type 0
IsHostFault (faults.Host reason) = Unit {0}
IsHostFault fault = ⊥

abbrev IsPurposeFault : WordFault → Type 0
IsPurposeFault (faults.Purpose reason) = Unit {0}
IsPurposeFault faults.OutOfMemory = Unit {0}
IsPurposeFault fault = ⊥

host_fault : (word : Option (Bor Text)) (fault : WordFault) → RefusesHost word fault → IsHostFault fault
host_fault None fault r = absurd r
host_fault (Some text) (faults.Refused said) r = r
host_fault (Some text) faults.Number r = r
host_fault (Some text) faults.Moment r = r
host_fault (Some text) (faults.Host reason) r = tt
host_fault (Some text) (faults.Purpose reason) r = r
host_fault (Some text) faults.OutOfMemory r = r

purpose_fault : (word : Option (Bor Text)) (fault : WordFault) → RefusesPurposeOf word fault → IsPurposeFault fault
purpose_fault None fault r = absurd r
purpose_fault (Some text) (faults.Refused said) r = r
purpose_fault (Some text) faults.Number r = r
purpose_fault (Some text) faults.Moment r = r
purpose_fault (Some text) (faults.Host reason) r = r
purpose_fault (Some text) (faults.Purpose reason) r = tt
purpose_fault (Some text) faults.OutOfMemory r = tt

demands_fault : (t : PathTexts) (fault : WordFault) → RefusesDemands t fault → RefusesQuestion t fault ⊎ (IsHostFault fault ⊎ IsPurposeFault fault)
demands_fault t fault (inl r) = inl r
demands_fault t fault (inr (inl r)) = inr (inl (host_fault t.host fault r.1))
demands_fault t fault (inr (inr r)) = inr (inr (purpose_fault t.all.purpose fault r.2))

none_of_three : ⊥ ⊎ (⊥ ⊎ ⊥) → ⊥
none_of_three (inl r) = r
none_of_three (inr (inl r)) = r
none_of_three (inr (inr r)) = r

-- what is returned for the words after `path`, and after `why`, is returned for all words
pub path_answers : (words : List Text) (t : PathTexts) (r : Result Command WordFault) → Asks words (asks.Path t) → ReadsPath t r → AnswersWords words r
path_answers words t (Ok command) asked reads = (asks.Path t, asked, reads)
path_answers words t (Err (faults.Refused said)) asked reads = absurd (none_of_three (demands_fault t (faults.Refused said) reads))
path_answers words t (Err faults.Number) asked reads = (asks.Path t, asked, reads)
path_answers words t (Err faults.Moment) asked reads = (asks.Path t, asked, reads)
path_answers words t (Err (faults.Host reason)) asked reads = (asks.Path t, asked, reads)
path_answers words t (Err (faults.Purpose reason)) asked reads = (asks.Path t, asked, reads)
path_answers words t (Err faults.OutOfMemory) asked reads = tt

pub why_answers : (words : List Text) (t : PathTexts) (r : Result Command WordFault) → Asks words (asks.Why t) → ReadsWhy t r → AnswersWords words r
why_answers words t (Ok command) asked reads = (asks.Why t, asked, reads)
why_answers words t (Err (faults.Refused said)) asked reads = absurd (none_of_three (demands_fault t (faults.Refused said) reads))
why_answers words t (Err faults.Number) asked reads = (asks.Why t, asked, reads)
why_answers words t (Err faults.Moment) asked reads = (asks.Why t, asked, reads)
why_answers words t (Err (faults.Host reason)) asked reads = (asks.Why t, asked, reads)
why_answers words t (Err (faults.Purpose reason)) asked reads = (asks.Why t, asked, reads)
why_answers words t (Err faults.OutOfMemory) asked reads = tt
