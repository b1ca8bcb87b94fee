-- What clap's clauses say of the words of `bundle`.
use Rattle.std.proofs.Common.{◌≡◌, ◌∙◌, sym, ap, refl, ℕ, List, [], map, Option, Some, None, codes, Result, Ok, Err}
use Rattle.std.specs.Option.{option_map}
use Rattle.std.specs.Prelude.{bytes_eq, find}
use Rattle.clap.specs.Matches.{found_of, matched_of, raw_values, subcommand_name_of}
use Rattle.clap.specs.Simple.{App, HasMatchesOf, subcommand_rows_of}
use Rattle.clap.specs.Walk.{Row, Text, all_of, rows_of}
use Rattle.clap.proofs.WalkLemmas.{raw_values-rows}
use Rattle.clap.specs.declared.parser.matches.ArgMatches.{ArgMatches}
use Rattle.certpath_engine.specs.Words.{certpath_app}
use Rattle.certpath_engine.specs.Asking.{AreBundleTexts, GivesBundle, AnswersTexts}
use Rattle.certpath_engine.specs.declared.bundle_texts.BundleTexts.{BundleTexts}
use Rattle.certpath_engine.specs.declared.texts.Asked.{Asked}
use Rattle.certpath_engine.specs.declared.words.WordFault.{WordFault}
use Rattle.certpath_engine.specs.declared.words.WordFault.TheVariants as faults
use Rattle.certpath_engine.proofs.WordLemmas.{answers_texts}

pub bundle_answers : (app : App) (words : List Text) (m sub : ArgMatches) (name : Text) (r : Result Asked WordFault) → app ≡ certpath_app → HasMatchesOf app words m
    → Some name ≡ subcommand_name_of m → Some (rows_of (found_of sub)) ≡ option_map (λ p. p.1) (subcommand_rows_of m) → name ≡ codes "bundle"
    → GivesBundle (rows_of (found_of sub)) r → AnswersTexts words r
bundle_answers app words m sub name (Ok asked) is_app matches named given is t = answers_texts app words m sub name (codes "bundle") [] (Ok asked) is_app matches named given is t
bundle_answers app words m sub name (Err (faults.Refused said)) is_app matches named given is t = absurd t
bundle_answers app words m sub name (Err faults.Number) is_app matches named given is t = absurd t
bundle_answers app words m sub name (Err faults.Moment) is_app matches named given is t = absurd t
bundle_answers app words m sub name (Err (faults.Host reason)) is_app matches named given is t = absurd t
bundle_answers app words m sub name (Err (faults.Purpose reason)) is_app matches named given is t = absurd t
bundle_answers app words m sub name (Err faults.OutOfMemory) is_app matches named given is t = tt

-- the values of an argument are those of its row
pub bundle_values : (found : ArgMatches) (t : BundleTexts) (values : List Text) → Some values ≡ option_map raw_values (matched_of (found_of found) (codes "FILE")) → map (λ s. s.now) t.files.items ≡ values
    → AreBundleTexts (rows_of (found_of found)) t
bundle_values found t values is kept = record {
  files = sym (raw_values-rows (found_of found) (codes "FILE")) ∙ sym is ∙ ap (λ l. Some l) (sym kept);
}
