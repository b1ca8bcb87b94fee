-- What holds of one of the words holds of all.
use Rattle.std.proofs.Common.{sym, subst, ℕ, ◌<◌, List, map, length, get_or, Bor}
use Rattle.std.specs.List.{Contains}
use Rattle.std.proofs.lemmas.List.{get_or-map, length-map}
use Rattle.certpath_engine.specs.declared.bundle_exit.BundleOutcome.{BundleOutcome}
use Rattle.certpath_engine.specs.declared.bundle_exit.BundleOutcome.TheVariants as bundled
use Rattle.certpath_cli.specs.Outcomes.{IsOfWord, IsOfWords}

one_of : (words : List (Bor (List ℕ))) (k : ℕ) (d : Bor (List ℕ)) → k < length words → Contains (map (λ w. w.now) words) (get_or words k d).now
one_of words k d lt = (k, subst (λ n. k < n) (sym (length-map words (λ w. w.now))) lt, get_or-map (λ w. w.now) words k d (get_or words k d).now lt)

pub of_one : (words : List (Bor (List ℕ))) (k : ℕ) (d : Bor (List ℕ)) (o : BundleOutcome) → k < length words → IsOfWord (get_or words k d).now o → IsOfWords (map (λ w. w.now) words) o
of_one words k d (bundled.Unopened file) lt h = subst (λ l. Contains (map (λ w. w.now) words) l) (sym h) (one_of words k d lt)
of_one words k d (bundled.Unread file error) lt h = subst (λ l. Contains (map (λ w. w.now) words) l) (sym h) (one_of words k d lt)
of_one words k d (bundled.Bundled answer) lt h = tt
