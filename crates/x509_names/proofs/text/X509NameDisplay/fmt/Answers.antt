use Rattle.std.proofs.Common.{◌≡◌, true, false, map, ap, sym, ◌∙◌, rules}
use Rattle.std.proofs.Output.{has_written_of_eq}
use Rattle.x509_names.specs.NameTexts.{known_label, text_or_fault}
use Rattle.x509_names.specs.View.{set_view, name_view}
use Rattle.x509_names.specs.Writing.{sets_can_be_shown, sets_piece}
use Rattle.x509_names.proofs.TextLaws.{name_told, name_missing}
use Rattle.x509_names.proofs.text.X509NameDisplay.fmt.Goals as goal

pub returns-then-not-sets_are_shown-clause-writes : goal.returns-then-not-sets_are_shown-clause-writes
returns-then-not-sets_are_shown-clause-writes g c =
    λ plain ok.
    let off : sets_can_be_shown (map set_view c.args.self.now.rdn_seq.items) ≡ false = search rules in
    has_written_of_eq _ _ _ _ _ (sym (ap text_or_fault (name_missing known_label (name_view c.args.self.now) off))) (c.write_str.ensures.writes plain ok)

pub returns-clause-writes : goal.returns-clause-writes
returns-clause-writes g c =
    λ plain ok.
    let on : sets_can_be_shown (map set_view c.args.self.now.rdn_seq.items) ≡ true = search rules in
    let same : c.as_slice-sets.result.now ≡ c.args.self.now.rdn_seq.items = search rules in
    has_written_of_eq _ _ _ _ _
    (ap (λ l. sets_piece known_label (map set_view l)) same ∙ sym (ap text_or_fault (name_told known_label (name_view c.args.self.now) on)))
    (c.write_sets.ensures plain ok)
