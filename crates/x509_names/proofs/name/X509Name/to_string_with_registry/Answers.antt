use Rattle.std.proofs.Common.{◌≡◌, true, false, map, ap, sym, ◌∙◌, Some, rules}
use Rattle.x509_names.specs.View.{set_view, name_view}
use Rattle.x509_names.specs.Writing.{sets_can_be_shown}
use Rattle.x509_names.proofs.TextLaws.{name_told, name_missing}
use Rattle.x509_objects.specs.Registry.{abbreviated}
use Rattle.x509_names.proofs.name.X509Name.to_string_with_registry.Goals as goal

pub returns-then-not-sets_are_shown : goal.returns-then-not-sets_are_shown
returns-then-not-sets_are_shown c =
    let off : sets_can_be_shown (map set_view c.args.self.now.rdn_seq.items) ≡ false = search rules in
    name_missing (abbreviated c.args.registry.now) (name_view c.args.self.now) off

pub returns : goal.returns
returns c =
    let on : sets_can_be_shown (map set_view c.args.self.now.rdn_seq.items) ≡ true = search rules in
    name_told (abbreviated c.args.registry.now) (name_view c.args.self.now) on ∙ ap (λ t. Some t) (sym c.in_ok-text.ensures.ok)
