use Rattle.std.proofs.Common.{◌∙◌, ap, Some, option_map, if◌then◌else◌, bytes_eq}
use Rattle.x509_objects.specs.Registry.{entry_view, entry_in, entry_of}
use Rattle.x509_objects.proofs.MapLaws.{looked_up, inserted}
use Rattle.x509_objects.proofs.registry.OidRegistry.put.Goals as goal

pub returns-clause-before : goal.returns-clause-before
returns-clause-before c =
    ap (option_map entry_view) c.in_ok-old.ensures.old
    ∙ looked_up (λ k. k.items) entry_view c.args.self.now.entries.entries c.in_ok-key.key.items
    ∙ ap (λ z. entry_of c.args.self.now z) c.in_ok-key.ensures.items

pub returns-clause-after : goal.returns-clause-after
returns-clause-after c =
    λ id.
    ap (λ es. entry_in (λ k. k.items) entry_view es id) c.in_ok-old.ensures.entries
    ∙ inserted (λ k. k.items) entry_view c.args.self.now.entries.entries c.in_ok-key.key c.args.entry id
    ∙ ap (λ z. if bytes_eq id z then Some (entry_view c.args.entry) else entry_of c.args.self.now id) c.in_ok-key.ensures.items
