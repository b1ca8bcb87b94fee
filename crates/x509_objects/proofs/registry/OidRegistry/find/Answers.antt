use Rattle.x509_objects.specs.Registry.{entry_view}
use Rattle.x509_objects.proofs.MapLaws.{looked_up, seen_copied}
use Rattle.x509_objects.proofs.registry.OidRegistry.find.Goals as goal

pub returns : goal.returns
returns c =
    seen_copied entry_view c.get.result _ c.get.ensures.value (looked_up (λ k. k.items) entry_view c.args.self.now.entries.entries c.args.octets.now)
