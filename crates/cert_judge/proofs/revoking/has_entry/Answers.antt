use Rattle.std.proofs.Common.{◌≡◌, refl}
use Rattle.cert_model.specs.Fields.{Entry}
use Rattle.cert_model.specs.View.{entry_view}
use Rattle.cert_model.specs.declared.fields.EntryFields.{EntryFields}
use Rattle.cert_judge.proofs.Mapped.{any_found, any_to, any_from, none_step, none_any, not_both}
use Rattle.cert_judge.proofs.revoking.has_entry.Goals as goal

pub returns-then-is_of : goal.returns-then-is_of
returns-then-is_of c = (
  λ t. any_to entry_view (λ (n : Entry). n.serial ≡ c.args.serial.now) c.args.entries.now
      (any_found (λ (x : EntryFields). (entry_view x).serial ≡ c.args.serial.now) c.args.entries.now c.loop-entry.entry-index c.entry-item.result c.loop-entry-test.true c.entry-item.is (c.is_of.ensures.0 c.if-is_of.true)),
  λ h. refl,
)

pub loop-entry-preserved : goal.loop-entry-preserved
loop-entry-preserved c =
    none_step (λ (x : EntryFields). (entry_view x).serial ≡ c.args.serial.now) c.args.entries.now c.loop-entry.entry-index c.entry-item.result c.loop-entry-test.true c.entry-item.is c.loop-entry.invariant
    (λ p. not_both _ (c.is_of.ensures.1 p) c.if-is_of.false)

pub returns : goal.returns
returns c = (
  λ t. absurd (not_both _ t refl),
  λ h. absurd (none_any (λ (x : EntryFields). (entry_view x).serial ≡ c.args.serial.now) c.args.entries.now c.loop-entry.entry-index c.loop-entry-test.false c.loop-entry.invariant
      (any_from entry_view (λ (n : Entry). n.serial ≡ c.args.serial.now) c.args.entries.now h)),
)
