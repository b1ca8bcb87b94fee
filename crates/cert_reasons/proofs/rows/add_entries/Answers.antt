use Rattle.std.proofs.Common.{◌≡◌, length, arith}
use Rattle.cert_judge.proofs.Mapped.{any_to, any_from}
use Rattle.cert_model.specs.Fields.{Entry}
use Rattle.cert_model.specs.View.{entry_view}
use Rattle.cert_model.specs.declared.fields.EntryFields.{EntryFields}
use Rattle.std.proofs.Common.{map}
use Rattle.std.specs.List.{Any}
use Rattle.cert_reasons.specs.Rows.{HasRow}
use Rattle.cert_reasons.proofs.Rowing.{entries_none, entries_more, entries_all}
use Rattle.cert_reasons.proofs.rows.add_entries.Goals as goal

pub loop-entry-init : goal.loop-entry-init
loop-entry-init c = λ s p. entries_none (λ (x : EntryFields). (entry_view x).serial ≡ s) c.args.entries.now (HasRow c.args.rows.now s p) (c.args.place ≡ p)

pub loop-entry-preserved : goal.loop-entry-preserved
loop-entry-preserved c = λ s p.
    entries_more (λ (x : EntryFields). (entry_view x).serial ≡ s) c.args.entries.now c.loop-entry.entry-index c.entry-item.result (HasRow c.args.rows.now s p) (HasRow c.loop-entry.rows s p) (HasRow c.add_row.new.rows s p) (c.args.place ≡ p)
    c.loop-entry-test.true c.entry-item.is (c.loop-entry.invariant s p) (c.in_ok-add_row.ensures s p)

pub returns : goal.returns
returns c =
    let end : c.loop-entry.entry-index ≡ length c.args.entries.now = omega arith in
    λ s p. entries_all (λ (x : EntryFields). (entry_view x).serial ≡ s) c.args.entries.now c.loop-entry.entry-index (HasRow c.args.rows.now s p) (HasRow c.loop-entry.rows s p) (c.args.place ≡ p) (Any (λ (n : Entry). n.serial ≡ s) (map entry_view c.args.entries.now)) end
    (any_to entry_view (λ (n : Entry). n.serial ≡ s) c.args.entries.now, any_from entry_view (λ (n : Entry). n.serial ≡ s) c.args.entries.now) (c.loop-entry.invariant s p)
