use Rattle.std.proofs.Common.{arith, ◌∙◌, sym, ◌<◌, ◌^◌, length}
use Rattle.cert_model.specs.Octets.{list_octets}
use Rattle.cert_model.specs.View.{list_view}
use Rattle.certpath_typed.proofs.Compared.{IsNew, all_written, not_written}
use Rattle.certpath_typed.proofs.written.is_long_list.Goals as goal

pub returns-in-Ok : goal.returns-in-Ok
returns-in-Ok c =
    let begun = c.new-comparison.ensures in
    let new : IsNew c.args.item.now c.new-comparison.result = record { whole = begun.whole; contents = begun.contents; failures = begun.failures } in
    let both = all_written c.args.item.now (list_octets (list_view c.args.fields.now)) c.new-comparison.result c.rebuild_list.new.writer new c.in-Ok.ensures.written.ok.0 in
    (λ yes_it_is. sym both.1 ∙ c.is_whole.ensures.0 yes_it_is ∙ both.0, λ same. c.is_whole.ensures.1 (both.1 ∙ same ∙ sym both.0))

pub returns-in-Err : goal.returns-in-Err
returns-in-Err c =
    let begun = c.new-comparison.ensures in
    let new : IsNew c.args.item.now c.new-comparison.result = record { whole = begun.whole; contents = begun.contents; failures = begun.failures } in
    let small : length c.args.item.now < 2 ^ 64 = omega arith in
    (λ no. cc, λ same. absurd (not_written c.args.item.now (list_octets (list_view c.args.fields.now)) c.new-comparison.result c.rebuild_list.new.writer c.in-Err.field-0 new small c.in-Err.ensures.written.err same))
