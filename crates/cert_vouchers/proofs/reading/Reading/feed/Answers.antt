use Rattle.std.proofs.Common.{sym, refl, [], ◌∷◌}
use Rattle.std.proofs.lemmas.List.{append-nil}
use Rattle.std.proofs.lemmas.Result.{IfErr-weaker, on_ok_weaker}
use Rattle.cert_vouchers.specs.Reader.{Refuses}
use Rattle.cert_vouchers.proofs.Progress.{fed_more, fed_all, fed_refused, if_handed_on}
use Rattle.cert_vouchers.proofs.reading.Reading.feed.Goals as goal

pub returns-in_err-keep-clause-refused : goal.returns-in_err-keep-clause-refused
returns-in_err-keep-clause-refused c =
    let old = c.args.self.now in
    let piece = c.args.piece.now in
    let e = c.in_err-keep.field-0.0 in
    if_handed_on c.from_residual.result e (Refuses old piece) c.from_residual.ensures.1
    (fed_refused old c.loop-line.self piece c.loop-line.rest.now c.in-Some.line.now (10 ∷ c.in-Some.behind.now) e c.in-Some.ensures.found c.in_err-keep.ensures.refused c.loop-line.invariant)

pub returns-in_err-end_line-clause-refused : goal.returns-in_err-end_line-clause-refused
returns-in_err-end_line-clause-refused c =
    let old = c.args.self.now in
    let piece = c.args.piece.now in
    let behind = c.in-Some.behind.now in
    let e = c.in_err-end_line.field-0.0 in
    let kept = fed_more old c.loop-line.self c.keep.new.self piece c.loop-line.rest.now c.in-Some.line.now (10 ∷ behind) c.in-Some.ensures.found c.in_ok-keep.ensures.ok c.loop-line.invariant in
    if_handed_on c.from_residual-in_err-end_line.result e (Refuses old piece) c.from_residual-in_err-end_line.ensures.1
    (fed_refused old c.keep.new.self piece (10 ∷ behind) (10 ∷ []) behind e refl c.in_err-end_line.ensures.refused kept)

pub loop-line-preserved : goal.loop-line-preserved
loop-line-preserved c =
    let old = c.args.self.now in
    let piece = c.args.piece.now in
    let behind = c.in-Some.behind.now in
    let kept = fed_more old c.loop-line.self c.keep.new.self piece c.loop-line.rest.now c.in-Some.line.now (10 ∷ behind) c.in-Some.ensures.found c.in_ok-keep.ensures.ok c.loop-line.invariant in
    fed_more old c.keep.new.self c.end_line.new.self piece (10 ∷ behind) (10 ∷ []) behind refl c.in_ok-end_line.ensures.ok kept

pub returns-clause-ok : goal.returns-clause-ok
returns-clause-ok c =
    let old = c.args.self.now in
    let piece = c.args.piece.now in
    let rest = c.loop-line.rest.now in
    let new = c.keep-2.new.self in
    on_ok_weaker c.keep-2.result (λ t. fed_all old new piece (fed_more old c.loop-line.self new piece rest rest [] (sym (append-nil rest)) t c.loop-line.invariant)) c.keep-2.ensures.ok

pub returns-clause-refused : goal.returns-clause-refused
returns-clause-refused c =
    let old = c.args.self.now in
    let piece = c.args.piece.now in
    let rest = c.loop-line.rest.now in
    IfErr-weaker c.keep-2.result (Refuses c.loop-line.self rest) (Refuses old piece) (λ e r. fed_refused old c.loop-line.self piece rest rest [] e (sym (append-nil rest)) r c.loop-line.invariant) c.keep-2.ensures.refused
