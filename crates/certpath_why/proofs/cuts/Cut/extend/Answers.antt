use Rattle.std.proofs.Common.{◌≡◌, ◌∙◌, ◌+◌, ◌-◌, ◌++◌, ap, sym, length, length-append, take, arith}
use Rattle.certpath_why.specs.Listed.{most_names}
use Rattle.certpath_why.proofs.Spacing.{more_shown}
use Rattle.certpath_why.proofs.cuts.Cut.extend.Goals as goal

pub returns : goal.returns
returns c = λ rs h.
    let old = c.args.self.now.shown.items in
    let more = c.args.ranges.now in
    let room : c.saturating_sub-room.result ≡ most_names - length old = omega arith in
    record {
      shown_is = c.in_ok-extend_from_slice.ensures.items ∙ ap (λ l. old ++ l) (c.front_of.ensures ∙ ap (λ k. take k more) room) ∙ more_shown most_names rs old more h.shown_is;
      count_is = c.in-Some.ensures.1 ∙ ap (λ n. n + length more) h.count_is ∙ sym (length-append rs more);
    }
