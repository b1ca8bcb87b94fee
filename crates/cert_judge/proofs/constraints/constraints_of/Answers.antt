use Rattle.std.proofs.Common.{ap, ◌∙◌, ◌≢◌, sym, refl, ◌++◌, Some, None, Option, slice_index}
use Rattle.cert_model.specs.Fields.{Number}
use Rattle.cert_model.specs.Octets.{sequence_octets, number_octets, optional_octets, flag_octets}
use Rattle.cert_judge.specs.Constraints.{basic_constraints_octets}
use Rattle.cert_judge.proofs.constraints.constraints_of.Goals as goal

no_flag : (n : Option Number) → slice_index (optional_octets number_octets n) 0 ≢ 1
no_flag None = λ e. cc
no_flag (Some n) = λ e. cc

pub returns-in_err-content-clause-only : goal.returns-in_err-content-clause-only
unfolding basic_constraints_octets
returns-in_err-content-clause-only c = λ b p.
    let x = c.whole.ensures.only _ p.spelled in
    let y = rw c.in_err-content.was at x in absurd y

pub returns-in_err-path_len-clause-only : goal.returns-in_err-path_len-clause-only
unfolding basic_constraints_octets
returns-in_err-path_len-clause-only c = λ b p.
    let x = c.in_ok-content.ensures.only _ p.spelled in
    let f = c.flag_of-ca.ensures.only b.ca (optional_octets number_octets b.path_len) x (no_flag b.path_len) in
    let y = c.in_err-path_len.ensures.only b.path_len p.in_range f.1 in absurd y

pub returns-clause-found : goal.returns-clause-found
unfolding basic_constraints_octets
returns-clause-found c =
    let r = c.in_ok-path_len.ensures.found in (
      record { ca = c.flag_of-ca.result.0; path_len = r.0 },
      record {
        in_range = r.1;
        spelled = c.in_ok-content.ensures.found ∙ ap sequence_octets (c.flag_of-ca.ensures.found ∙ ap (λ z. flag_octets c.flag_of-ca.result.0 ++ z) r.2);
      },
      refl,
      r.3,
    )

pub returns-clause-only : goal.returns-clause-only
unfolding basic_constraints_octets
returns-clause-only c = λ b p.
    let x = c.in_ok-content.ensures.only _ p.spelled in
    let f = c.flag_of-ca.ensures.only b.ca (optional_octets number_octets b.path_len) x (no_flag b.path_len) in
    (sym f.0, c.in_ok-path_len.ensures.only b.path_len p.in_range f.1)
