use Rattle.std.proofs.Common.{◌≡◌, ◌∙◌, arith, ℕ, ◌+◌, ◌-◌, ◌||◌, true, List, ◌++◌, refl, sym, ap, append-nil, append_assoc}
use Rattle.std.proofs.Output.{has_written_append, has_written_of_eq}
use Rattle.x509_ext_flags.specs.Texts.{names_set, name_piece}
use Rattle.x509_ext_flags.proofs.TextLaws.{left_names, next_flag, all_told}
use Rattle.x509_ext_flags.proofs.names.write_names.Goals as goal

pub loop-bit-preserved : goal.loop-bit-preserved
loop-bit-preserved g c =
    let name = g.T.FlagNames.name_of in
    let less = c.loop-bit-test.true in
    let more = names_set name c.args.flags (c.args.width - (c.loop-bit.bit + 1)) (c.loop-bit.bit + 1) in
    let piece = name_piece c.flag_at-set.result c.loop-bit.begun c.name.result.now in (
      omega (arith, less),
      λ plain.
          let now = c.loop-bit.invariant.1 plain in
          let step = c.in_ok-write_name.ensures now.1.plain (refl {a = true}) in (
            now.0 ++ piece,
            has_written_append g.W.Write.write_str_gives c.args.f.now now.0 _ piece _ now.1 step,
            ap (λ b. (now.0 ++ piece) ++ left_names b more) c.either-begun.ensures ∙ append_assoc now.0 piece (left_names (c.loop-bit.begun || c.flag_at-set.result) more)
                ∙ ap (λ (n : List ℕ). now.0 ++ (name_piece c.flag_at-set.result c.loop-bit.begun n ++ left_names (c.loop-bit.begun || c.flag_at-set.result) more)) c.name.ensures
                ∙ ap (λ (l : List ℕ). now.0 ++ l) (sym (next_flag name c.args.flags c.args.width c.loop-bit.bit c.loop-bit.begun c.flag_at-set.result less c.flag_at-set.ensures))
                ∙ now.2,
          ),
    )

pub returns : goal.returns
returns g c =
    λ plain ok.
    let now = c.loop-bit.invariant.1 plain in
    let over : c.args.width - c.loop-bit.bit ≡ 0 = omega (arith, c.loop-bit-test.false) in
    let none = all_told g.T.FlagNames.name_of c.args.flags c.args.width c.loop-bit.bit c.loop-bit.begun over in
    let text = sym (append-nil now.0) ∙ ap (λ (l : List ℕ). now.0 ++ l) (sym none) ∙ now.2 in
    has_written_of_eq _ _ _ _ _ text now.1
