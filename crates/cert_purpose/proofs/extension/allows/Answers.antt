use Rattle.std.proofs.Common.{map, subst, inl, inr}
use Rattle.std.proofs.lemmas.Bool.{false≢true}
use Rattle.cert_model.specs.View.{ext_view}
use Rattle.cert_purpose.specs.Purposes.{extended_key_usage, IsFor}
use Rattle.cert_purpose.proofs.Ones.{one_of_one, one_not_none, more_not_none, more_not_one}
use Rattle.cert_purpose.proofs.extension.allows.Goals as goal

pub returns-in-One : goal.returns-in-One
returns-in-One c =
    let es = map ext_view c.args.extensions.now in (
      λ h. inr (c.in-One.value.now, c.in-One.ensures, c.is_for.ensures.0 h),
      λ h. elim h [
        | inl w ↦ absurd (one_not_none extended_key_usage (map ext_view c.args.extensions.now) c.in-One.value.now c.in-One.ensures w)
        | inr w ↦ c.is_for.ensures.1 (subst (IsFor c.args.purpose.now) (one_of_one extended_key_usage (map ext_view c.args.extensions.now) w.0 c.in-One.value.now w.1 c.in-One.ensures) w.2)
      ],
    )

pub returns-in-More : goal.returns-in-More
returns-in-More c = (
  λ h. absurd (false≢true h),
  λ h. elim h [
    | inl w ↦ absurd (more_not_none extended_key_usage (map ext_view c.args.extensions.now) c.in-More.ensures w)
    | inr w ↦ absurd (more_not_one extended_key_usage (map ext_view c.args.extensions.now) w.0 c.in-More.ensures w.1)
  ],
)
