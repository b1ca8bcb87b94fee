-- What a comparison shows once all was written, or a write was refused.
use Rattle.std.proofs.Common.{◌≡◌, ◌∙◌, sym, ap, arith, ℕ, ◌<◌, ◌^◌, List, [], ◌++◌, length, Some}
use Rattle.asn1_core.specs.declared.serialize.SerializeError.{SerializeError}
use Rattle.asn1_core.specs.declared.serialize.SerializeError.TheVariants.{InvalidLength, IOError}
use Rattle.certpath_rebuild.specs.Puts.{NotRebuilt}
use Rattle.certpath_typed.specs.Met.{met, held}
use Rattle.certpath_typed.specs.declared.comparison.Comparison.{Comparison}
use Rattle.certpath_typed.proofs.Meeting.{apart, never}

abbrev pub met_by : Comparison → List ℕ
met_by c = met c.whole.now c.at c.differs c.other

abbrev pub held_by : Comparison → List ℕ
held_by c = held c.whole.now c.at c.differs c.other

-- nothing was written to it yet, and it compares with these octets
pub record IsNew (item : List ℕ) (c : Comparison) : Type 0 where
  pub whole : c.whole.now ≡ item
  pub contents : met_by c ≡ []
  pub failures : c.failures.count ≡ 0

pub all_written : (item octets : List ℕ) (old new : Comparison) → IsNew item old → held_by new ≡ held_by old ++ octets → (new.whole.now ≡ item) × (met_by new ≡ octets)
all_written item octets old new is wrote =
    let both = apart new.whole.now old.whole.now (met_by new) (met_by old) octets is.contents wrote in
    (both.0 ∙ is.whole, both.1)

pub not_written : (item octets : List ℕ) (old new : Comparison) (e : SerializeError) → IsNew item old → length item < 2 ^ 64
    → NotRebuilt (Some (held_by old)) (Some (held_by new)) old.failures.count new.failures.count octets e → octets ≡ item → ⊥
not_written item octets old new InvalidLength is small refused same = omega (arith, small, refused.0, ap length same)
not_written item octets old new IOError is small refused same =
    let front = refused.0 in
    let both = all_written item front.front old new is front.wrote in
    let failed : 0 < new.failures.count = omega (arith, refused.1, is.failures) in
    let differs = new.refused failed in
    let whole : new.whole.now ≡ met_by new ++ front.left = both.0 ∙ sym same ∙ front.parts ∙ ap (λ z. z ++ front.left) (sym both.1) in
    never new.whole.now new.at new.differs new.other front.left differs new.within (new.apart differs) whole
not_written item octets old new e is small refused same = absurd refused
