-- The readers of this crate as functions on octets. What they read is defined in `Points`; laws tie
-- each function to it. None of their refusals is promised by its error.
use Rattle.std.specs.Prelude.{ℕ, ◌==◌, Bool, true, false, if◌then◌else◌, List, [], ◌∷◌, Ok, Err}
use Rattle.asn1_core.specs.Elements.{Element}
use Rattle.asn1_core.specs.Strict.{Head}
use Rattle.asn1_any.specs.Cutting.{Piece}
use Rattle.x509_core.specs.Answers.{Answer, unnamed, ◌>>=◌}
use Rattle.x509_core.specs.Reading.{Reader, front_header_at, leaf_in, next}
use Rattle.x509_ext_names.specs.x509_names.specs.Reading.{relative_name_at}
use Rattle.x509_ext_names.specs.x509_ext_flags.specs.Reading.{sixteen_in}
use Rattle.x509_items.specs.Reading.{held, maybe_of, some_of, ended, all_of}
use Rattle.x509_ext_names.specs.Reading.{general_name_at, some_names_at}
use Rattle.x509_items.specs.Grammar.{or_false}
use Rattle.x509_ext_points.specs.Values as values

abbrev pub full_name_at : Reader values.PointName
full_name_at i = do
  names ← some_of general_name_at i
  Ok (values.full_name names.0, names.1)

abbrev pub relative_at : Reader values.PointName
relative_at i = do
  set ← relative_name_at i
  Ok (values.relative_name set.0, set.1)

-- after the header of its kind, whose length isn't used
abbrev pub name_behind : Head × List ℕ → Answer (values.PointName × List ℕ)
name_behind h = if h.0.tag == 0 then full_name_at h.1 else if h.0.tag == 1 then relative_at h.1 else Err unnamed

unfoldable pub point_name_at : Reader values.PointName
point_name_at i = front_header_at i >>= name_behind

abbrev pub boxed_name_at : Reader values.PointName
boxed_name_at = next (held 0 point_name_at)

abbrev pub reasons_at : ℕ → Reader ℕ
reasons_at tag = next (sixteen_in tag)

unfoldable pub point_parts_at : Reader values.DistributionPoint
point_parts_at i = do
  let name = maybe_of boxed_name_at i
  let reasons = maybe_of (reasons_at 1) name.1
  let issuer = maybe_of (some_names_at 2) reasons.1
  Ok (record { distribution_point = name.0; reasons = reasons.0; crl_issuer = issuer.0 }, issuer.1)

abbrev pub point_in : Piece → Answer values.DistributionPoint
point_in = held 16 point_parts_at

abbrev pub point_at : Reader values.DistributionPoint
point_at = next point_in

abbrev pub points_in : Piece → Answer (List values.DistributionPoint)
points_in = held 16 (ended (all_of point_at))

abbrev pub points_at : Reader (List values.DistributionPoint)
points_at = next points_in

-- a BOOLEAN of DER
abbrev pub truth_of : List ℕ → Answer Bool
truth_of [] = Err unnamed
truth_of (x ∷ []) = if x == 0 then Ok false else if x == 255 then Ok true else Err unnamed
truth_of (x ∷ y ∷ s) = Err unnamed

abbrev pub truth_in : ℕ → Element → Answer Bool
truth_in tag e = leaf_in tag e >>= truth_of

abbrev pub truth_at : ℕ → Reader Bool
truth_at tag = next (λ p. truth_in tag p.element)

-- a BOOLEAN under this tag number, or false and nothing read
abbrev pub flag_at : ℕ → List ℕ → Bool × List ℕ
flag_at tag i = let flag = maybe_of (truth_at tag) i in (or_false flag.0, flag.1)

unfoldable pub issuing_parts_at : Reader values.IssuingDistributionPoint
issuing_parts_at i = do
  let name = maybe_of boxed_name_at i
  let user = flag_at 1 name.1
  let ca = flag_at 2 user.1
  let reasons = maybe_of (reasons_at 3) ca.1
  let indirect = flag_at 4 reasons.1
  let attribute = flag_at 5 indirect.1
  Ok (
    record {
      distribution_point = name.0;
      only_contains_user_certs = user.0;
      only_contains_ca_certs = ca.0;
      only_some_reasons = reasons.0;
      indirect_crl = indirect.0;
      only_contains_attribute_certs = attribute.0;
    },
    attribute.1,
  )

abbrev pub issuing_in : Piece → Answer values.IssuingDistributionPoint
issuing_in = held 16 issuing_parts_at

abbrev pub issuing_at : Reader values.IssuingDistributionPoint
issuing_at = next issuing_in
