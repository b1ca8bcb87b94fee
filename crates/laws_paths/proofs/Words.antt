-- Extensions with short values have one text of purposes, and one of hosts.
use Rattle.std.specs.Prelude.{codes}
use Rattle.std.proofs.Common.{◌≡◌, ◌∙◌, ap, sym, subst, ℕ, ◌^◌, ◌<◌, List, ◌∷◌, ◌++◌, [], length, inl, inr, Contains}
use Rattle.std.proofs.lemmas.List.Elements.{Contains-append_left, Contains-append_right, Contains-push}
use Rattle.cert_model.specs.Fields.{Extension, Identifier}
use Rattle.cert_purpose.specs.Purposes.{IsOneUnder, extended_key_usage}
use Rattle.cert_purpose.proofs.Ones.{more_not_none, more_not_one, one_not_none, one_of_one}
use Rattle.cert_reasons.proofs.Once.{names_once, purposes_once}
use Rattle.cert_serving.specs.GeneralNames.{GeneralName}
use Rattle.cert_serving.specs.Serving.{subject_alt_name}
use Rattle.certpath_why.specs.Hosts.{AreHostsWords, AreNamesWords, hosts_among, hosts_words}
use Rattle.certpath_why.specs.Laws.{AreShort}
use Rattle.certpath_why.specs.Listed.{listed}
use Rattle.certpath_why.specs.Uses.{ArePurposesWords, AreUsesWords, purpose_text}

short_value : (id : Identifier) (es : List Extension) (value : List ℕ) → AreShort es → IsOneUnder id es value → length value < 2 ^ 64
short_value id es value short o =
    let there : Contains (o.front ++ o.extension ∷ o.back) o.extension = Contains-append_right o.front (o.extension ∷ o.back) o.extension (Contains-append_left (o.extension ∷ []) o.back o.extension (Contains-push [] o.extension)) in
    subst (λ (s : List ℕ). length s < 2 ^ 64) o.value_is (short o.extension (subst (λ (l : List Extension). Contains l o.extension) (sym o.place) there))

one_text_of_purposes : (value a b : List ℕ) → length value < 2 ^ 64 → ArePurposesWords value a → ArePurposesWords value b → a ≡ b
one_text_of_purposes value a b short (inl x) (inl y) = x.2 ∙ ap (λ (ps : List Identifier). codes "it is for " ++ listed purpose_text ps) (purposes_once value x.0 y.0 short x.1 y.1) ∙ sym y.2
one_text_of_purposes value a b short (inl x) (inr y) = absurd (y.0 x.0 x.1)
one_text_of_purposes value a b short (inr x) (inl y) = absurd (x.0 y.0 y.1)
one_text_of_purposes value a b short (inr x) (inr y) = x.1 ∙ sym y.1

pub one_text_of_uses : (es : List Extension) (a b : List ℕ) → AreShort es → AreUsesWords es a → AreUsesWords es b → a ≡ b
one_text_of_uses es a b short (inl x) (inl y) =
    let same = one_of_one extended_key_usage es y.0 x.0 y.1 x.1 in
    one_text_of_purposes x.0 a b (short_value extended_key_usage es x.0 short x.1) x.2 (subst (λ (v : List ℕ). ArePurposesWords v b) same y.2)
one_text_of_uses es a b short (inl x) (inr y) = absurd (more_not_one extended_key_usage es x.0 y.0 x.1)
one_text_of_uses es a b short (inr x) (inl y) = absurd (more_not_one extended_key_usage es y.0 x.0 y.1)
one_text_of_uses es a b short (inr x) (inr y) = x.1 ∙ sym y.1

one_text_of_names : (value a b : List ℕ) → length value < 2 ^ 64 → AreNamesWords value a → AreNamesWords value b → a ≡ b
one_text_of_names value a b short (inl x) (inl y) = x.2 ∙ ap (λ (gs : List GeneralName). hosts_words (hosts_among gs)) (names_once value x.0 y.0 short x.1 y.1) ∙ sym y.2
one_text_of_names value a b short (inl x) (inr y) = absurd (y.0 x.0 x.1)
one_text_of_names value a b short (inr x) (inl y) = absurd (x.0 y.0 y.1)
one_text_of_names value a b short (inr x) (inr y) = x.1 ∙ sym y.1

pub one_text_of_hosts : (es : List Extension) (a b : List ℕ) → AreShort es → AreHostsWords es a → AreHostsWords es b → a ≡ b
one_text_of_hosts es a b short (inl x) (inl y) = x.1 ∙ sym y.1
one_text_of_hosts es a b short (inl x) (inr (inl y)) = absurd (one_not_none subject_alt_name es y.0 y.1 x.0)
one_text_of_hosts es a b short (inl x) (inr (inr y)) = absurd (more_not_none subject_alt_name es y.0 x.0)
one_text_of_hosts es a b short (inr (inl x)) (inl y) = absurd (one_not_none subject_alt_name es x.0 x.1 y.0)
one_text_of_hosts es a b short (inr (inl x)) (inr (inl y)) =
    let same = one_of_one subject_alt_name es y.0 x.0 y.1 x.1 in
    one_text_of_names x.0 a b (short_value subject_alt_name es x.0 short x.1) x.2 (subst (λ (v : List ℕ). AreNamesWords v b) same y.2)
one_text_of_hosts es a b short (inr (inl x)) (inr (inr y)) = absurd (more_not_one subject_alt_name es x.0 y.0 x.1)
one_text_of_hosts es a b short (inr (inr x)) (inl y) = absurd (more_not_none subject_alt_name es x.0 y.0)
one_text_of_hosts es a b short (inr (inr x)) (inr (inl y)) = absurd (more_not_one subject_alt_name es y.0 x.0 y.1)
one_text_of_hosts es a b short (inr (inr x)) (inr (inr y)) = x.1 ∙ sym y.1
