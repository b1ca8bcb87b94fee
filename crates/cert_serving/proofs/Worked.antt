-- What the definitions say of worked cases.
use Rattle.std.proofs.Common.{◌≡◌, ◌∙◌, ap, sym, subst, refl, ℕ, ◌^◌, ◌<◌, List, [], ◌∷◌, ◌++◌, length, arith, lit<, lit≤, inl, inr}
use Rattle.std.specs.List.{AllByRecursion, Contains}
use Rattle.std.specs.Str.{IsAscii}
use Rattle.std.proofs.lemmas.Str.{IsAscii-append}
use Rattle.std.proofs.lemmas.Str.Ascii.{IsAscii-nil, IsAscii-push}
use Rattle.std.proofs.lemmas.List.Elements.{Contains-push}
use Rattle.cert_model.specs.Fields.{Extension}
use Rattle.cert_purpose.specs.Found.{AreMore}
use Rattle.cert_purpose.proofs.Ones.{without_none, one_not_none, more_not_one}
use Rattle.host_names.specs.Asked.{Asked, name, address}
use Rattle.std.specs.Prelude.{IsTrue}
use Rattle.host_names.specs.Hosts.{is_name_octet, IsLabel, Matches}
use Rattle.host_names.specs.Examples.{a_b, w_a_b, star_a_b}
use Rattle.cert_serving.specs.GeneralNames.{GeneralName, IsGeneralName, general_names_octets, AreGeneralNames}
use Rattle.cert_serving.specs.Serving.{subject_alt_name, IsNameOf, HasNameOf, Serves}
use Rattle.cert_serving.specs.Examples.{alternative, dns, ip, naming, four, four_written, four_in_sixteen, empty_value}
use Rattle.cert_serving.proofs.Once.{single, only_names, only_name}
use Rattle.cert_serving.proofs.Written.{none_of}

ascii : (bs : List ℕ) → AllByRecursion (λ b. b < 128) bs → IsAscii bs
ascii [] h = IsAscii-nil
ascii (b ∷ bs) h = IsAscii-append (b ∷ []) bs (IsAscii-push [] b IsAscii-nil h.0) (ascii bs h.1)

one_general : (g : GeneralName) → IsGeneralName g → AreGeneralNames (general_names_octets (g ∷ [])) (g ∷ [])
one_general g is = record { some = λ e. cc; each = (is, tt); spelled = refl }

-- by the one name of a certificate
pub serves_by : (host : Asked) (g : GeneralName) → IsGeneralName g → IsNameOf host g → Serves host (naming g)
serves_by host g is of = (general_names_octets (g ∷ []), single (general_names_octets (g ∷ [])), (g ∷ [], one_general g is, (g, Contains-push [] g, of)))

pub serves_not : (host : Asked) (g : GeneralName) → length (general_names_octets (g ∷ [])) < 2 ^ 64 → IsGeneralName g → (IsNameOf host g → ⊥) → Serves host (naming g) → ⊥
serves_not host g small is not s = not (only_name host g (only_names host (general_names_octets (g ∷ [])) (g ∷ []) small (one_general g is) s))

pub star_is : IsGeneralName (dns star_a_b)
star_is = ascii star_a_b (lit< tt, (lit< tt, (lit< tt, (lit< tt, (lit< tt, tt)))))

pub written_is : IsGeneralName (dns four_written)
written_is = ascii four_written (lit< tt, (lit< tt, (lit< tt, (lit< tt, (lit< tt, (lit< tt, (lit< tt, tt)))))))

pub none_serves : (host : Asked) → Serves host [] → ⊥
none_serves host s = one_not_none subject_alt_name [] s.0 s.1 (without_none subject_alt_name)

two : (value : List ℕ) → AreMore subject_alt_name (alternative value ∷ alternative value ∷ [])
two value = record {
  front = [];
  first = alternative value;
  middle = [];
  second = alternative value;
  back = [];
  place = refl;
  is_first = refl;
  is_second = refl;
}

pub two_serve : (host : Asked) (value : List ℕ) → Serves host (alternative value ∷ alternative value ∷ []) → ⊥
two_serve host value s = more_not_one subject_alt_name (alternative value ∷ alternative value ∷ []) s.0 (two value) s.1

-- ---- one by one

label_of : (x : ℕ) → IsTrue (is_name_octet x) → IsLabel (x ∷ [])
label_of x is = record { some = λ e. cc; octets = (is, tt) }

star_matches : Matches star_a_b w_a_b
star_matches = inr (record {
  star = refl;
  stands_for = label_of 119 refl;
  behind = lit≤ tt;
  spelled_out = record { labels = (label_of 97 refl, (label_of 98 refl, tt)); same = refl };
})

pub star_serves : Serves (name w_a_b) (naming (dns star_a_b))
star_serves = serves_by (name w_a_b) (dns star_a_b) star_is (refl, star_matches)

no_match : Matches star_a_b a_b → ⊥
no_match h = elim h [ inl s ↦ let e = s.same in cc | inr s ↦ let e = s.spelled_out.same in cc ]

pub star_never_none : Serves (name a_b) (naming (dns star_a_b)) → ⊥
star_never_none = serves_not (name a_b) (dns star_a_b) (lit< tt) star_is (λ h. no_match h.1)

pub own_serves : Serves (address four) (naming (ip four))
own_serves = serves_by (address four) (ip four) tt (refl, refl)

pub written_never : Serves (address four) (naming (dns four_written)) → ⊥
written_never = serves_not (address four) (dns four_written) (lit< tt) written_is (λ h. let e = h.0 in cc)

pub sixteen_never : Serves (address four) (naming (ip four_in_sixteen)) → ⊥
sixteen_never = serves_not (address four) (ip four_in_sixteen) (lit< tt) tt (λ h. let e = h.1 in cc)

pub address_no_name : Serves (name four_written) (naming (ip four)) → ⊥
address_no_name = serves_not (name four_written) (ip four) (lit< tt) tt (λ h. let e = h.0 in cc)
