-- What the definitions say of worked demands.
use Rattle.std.specs.Prelude.{codes}
use Rattle.std.proofs.Common.{◌≡◌, sym, subst, refl, ℕ, List, [], ◌∷◌, ◌++◌, inl, inr, arith, lit<}
use Rattle.std.specs.List.{Contains}
use Rattle.std.proofs.lemmas.List.{append-nil}
use Rattle.std.proofs.lemmas.List.Elements.{Contains-push_cases}
use Rattle.std.proofs.lemmas.Str.Ascii.{IsAscii-nil, IsAscii-push}
use Rattle.asn1_oid.specs.Identifier.{IsOidContent, subidentifier_octets}
use Rattle.cert_model.specs.Octets.{sequence_octets}
use Rattle.cert_judge.specs.Revoking.{Item}
use Rattle.cert_purpose.specs.Purposes.{extended_key_usage, IsOneUnder, ArePurposes, AreFor, Allows, any_purpose}
use Rattle.cert_purpose.specs.Examples.{server_auth, usage}
use Rattle.cert_purpose.proofs.Ones.{without_none, one_of_one, one_not_none}
use Rattle.cert_serving.specs.GeneralNames.{IsGeneralName, general_names_octets}
use Rattle.cert_serving.specs.Serving.{subject_alt_name, Serves}
use Rattle.cert_serving.specs.Examples.{dns, naming}
use Rattle.cert_serving.proofs.Once.{single}
use Rattle.cert_serving.proofs.Worked.{serves_not}
use Rattle.host_names.specs.Asked.{name}
use Rattle.host_names.specs.Examples.{a_b, w_a_b}
use Rattle.host_names.specs.Hosts.{Matches}
use Rattle.purpose_names.specs.Names.{identifier_of}
use Rattle.purpose_names.specs.declared.naming.NamedPurpose.{NamedPurpose}
use Rattle.purpose_names.specs.declared.naming.NamedPurpose.TheVariants.{ServerAuth, ClientAuth, CodeSigning, EmailProtection, TimeStamping, OcspSigning}
use Rattle.certpath_why.specs.Demanded.{purpose_line, host_line, AreDemandLines}
use Rattle.certpath_why.specs.Examples.{others, for_others, of_others, of_a_b, for_server, for_w_a_b}
use Rattle.certpath_why.specs.Hosts.{AreHostsWords}
use Rattle.certpath_why.specs.Lines.{at_words}
use Rattle.certpath_why.specs.Uses.{AreUsesWords}
use Rattle.cert_reasons.proofs.Once.{purposes_once, no_purposes_in}

-- ---- purposes

single_usage : (value : List ℕ) → IsOneUnder extended_key_usage (usage value ∷ []) value
single_usage value = record {
  front = [];
  extension = usage value;
  back = [];
  place = refl;
  under = refl;
  before = without_none extended_key_usage;
  behind = without_none extended_key_usage;
  value_is = refl;
}

named_oid : (p : NamedPurpose) → IsOidContent (identifier_of p)
unfolding subidentifier_octets
named_oid ServerAuth = record { subidentifiers = identifier_of ServerAuth; some = λ e. cc; spelled = refl }
named_oid ClientAuth = record { subidentifiers = identifier_of ClientAuth; some = λ e. cc; spelled = refl }
named_oid CodeSigning = record { subidentifiers = identifier_of CodeSigning; some = λ e. cc; spelled = refl }
named_oid EmailProtection = record { subidentifiers = identifier_of EmailProtection; some = λ e. cc; spelled = refl }
named_oid TimeStamping = record { subidentifiers = identifier_of TimeStamping; some = λ e. cc; spelled = refl }
named_oid OcspSigning = record { subidentifiers = identifier_of OcspSigning; some = λ e. cc; spelled = refl }

others_are : ArePurposes for_others others
others_are = record { some = λ e. cc; each = (named_oid ClientAuth, (named_oid EmailProtection, tt)); spelled = refl }

uses_others : AreUsesWords (usage for_others ∷ []) (codes "it is for clientAuth, emailProtection")
uses_others = inl (for_others, single_usage for_others, inl (others, others_are, refl))

none_there : (x : List ℕ) → Contains {X = List ℕ} [] x → ⊥
none_there x h = omega (arith, h.1)

not_among : (x : List ℕ) → (x ≡ identifier_of ClientAuth → ⊥) → (x ≡ identifier_of EmailProtection → ⊥) → Contains others x → ⊥
not_among x a b h = elim (Contains-push_cases (identifier_of ClientAuth ∷ []) (identifier_of EmailProtection) x h) [
  | inl c ↦ elim (Contains-push_cases [] (identifier_of ClientAuth) x c) [ inl d ↦ absurd (none_there x d) | inr e ↦ a (sym e) ]
  | inr e ↦ b (sym e)
]

not_for : AreFor server_auth others → ⊥
not_for h = elim h [ inl c ↦ not_among server_auth (λ e. cc) (λ e. cc) c | inr c ↦ not_among any_purpose (λ e. cc) (λ e. cc) c ]

not_allowed : Allows server_auth (usage for_others ∷ []) → ⊥
not_allowed h = elim h [
  | inl w ↦ one_not_none extended_key_usage (usage for_others ∷ []) for_others (single_usage for_others) w
  | inr w ↦
      let same = one_of_one extended_key_usage (usage for_others ∷ []) w.0 for_others w.1 (single_usage for_others) in
      let are = subst (λ v. ArePurposes v w.2.0) same w.2.1 in
      not_for (subst (AreFor server_auth) (purposes_once for_others w.2.0 others (lit< tt) are others_are) w.2.2)
]

pub purpose_told : (target : List ℕ) (x : Item) → AreDemandLines for_server target 1 x of_others (at_words 1 ++ codes " isn't for serverAuth: it is for clientAuth, emailProtection\n")
purpose_told target x =
    let words = codes "it is for clientAuth, emailProtection" in
    let line = purpose_line 1 (codes "serverAuth") words in
    record { purpose = line; purpose_is = inr (not_allowed, (words, uses_others, refl)); host = []; host_is = inl (λ e. tt, refl); text_is = sym (append-nil line) }

pub two_told : AreUsesWords (usage for_others ∷ usage for_others ∷ []) (codes "it has more than one extKeyUsage")
two_told = inr (record { front = []; first = usage for_others; middle = []; second = usage for_others; back = []; place = refl; is_first = refl; is_second = refl }, refl)

pub empty_told : AreUsesWords (usage (0x30 ∷ 0x00 ∷ []) ∷ []) (codes "its extKeyUsage isn't well written")
empty_told = inl (sequence_octets [], single_usage (sequence_octets []), inr (no_purposes_in, refl))

-- ---- hosts

a_b_is : IsGeneralName (dns a_b)
a_b_is = IsAscii-push (97 ∷ 46 ∷ []) 98 (IsAscii-push (97 ∷ []) 46 (IsAscii-push [] 97 IsAscii-nil (lit< tt)) (lit< tt)) (lit< tt)

no_match : Matches a_b w_a_b → ⊥
no_match h = elim h [ inl s ↦ let e = s.same in cc | inr s ↦ let e = s.star in cc ]

not_served : Serves (name w_a_b) (naming (dns a_b)) → ⊥
not_served = serves_not (name w_a_b) (dns a_b) (lit< tt) a_b_is (λ h. no_match h.1)

names_a_b : AreHostsWords (naming (dns a_b)) (codes "it names a.b")
names_a_b = inr (inl (general_names_octets (dns a_b ∷ []), single (general_names_octets (dns a_b ∷ [])), inl (dns a_b ∷ [], record { some = λ e. cc; each = (a_b_is, tt); spelled = refl }, refl)))

pub host_told : (x : Item) → AreDemandLines for_w_a_b x.octets 0 x of_a_b (at_words 0 ++ codes " doesn't serve w.A.b: it names a.b\n")
host_told x =
    let words = codes "it names a.b" in
    record { purpose = []; purpose_is = inl (tt, refl); host = host_line 0 (codes "w.A.b") words; host_is = inr (λ s. not_served (s refl), (words, names_a_b, refl)); text_is = refl }

pub issuer_untold : (target : List ℕ) (x : Item) → (x.octets ≡ target → ⊥) → AreDemandLines for_w_a_b target 1 x of_a_b []
issuer_untold target x apart = record { purpose = []; purpose_is = inl (tt, refl); host = []; host_is = inl (λ e. absurd (apart e), refl); text_is = refl }

pub no_name_told : AreHostsWords [] (codes "it names no host")
no_name_told = inl (without_none subject_alt_name, refl)
