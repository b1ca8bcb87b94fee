-- The worked path, without path lengths, and its link.
use Rattle.std.proofs.Common.{◌≡◌, ap, subst, sym, refl, zero, suc, ℕ, ◌^◌, ◌<◌, false, List, [], ◌∷◌, length, arith, inr, lit<}
use Rattle.std.specs.Prelude.{Contains, codes}
use Rattle.cert_judge.specs.Examples.{in_june, numbered, told_apart, vouching_for_both}
use Rattle.cert_judge.specs.LawsOfItems.{rules_from}
use Rattle.cert_judge.specs.Revoking.{Item, JudgingContext}
use Rattle.cert_judge.proofs.ExampleLaws.{path_by_both}
use Rattle.cert_judge.proofs.ExampleLists.{names_no_key}
use Rattle.cert_model.specs.Class.{certificate}
use Rattle.cert_model.specs.Examples.{authority_b, issued_by_b}
use Rattle.cert_model.specs.Fields.{Certificate, Extension}
use Rattle.cert_model.specs.Octets.{key_octets, name_octets}
use Rattle.cert_judge.specs.ItemGraph.{KeyIdsAgree}
use Rattle.cert_judge.proofs.Grouping.{one_certificate}
use Rattle.cert_purpose.specs.Examples.{usage}
use Rattle.cert_reasons.specs.Links.{HasLinkReason}
use Rattle.cert_serving.specs.Examples.{alternative, star_value}
use Rattle.cert_reasons.specs.declared.links.Unlinked.{Unlinked}
use Rattle.certpath_why.specs.Examples.{for_others}
use Rattle.certpath_why.specs.Hosts.{AreHostsWords}
use Rattle.certpath_why.specs.Laws.{AreShort, IsUncountedPath}
use Rattle.certpath_why.specs.Reached.{HasSubject}
use Rattle.certpath_why.specs.Uses.{AreUsesWords}
use Rattle.certpath_why.specs.Why.{FailsTo, IsLinkedTo}
use Rattle.laws_judge.specs.Worked.{under_c}
use Rattle.laws_paths.specs.Worked.{two_positions}
use Rattle.laws_judge.proofs.OfReasons.{issued, no_link_reason}

abbrev both : JudgingContext
both = rules_from in_june false (vouching_for_both 1 2)

pub uncounted : IsUncountedPath both told_apart under_c 0 two_positions 0
uncounted = record {
  issuers = path_by_both.issuers;
  starts = path_by_both.starts;
  usable = path_by_both.usable;
  fit = path_by_both.fit;
  linked = path_by_both.linked;
  anchored = path_by_both.anchored;
  limits = λ front back v e. tt;
}

pub second : Contains two_positions 1
second = (1, lit< tt, refl)

pub linked : IsLinkedTo both told_apart (numbered 1 issued_by_b) 1
linked = (lit< tt, λ d. (issued_by_b, refl, (authority_b, refl, (issued, names_no_key))))

pub subject : HasSubject told_apart (name_octets issued_by_b.issuer) 1
subject = (lit< tt, λ d. (authority_b, refl, refl))

pub none_fails : (reason : Unlinked) → FailsTo both told_apart (numbered 1 issued_by_b) issued_by_b reason 1 → ⊥
none_fails reason h =
    let f = h.1 (numbered 2 authority_b) in
    let same = one_certificate (certificate authority_b) f.0 authority_b f.1 refl in
    let there =
    subst (λ (d : Certificate). HasLinkReason both told_apart (numbered 1 issued_by_b) issued_by_b (name_octets d.subject) (key_octets d.key) (KeyIdsAgree issued_by_b d) reason) same f.2.1 in
    no_link_reason (KeyIdsAgree issued_by_b authority_b) names_no_key reason there

-- two extensions with short values
short_value : (x e : Extension) → length x.value < 2 ^ 64 → x ≡ e → length e.value < 2 ^ 64
short_value x e small is = subst (λ (y : Extension). length y.value < 2 ^ 64) is small

short_both : (x : Extension) → length x.value < 2 ^ 64 → AreShort (x ∷ x ∷ [])
short_both x small e (zero, lt, is) = short_value x e small is
short_both x small e (suc zero, lt, is) = short_value x e small is
short_both x small e (suc (suc k), lt, is) = absurd (omega (arith, lt))

pub short_uses : AreShort (usage for_others ∷ usage for_others ∷ [])
short_uses = short_both (usage for_others) (lit< tt)

pub short_hosts : AreShort (alternative star_value ∷ alternative star_value ∷ [])
short_hosts = short_both (alternative star_value) (lit< tt)

pub uses : AreUsesWords (usage for_others ∷ usage for_others ∷ []) (codes "it has more than one extKeyUsage")
uses = inr (record { front = []; first = usage for_others; middle = []; second = usage for_others; back = []; place = refl; is_first = refl; is_second = refl }, refl)

pub hosts : AreHostsWords (alternative star_value ∷ alternative star_value ∷ []) (codes "it has more than one subjectAltName")
hosts =
    inr (inr (
      record { front = []; first = alternative star_value; middle = []; second = alternative star_value; back = []; place = refl; is_first = refl; is_second = refl },
      refl,
    ))

pub another : (numbered 2 issued_by_b).octets ≡ 1 ∷ [] → ⊥
another e = cc
