-- Worked lines of certificates, and a path by them.
use Rattle.std.specs.Prelude.{codes}
use Rattle.std.proofs.Common.{sym, refl, inl, inr, false, nat_eq, List, [], ◌∷◌, ◌++◌}
use Rattle.std.proofs.lemmas.List.{append-nil}
use Rattle.cert_judge.specs.Examples.{anchor_named, certificate_item, in_june, numbered, too_late, vouching_for_all, vouching_for_both}
use Rattle.cert_judge.specs.Further.{no_identifier}
use Rattle.cert_judge.specs.LawsOfItems.{rules_from}
use Rattle.cert_judge.specs.Revoking.{Item}
use Rattle.cert_judge.proofs.ExampleLists.{path_of_two, target_usable}
use Rattle.cert_model.specs.Examples.{authority_b, issued_by_b, plain}
use Rattle.cert_reasons.specs.declared.certificates.Unusable.TheVariants as unusable
use Rattle.cert_reasons.specs.declared.issuers.NoIssuer.TheVariants as issuing
use Rattle.cert_reasons.proofs.Certain.{all_of_usable}
use Rattle.cert_reasons.proofs.Worked.{end_entity, expired}
use Rattle.certpath_why.specs.Laws.{IsUncountedPath}
use Rattle.certpath_why.specs.LawsOfLines.{IsDecided, IsPathByLines}
use Rattle.certpath_why.specs.Lines.{at_words, issuer_line, unusable_line}
use Rattle.certpath_why.specs.Why.{AreNoIssuerLines, AreUnusableLines}
use Rattle.certpath_why.proofs.Untold.{path_iff}

pub usable_untold : AreUnusableLines (rules_from in_june false (vouching_for_both 1 2)) 0 (numbered 1 issued_by_b) issued_by_b []
usable_untold = ([], all_of_usable no_identifier in_june issued_by_b target_usable, refl)

pub expired_told : AreUnusableLines (rules_from too_late false (vouching_for_both 1 2)) 3 (certificate_item plain) plain (at_words 3 ++ codes " not usable: expired 2026-01-01T00:00:00\n")
expired_told = (unusable.Expired ∷ [], expired, sym (append-nil (unusable_line 3 plain unusable.Expired)))

pub issuer_told : AreNoIssuerLines (nat_eq 1 0) 1 plain (at_words 1 ++ codes " no issuer: no authority\n")
issuer_told = (issuing.NoAuthority ∷ [], end_entity, sym (append-nil (issuer_line 1 issuing.NoAuthority)))

pub target_untold : AreNoIssuerLines (nat_eq 0 0) 0 plain []
target_untold = (issuing.NoAuthority ∷ [], end_entity, refl)

abbrev items : List Item
items = certificate_item issued_by_b ∷ certificate_item authority_b ∷ []

abbrev under_c : List Item
under_c = certificate_item (anchor_named 0x63) ∷ []

uncounted : IsUncountedPath (vouching_for_all false) items under_c 0 (0 ∷ 1 ∷ []) 0
uncounted = record {
  issuers = path_of_two.issuers;
  starts = path_of_two.starts;
  usable = path_of_two.usable;
  fit = path_of_two.fit;
  linked = path_of_two.linked;
  anchored = path_of_two.anchored;
  limits = λ front back v e. tt;
}

all_decided : IsDecided (vouching_for_all false)
all_decided = record { vouched = λ key item. inl tt; processed = λ item identifier. inr (λ p. p) }

pub path_shown : IsPathByLines (vouching_for_all false) items under_c 0 (0 ∷ 1 ∷ []) 0
path_shown = (path_iff (vouching_for_all false) all_decided items under_c 0 (0 ∷ 1 ∷ []) 0).1 uncounted
