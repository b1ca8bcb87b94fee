-- Identifiers that stood before, in a set.
use Rattle.std.proofs.Common.{◌≡◌, ◌∙◌, ap, sym, refl, ℕ, Bool, true, false, List, [], ◌∷◌, ◌++◌, append_assoc, Bor, cond, if◌then◌else◌}
use Rattle.std.specs.BTreeSet as ordered
use Rattle.std.specs.BTreeSet.{BTreeSet}
use Rattle.std.specs.Ordering.{nat_cmp, eq_by_cmp}
use Rattle.std.specs.Cmp.Lexicographic.{slice_cmp}
use Rattle.asn1_oid.specs.Text.{oid_text}
use Rattle.std.proofs.lemmas.List.{append-nil}
use Rattle.x509_ext_policies.specs.Reading.{has}
use Rattle.x509_ext_policies.proofs.PurposeLaws.{kept_more, by_octets}
use Rattle.x509_validate.specs.Messages.{Message, message, fatal}
use Rattle.x509_validate.specs.Repeats.{repeat_messages}
use Rattle.x509_validate.specs.Before.{IsHeld, Left}

by_test : (text : List ℕ) (kept : List (List ℕ)) (id : List ℕ) (rest : List (List ℕ)) (b : Bool) → has id kept ≡ b
    → repeat_messages text kept (id ∷ rest) ≡ (if b then message fatal (text ++ oid_text id) ∷ repeat_messages text kept rest else repeat_messages text (kept ++ id ∷ []) rest)
by_test text kept id rest b e = ap (λ z. if z then message fatal (text ++ oid_text id) ∷ repeat_messages text kept rest else repeat_messages text (kept ++ id ∷ []) rest) e

pub again : (text : List ℕ) (whole said : List Message) (seen : BTreeSet (Bor (List ℕ))) (id : Bor (List ℕ)) (rest : List (List ℕ)) → Left text whole said seen (id.now ∷ rest)
    → ordered.contains by_octets seen id ≡ true → Left text whole (said ++ message fatal (text ++ oid_text id.now) ∷ []) seen rest
again text whole said seen id rest p e = record {
  kept = p.kept;
  holds = p.holds;
  sum = append_assoc said (message fatal (text ++ oid_text id.now) ∷ []) (repeat_messages text p.kept rest)
      ∙ ap (λ z. said ++ z) (sym (by_test text p.kept id.now rest true (sym (p.holds id) ∙ e))) ∙ p.sum;
}

pub anew : (text : List ℕ) (whole said : List Message) (seen more : BTreeSet (Bor (List ℕ))) (id : Bor (List ℕ)) (rest : List (List ℕ)) → Left text whole said seen (id.now ∷ rest)
    → ordered.contains by_octets seen id ≡ false
    → ((s : Bor (List ℕ)) → ordered.contains by_octets more s ≡ cond (eq_by_cmp (slice_cmp nat_cmp) id.now s.now) true (ordered.contains by_octets seen s))
    → Left text whole said more rest
anew text whole said seen more id rest p e updates = record {
  kept = p.kept ++ id.now ∷ [];
  holds = kept_more p.kept seen more id p.holds updates;
  sum = ap (λ z. said ++ z) (sym (by_test text p.kept id.now rest false (sym (p.holds id) ∙ e))) ∙ p.sum;
}

pub begun : (text : List ℕ) (said : List Message) (seen : BTreeSet (Bor (List ℕ))) (ids : List (List ℕ)) → IsHeld [] seen → Left text (said ++ repeat_messages text [] ids) said seen ids
begun text said seen ids none = record { kept = []; holds = none; sum = refl }

pub ended : (text : List ℕ) (whole said : List Message) (seen : BTreeSet (Bor (List ℕ))) → Left text whole said seen [] → said ≡ whole
ended text whole said seen p = sym (append-nil said) ∙ p.sum
