-- Lines of positions.
use Rattle.std.specs.Prelude.{◌↔◌}
use Rattle.std.proofs.Common.{◌≡◌, refl, ℕ, List, [], ◌∷◌, ◌++◌, Option, Some, None}
use Rattle.cert_reasons.specs.declared.links.Unlinked.{Unlinked}
use Rattle.cert_reasons.specs.declared.links.Unlinked.TheVariants.{NotVouched, KeyIdsDiffer, RevokedBy, NoUsedList}
use Rattle.certpath_why.specs.declared.ranges.Range.{Range}
use Rattle.certpath_why.specs.Lines.{link_end, link_lines}
use Rattle.certpath_why.specs.Listed.{listed}
use Rattle.certpath_why.specs.Ranges.{AreRanges, range_text}
use Rattle.certpath_why.specs.Why.{AreTexts, RevokesFirst, TellsGroup, TellsGroups}

-- ---- their lines

pub ranges_as : {P Q : ℕ → Type 0} (rs : List Range) → ((w : ℕ) → P w ↔ Q w) → AreRanges P rs → AreRanges Q rs
ranges_as rs iff h = record {
  exact = λ p. (λ i. (iff p).0 ((h.exact p).0 i), λ q. (h.exact p).1 ((iff p).1 q));
  apart = h.apart;
  none_empty = h.none_empty;
}

pub group_as : (front : List ℕ) (what : Option Unlinked) (P Q : ℕ → Type 0) (text : List ℕ) → ((w : ℕ) → P w ↔ Q w) → TellsGroup front what P text → TellsGroup front what Q text
group_as front what P Q text iff t = (t.0, ranges_as t.0 iff t.1, t.2)

pub texts_as : {X : Type 0} (P Q : X → List ℕ → Type 0) → ((x : X) (t : List ℕ) → P x t → Q x t) → (xs : List X) (text : List ℕ) → AreTexts P xs text → AreTexts Q xs text
texts_as P Q f [] text e = e
texts_as P Q f (x ∷ xs) text h = (h.0, h.1, f x h.0 h.2, texts_as P Q f xs h.1 h.3, h.4)

-- the first to revoke for a position
first_iff : (F G : Unlinked → ℕ → Type 0) → ((reason : Unlinked) (w : ℕ) → F reason w ↔ G reason w) → (p w : ℕ) → RevokesFirst F p w ↔ RevokesFirst G p w
first_iff F G f p w = (
  λ h. ((f (RevokedBy p) w).0 h.0, λ q lt g. h.1 q lt ((f (RevokedBy q) w).1 g)),
  λ h. ((f (RevokedBy p) w).1 h.0, λ q lt g. h.1 q lt ((f (RevokedBy q) w).0 g)),
)

pub groups_as : (front : List ℕ) (L M : ℕ → Type 0) (F G : Unlinked → ℕ → Type 0) (text : List ℕ) → ((w : ℕ) → L w ↔ M w) → ((reason : Unlinked) (w : ℕ) → F reason w ↔ G reason w) → TellsGroups front L F text → TellsGroups front M G text
groups_as front L M F G text l f t = record {
  linked = t.linked;
  linked_is = group_as front None L M t.linked l t.linked_is;
  unvouched = t.unvouched;
  unvouched_is = group_as front (Some NotVouched) (F NotVouched) (G NotVouched) t.unvouched (f NotVouched) t.unvouched_is;
  differing = t.differing;
  differing_is = group_as front (Some KeyIdsDiffer) (F KeyIdsDiffer) (G KeyIdsDiffer) t.differing (f KeyIdsDiffer) t.differing_is;
  lists = t.lists;
  lists_ascend = t.lists_ascend;
  lists_are_all = λ p w g. t.lists_are_all p w ((first_iff F G f p w).1 g);
  revoked = t.revoked;
  revoked_is = texts_as (λ p. TellsGroup front (Some (RevokedBy p)) (RevokesFirst F p)) (λ p. TellsGroup front (Some (RevokedBy p)) (RevokesFirst G p))
      (λ p s h. group_as front (Some (RevokedBy p)) (RevokesFirst F p) (RevokesFirst G p) s (first_iff F G f p) h) t.lists t.revoked t.revoked_is;
  lacking = t.lacking;
  lacking_is = group_as front (Some NoUsedList) (F NoUsedList) (G NoUsedList) t.lacking (f NoUsedList) t.lacking_is;
  text_is = t.text_is;
}

pub line_is : (front : List ℕ) (what : Option Unlinked) (rs : List Range) → (rs ≡ [] → ⊥) → link_lines front what rs ≡ front ++ (listed range_text rs ++ link_end what)
line_is front what [] some = absurd (some refl)
line_is front what (r ∷ rs) some = refl
