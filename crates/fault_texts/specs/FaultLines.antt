-- The lines of items that are other: the first fault of each. Each line ends in LF (10), and a space is 32. This page is to be believed.
use Rattle.std.specs.Prelude.{◌≡◌, ℕ, ◌+◌, ◌-◌, ◌==◌, zero, suc, if◌then◌else◌, List, [], ◌∷◌, ◌++◌, Option, None, Some, codes}
use Rattle.std.specs.List.{slice_get}
use Rattle.std.specs.Fmt.{decimal}
use Rattle.cert_faults.specs.Fault.{IsFirstFault}
use Rattle.cert_faults.specs.declared.fault.Fault.{Fault}
use Rattle.cert_judge.specs.Revoking.{Item}
use Rattle.cert_model.specs.Class.{Class, IsClassOf, certificate, list, other}
use Rattle.fault_texts.specs.declared.lines.Whose.{Whose}
use Rattle.fault_texts.specs.declared.lines.Whose.TheVariants.{Items, Anchors}
use Rattle.fault_texts.specs.FaultText.{fault_text}

-- how the item at a position begins its line
abbrev pub other_words : Whose → ℕ → List ℕ
other_words Items k = codes "other " ++ (decimal k ++ 32 ∷ [])
other_words Anchors k = codes "other anchor " ++ (decimal k ++ 32 ∷ [])

abbrev pub fault_line : Whose → ℕ → Fault → List ℕ
fault_line whose k f = other_words whose k ++ (fault_text f ++ 10 ∷ [])

-- octets that are other have a line with their first fault, and no other octets have one
pub data IsFaultLine (whose : Whose) (k : ℕ) (s line : List ℕ) : Type 0 where
  of_other : (f : Fault) → IsClassOf s other → IsFirstFault s f → line ≡ fault_line whose k f → IsFaultLine whose k s line
  of_none : (IsClassOf s other → ⊥) → line ≡ [] → IsFaultLine whose k s line

-- exactly that line is appended
abbrev pub AppendsFault : Whose → ℕ → List ℕ → List ℕ → List ℕ → Type 0
AppendsFault whose k s old new = (line : List ℕ) × (new ≡ old ++ line) × IsFaultLine whose k s line

-- P of an item that is other, else Q
abbrev pub OtherOr : Class → Type 0 → Type 0 → Type 0
OtherOr (certificate c) P Q = Q
OtherOr (list l) P Q = Q
OtherOr other P Q = P

-- the line of the target, if there is one and it is other
abbrev pub IsTargetLine : Option Item → ℕ → List ℕ → Type 0
IsTargetLine None target line = line ≡ []
IsTargetLine (Some x) target line = OtherOr x.class (IsFaultLine Items target x.octets line) (line ≡ [])

-- the lines of anchors from number k on that are other, of the first `left` of these
abbrev pub AreAnchorLines : ℕ → ℕ → List Item → List ℕ → Type 0
AreAnchorLines k left [] text = text ≡ []
AreAnchorLines k zero (x ∷ xs) text = text ≡ []
AreAnchorLines k (suc left) (x ∷ xs) text =
    OtherOr x.class ((line rest : List ℕ) × IsFaultLine Anchors k x.octets line × AreAnchorLines (k + 1) left xs rest × (text ≡ line ++ rest))
    (AreAnchorLines (k + 1) (suc left) xs text)

abbrev pub one_other : Class → ℕ
one_other (certificate c) = 0
one_other (list l) = 0
one_other other = 1

-- how many items are other
abbrev pub others_among : List Item → ℕ
others_among [] = 0
others_among (x ∷ xs) = one_other x.class + others_among xs

-- so many anchors have a line at most
abbrev pub most_lines : ℕ
most_lines = 20

-- how many further ones are other
abbrev pub more_line : ℕ → List ℕ
more_line n = if n == 0 then [] else codes "other anchors and " ++ (decimal n ++ codes " more\n")

-- why the target, and each anchor, is other
pub record AreFaultLines (items : List Item) (target : ℕ) (anchors : List Item) (text : List ℕ) : Type 0 where
  pub own : List ℕ
  pub own_is : IsTargetLine (slice_get items target) target own
  pub lines : List ℕ
  pub lines_are : AreAnchorLines 0 most_lines anchors lines
  pub text_is : text ≡ own ++ (lines ++ more_line (others_among anchors - most_lines))

-- exactly those lines are appended
abbrev pub AppendsFaults : List Item → ℕ → List Item → List ℕ → List ℕ → Type 0
AppendsFaults items target anchors old new = (text : List ℕ) × (new ≡ old ++ text) × AreFaultLines items target anchors text
