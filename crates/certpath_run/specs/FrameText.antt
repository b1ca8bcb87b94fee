-- What `frame` and `frame --why` print of a framed stream. Each line ends in LF (10), and a space is 32. This page is to be believed.
use Rattle.std.specs.Prelude.{◌≡◌, ℕ, ◌+◌, List, [], ◌∷◌, ◌++◌, length}
use Rattle.std.specs.Fmt.{decimal}
use Rattle.cert_framing.specs.declared.ending.End.{End}
use Rattle.certpath_run.specs.Report.{end_line}
use Rattle.fault_texts.specs.FaultLines.{IsFaultLine}
use Rattle.fault_texts.specs.declared.lines.Whose.TheVariants.{Items}

-- an item's number, where it begins, and its length in octets, all from 0
abbrev pub item_line : ℕ → ℕ → ℕ → List ℕ
item_line k offset size = decimal k ++ (32 ∷ (decimal offset ++ (32 ∷ (decimal size ++ 10 ∷ []))))

-- a line for each item, from number k at the offset on
abbrev pub item_lines : ℕ → ℕ → List (List ℕ) → List ℕ
item_lines k offset [] = []
item_lines k offset (item ∷ items) = item_line k offset (length item) ++ item_lines (k + 1) (offset + length item) items

-- a line for each item, from number k at the offset on, and of each item that is other a further
-- line with its first fault
abbrev pub AreItemLines : ℕ → ℕ → List (List ℕ) → List ℕ → Type 0
AreItemLines k offset [] text = text ≡ []
AreItemLines k offset (item ∷ items) text =
    (fault rest : List ℕ) × IsFaultLine Items k item fault × AreItemLines (k + 1) (offset + length item) items rest
    × (text ≡ item_line k offset (length item) ++ (fault ++ rest))

-- all these lines, and one for how the stream ends
pub record IsFrameWhy (items : List (List ℕ)) (end : End) (text : List ℕ) : Type 0 where
  pub lines : List ℕ
  pub lines_are : AreItemLines 0 0 items lines
  pub text_is : text ≡ lines ++ end_line end

-- a line for each item, and one for how the stream ends
abbrev pub frame_text : List (List ℕ) → End → List ℕ
frame_text items end = item_lines 0 0 items ++ end_line end
