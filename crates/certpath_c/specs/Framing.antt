-- What `certpath_frame` returns.
use Rattle.std.specs.Prelude.{◌≡◌, ◌⊎◌, ◌+◌, ℕ, ℤ, Bool, true, false, List, [], ◌∷◌, length}
use Rattle.cert_framing.specs.declared.ending.End.{End}
use Rattle.cert_framing.specs.declared.ending.End.TheVariants.{Clean, Cut, Fault}
use Rattle.cert_framing.specs.Framing.{IsFraming}
use Rattle.certpath_c.specs.declared.framing.Span.{Span}
use Rattle.certpath_c.specs.declared.framing.Framed.{Framed}
use Rattle.certpath_c.specs.Status.{done, out_of_memory, too_small}
use Rattle.certpath_c.specs.Writing.{Puts}

-- where items lie that follow one another from an offset on
abbrev pub spans_of : ℕ → List (List ℕ) → List Span
spans_of offset [] = []
spans_of offset (item ∷ items) = record { offset = offset; length = length item } ∷ spans_of (offset + length item) items

-- the numbers of the header
abbrev pub end_number : End → ℕ
end_number Clean = 0
end_number (Cut at) = 1
end_number (Fault at) = 2

-- where what is left begins
abbrev pub end_place : ℕ → End → ℕ
end_place octets Clean = octets
end_place octets (Cut at) = at
end_place octets (Fault at) = at

-- the octets were cut into items, and their spans put into the buffer, or not, if they don't fit
pub record IsFramed (octets : List ℕ) (limit : ℕ) (spans spans' : List Span) (framed' : Framed) (fits : Bool) : Type 0 where
  pub items : List (List ℕ)
  pub end : End
  pub framing : IsFraming limit octets items end
  pub count : framed'.count ≡ length items
  pub at : framed'.at ≡ end_place (length octets) end
  pub end_is : framed'.end ≡ end_number end
  pub written : Puts spans spans' (spans_of 0 items) fits

-- without memory nothing was written at all
abbrev pub FrameAnswer : List ℕ → ℕ → List Span → List Span → Framed → Framed → ℤ → Type 0
FrameAnswer octets limit spans spans' framed framed' status =
    ((status ≡ done) × IsFramed octets limit spans spans' framed' true)
    ⊎ ((status ≡ too_small) × IsFramed octets limit spans spans' framed' false)
    ⊎ ((status ≡ out_of_memory) × (spans' ≡ spans) × (framed' ≡ framed))
