-- What the code keeps of items: the name of each one's issuer, and what it shows as a key holder.
use Rattle.std.specs.Prelude.{◌≡◌, ◌<◌, ◌-◌, ℕ, List, length, map, option_map, slice_index_or, nat_lt, if◌then◌else◌}
use Rattle.cert_graph.specs.declared.places.Place.{Place}
use Rattle.cert_model.specs.Class.{Class}
use Rattle.cert_judge.specs.Revoking.{Item}
use Rattle.cert_questions.specs.declared.names.Shown.{Shown}
use Rattle.cert_questions.specs.declared.question.KeyHolder.{KeyHolder}
use Rattle.cert_questions.specs.declared.question.KeyHolder.TheVariants.{Item as item_holder, Anchor as anchor_holder}
use Rattle.cert_questions.specs.declared.question.Question.{Question}
use Rattle.cert_questions.specs.Shown.{issuer_of, subject_of, key_of}

-- what an item of this class shows
pub record IsShownOf (class : Class) (s : Shown) : Type 0 where
  pub issuer : option_map (λ t. t.now) s.issuer ≡ issuer_of class
  pub name : option_map (λ t. t.now) s.holder.name ≡ subject_of class
  pub key : option_map (λ t. t.now) s.holder.key ≡ key_of class

-- what items show, in their order
pub record AreShown (items : List Item) (all : List Shown) : Type 0 where
  pub count : length all ≡ length items
  pub each : (v : ℕ) (x : Item) (s : Shown) → v < length items → IsShownOf (slice_index_or items v x).class (slice_index_or all v s)

-- the key holders among items, and then among anchors
abbrev pub places_of : List Shown → List Place
places_of all = map (λ s. s.holder) all

-- the key holder at a place, after so many items an anchor
abbrev pub holder_at : ℕ → ℕ → KeyHolder
holder_at items h = if nat_lt h items then item_holder h else anchor_holder (h - items)

abbrev pub asked_of : ℕ → ℕ → ℕ → Question
asked_of items v h = record { item = v; holder = holder_at items h }
