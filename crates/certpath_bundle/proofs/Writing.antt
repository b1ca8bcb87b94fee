-- Octets that are written one after another.
use Rattle.std.proofs.Common.{◌≡◌, ◌∙◌, sym, ap, subst, refl, ℕ, ◌+◌, ◌<◌, ◌≤◌, List, [], ◌∷◌, ◌++◌, length, take, drop, get_or, append_assoc, take-append-drop, add-one}
use Rattle.std.specs.Prelude.{Option}
use Rattle.std.specs.Io.KnownBytes.{Appends}
use Rattle.std.specs.List.{flat_map}
use Rattle.std.proofs.KnownBytes.{Appends-trans}
use Rattle.std.proofs.lemmas.List.{take_more, take_all, flat_map_more}
use Rattle.std.proofs.Math.Seq.{drop-cons}
use Rattle.asn1_device.specs.Counts.{AppendsFront}

-- the octets of the elements so far were written
abbrev pub Wrote : {X : Type 0} → (X → List ℕ) → List X → ℕ → Option (List ℕ) → Option (List ℕ) → Type 0
Wrote f xs k old new = Appends old new (flat_map f (take k xs))

pub wrote_more : {X : Type 0} (f : X → List ℕ) (xs : List X) (k : ℕ) (d : X) (old mid new : Option (List ℕ)) → k < length xs → Wrote f xs k old mid → Appends mid new (f (get_or xs k d)) → Wrote f xs (k + 1) old new
wrote_more f xs k d old mid new lt before more =
    subst (Appends old new) (flat_map_more f [] (take k xs) (get_or xs k d) ∙ ap (flat_map f) (sym (take_more xs k d lt)))
    (Appends-trans old mid new (flat_map f (take k xs)) (f (get_or xs k d)) before more)

pub wrote_all : {X : Type 0} (f : X → List ℕ) (xs : List X) (k : ℕ) (old new : Option (List ℕ)) → length xs ≤ k → Wrote f xs k old new → Appends old new (flat_map f xs)
wrote_all f xs k old new le before = subst (λ l. Appends old new (flat_map f l)) (take_all k xs le) before

flat_map_append : {X : Type 0} (f : X → List ℕ) (xs ys : List X) → flat_map f (xs ++ ys) ≡ flat_map f xs ++ flat_map f ys
flat_map_append f [] ys = refl
flat_map_append f (x ∷ xs) ys = ap (λ z. f x ++ z) (flat_map_append f xs ys) ∙ sym (append_assoc (f x) (flat_map f xs) (flat_map f ys))

-- a write of an element's octets failed: a front of all was written
pub wrote_part : {X : Type 0} (f : X → List ℕ) (xs : List X) (k : ℕ) (d : X) (old mid new : Option (List ℕ)) → k < length xs → Wrote f xs k old mid → AppendsFront mid new (f (get_or xs k d)) → AppendsFront old new (flat_map f xs)
wrote_part f xs k d old mid new lt before part = record {
  front = flat_map f (take k xs) ++ part.front;
  left = part.left ++ flat_map f (drop (k + 1) xs);
  parts =
      ap (flat_map f) (sym (take-append-drop k xs)) ∙ flat_map_append f (take k xs) (drop k xs)
      ∙ ap (λ z. flat_map f (take k xs) ++ flat_map f z) (drop-cons xs k d lt ∙ ap (λ n. get_or xs k d ∷ drop n xs) (sym (add-one k)))
      ∙ ap (λ z. flat_map f (take k xs) ++ (z ++ flat_map f (drop (k + 1) xs))) part.parts
      ∙ ap (λ z. flat_map f (take k xs) ++ z) (append_assoc part.front part.left (flat_map f (drop (k + 1) xs)))
      ∙ sym (append_assoc (flat_map f (take k xs)) part.front (part.left ++ flat_map f (drop (k + 1) xs)));
  wrote = Appends-trans old mid new (flat_map f (take k xs)) part.front before part.wrote;
}
