-- What a loop of writes has appended so far.
use Rattle.std.proofs.Common.{◌≡◌, ℕ, List, ◌++◌, ◌-◌, length, take, drop, sym, ap, ◌∙◌, append_assoc, take-append-drop}
use Rattle.std.proofs.lemmas.List.{take_rest}
use Rattle.std.specs.Prelude.{Option}
use Rattle.std.specs.Io.KnownBytes.{Appends}
use Rattle.std.proofs.KnownBytes.{Appends-trans}

-- the front of `all`, as far as `rest`, was appended
pub record Written (old new : Option (List ℕ)) (all rest : List ℕ) : Type 0 where
  pub front : List ℕ
  pub parts : all ≡ front ++ rest
  pub wrote : Appends old new front

-- a write took n more octets; the rest is as a range of a slice gives it
pub written_more : (old mid new : Option (List ℕ)) (all rest : List ℕ) (n : ℕ) → Written old mid all rest → Appends mid new (take n rest)
    → Written old new all (take (length rest - n) (drop n rest))
written_more old mid new all rest n w more = record {
  front = w.front ++ take n rest;
  parts = w.parts ∙ ap (λ l. w.front ++ l) (sym (take-append-drop n rest)) ∙ sym (append_assoc w.front (take n rest) (drop n rest))
      ∙ ap (λ l. (w.front ++ take n rest) ++ l) (sym (take_rest rest n));
  wrote = Appends-trans old mid new w.front (take n rest) w.wrote more;
}
