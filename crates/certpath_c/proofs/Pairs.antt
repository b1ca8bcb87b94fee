-- The pairs of the vouchers so far.
use Rattle.std.specs.Prelude.{◌↔◌, ◌⊎◌}
use Rattle.std.proofs.Common.{ℕ, ◌+◌, ◌<◌, ◌≤◌, List, [], ◌∷◌, length, drop, get_or, subst, inl, inr}
use Rattle.std.proofs.lemmas.List.{drop_all, drop_more}
use Rattle.cert_vouchers.specs.declared.vouchers.Vouchers.{Vouchers}
use Rattle.cert_vouchers.specs.Vouching.{HasPair}
use Rattle.certpath_c.specs.declared.asked.Voucher.{Voucher}
use Rattle.certpath_c.specs.Asked.{HoldPair, ArePairs, IsOnePairMore}

-- the pairs and those of the rest are all
pub record SoFar (vouchers rest : List Voucher) (pairs : Vouchers) : Type 0 where
  pub all : (key item : List ℕ) → HoldPair vouchers key item ↔ (HasPair pairs.pairs key item ⊎ HoldPair rest key item)

one_of : {A B C : Type 0} → A ⊎ (B ⊎ C) → (A ⊎ B) ⊎ C
one_of (inl a) = inl (inl a)
one_of (inr (inl b)) = inl (inr b)
one_of (inr (inr c)) = inr c

other_of : {A B C : Type 0} → (A ⊎ B) ⊎ C → A ⊎ (B ⊎ C)
other_of (inl (inl a)) = inl a
other_of (inl (inr b)) = inr (inl b)
other_of (inr c) = inr (inr c)

left_map : {A B C : Type 0} → (A → B) → A ⊎ C → B ⊎ C
left_map f (inl a) = inl (f a)
left_map f (inr c) = inr c

pub one_pair_more : (vouchers : List Voucher) (k : ℕ) (d : Voucher) (old new : Vouchers) → k < length vouchers → IsOnePairMore old new (get_or vouchers k d) → SoFar vouchers (drop k vouchers) old
    → SoFar vouchers (drop (k + 1) vouchers) new
one_pair_more vouchers k d old new lt pushed so_far =
    let rest = drop (k + 1) vouchers in
    let before : SoFar vouchers (get_or vouchers k d ∷ rest) old = subst (λ r. SoFar vouchers r old) (drop_more vouchers k d lt) so_far in
    record {
      all = λ key item.
          let p = pushed key item in
          let b = before.all key item in
          (λ h. left_map p.1 (one_of (b.0 h)), λ h. b.1 (other_of (left_map p.0 h)));
    }

pub no_pair_yet : (vouchers : List Voucher) (pairs : Vouchers) → ((key item : List ℕ) → HasPair pairs.pairs key item → ⊥) → SoFar vouchers (drop 0 vouchers) pairs
no_pair_yet vouchers pairs none = record { all = λ key item. (λ h. inr h, λ h. elim h [ inl p ↦ absurd (none key item p) | inr r ↦ r ]) }

pub all_pairs : (vouchers : List Voucher) (k : ℕ) (pairs : Vouchers) → length vouchers ≤ k → SoFar vouchers (drop k vouchers) pairs → ArePairs vouchers pairs
all_pairs vouchers k pairs le so_far =
    let whole : SoFar vouchers [] pairs = subst (λ r. SoFar vouchers r pairs) (drop_all k vouchers le) so_far in
    λ key item.
    let w = whole.all key item in
    (λ h. w.1 (inl h), λ h. elim (w.0 h) [ inl p ↦ p | inr none ↦ absurd none ])
