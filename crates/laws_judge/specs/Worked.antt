-- Who vouches, items and answers of worked cases: they try the laws' definitions, not the code.
use Rattle.std.specs.Prelude.{ℕ, zero, suc, Bool, true, IsTrue, nat_eq, List, [], ◌∷◌, ◌≡◌}
use Rattle.std.specs.Cmp.Lexicographic.{pointwise}
use Rattle.std.specs.Global.{Global}
use Rattle.std.proofs.Math.Dec.{lit<}
use Rattle.cert_graph.specs.declared.reach.Reach.{Reach}
use Rattle.cert_graph.specs.declared.reach.Reach.TheVariants.{No, UpTo, Any}
use Rattle.cert_graph.specs.declared.answer.Answer.{Answer}
use Rattle.cert_graph.specs.declared.answer.Answer.TheVariants.{Path}
use Rattle.cert_graph.specs.declared.answer.Table.TheVariants.{Row, Rows}
use Rattle.cert_model.specs.Class.{list, other}
use Rattle.cert_model.specs.Examples.{authority_b, issued_by_b, revoking}
use Rattle.cert_model.specs.Fields.{Certificate}
use Rattle.cert_judge.specs.Examples.{anchor_named, certificate_item, extended_by, extended_key_usage, extension, numbered, unconstrained, vouching_for_both}
use Rattle.cert_judge.specs.Revoking.{Item}
use Rattle.cert_judge.specs.Vouching.{Vouching, nothing, vouching_alone}
use Rattle.cert_purpose.specs.Examples.{for_servers, usage}
use Rattle.laws_graph.specs.Vectors.{vec_of}

-- every key vouches for everything, or for the items of the octets 1 and 2
abbrev pub always : List ℕ → List ℕ → Bool
always key item = true

abbrev pub anything : Vouching
anything = vouching_alone (λ key item. IsTrue (always key item))

abbrev pub first_two : Vouching
first_two = vouching_alone (λ key item. IsTrue (vouching_for_both 1 2 key item))

-- every item but that of the octet 9 is permitted, and no extension is processed
abbrev pub all_but_nine : List ℕ → Type 0
all_but_nine item = item ≡ 9 ∷ [] → ⊥

abbrev pub none_processed : List ℕ → List ℕ → Type 0
none_processed = nothing

-- the anchor c
abbrev pub under_c : List Item
under_c = certificate_item (anchor_named 0x63) ∷ []

-- an item of one octet that is neither a certificate nor a list, and one that is a list
abbrev pub numbered_other : ℕ → Item
numbered_other octet = record { octets = octet ∷ []; class = other }

abbrev pub numbered_list : ℕ → Item
numbered_list octet = record { octets = octet ∷ []; class = list revoking }

-- extKeyUsage is processed, and a certificate where it is critical
abbrev pub is_purpose : List ℕ → Bool
is_purpose identifier = pointwise nat_eq identifier extended_key_usage

abbrev pub purposed : Certificate
purposed = extended_by (extension extended_key_usage true unconstrained ∷ [])

-- the path from the second of two items over the first, by a row and by its changes: the row may hold the most there is, since
-- no position is below 0
module _ (alloc : Global) where
  abbrev pub by_row : Answer
  by_row = Path (vec_of alloc (1 ∷ 0 ∷ []) (lit< tt)) 0 (Row (vec_of alloc (Any ∷ Any ∷ []) (lit< tt)))

  abbrev pub by_changes : Answer
  by_changes =
      Path (vec_of alloc (1 ∷ 0 ∷ []) (lit< tt)) 0
      (Rows 2 (vec_of alloc (vec_of alloc (record { position = 0; reach = Any } ∷ []) (lit< tt) ∷ []) (lit< tt)))

-- a certificate of b, one with two extKeyUsage, which allows no purpose, and a list
abbrev pub purposed_twice : Certificate
purposed_twice = extended_by (usage for_servers ∷ usage for_servers ∷ [])

abbrev pub two_and_a_list : List Item
two_and_a_list = numbered 1 issued_by_b ∷ numbered 9 purposed_twice ∷ numbered_list 3 ∷ []

-- the same with b's certificate in the place of the second
abbrev pub path_and_a_list : List Item
path_and_a_list = numbered 1 issued_by_b ∷ numbered 2 authority_b ∷ numbered_list 3 ∷ []

-- two certificates, and limits of them, written by hand: the first is no fit issuer, the second has path length 0
abbrev pub two_items : List Item
two_items = numbered 1 issued_by_b ∷ numbered 2 authority_b ∷ []

abbrev pub by_hand : ℕ → Reach
by_hand zero = No
by_hand (suc v) = UpTo 0
