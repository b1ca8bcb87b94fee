-- Items, inventories and texts of worked cases: they try the laws' definitions, not the code.
use Rattle.std.specs.Prelude.{ℕ, List, [], ◌∷◌}
use Rattle.std.specs.Global.{Global}
use Rattle.std.proofs.Math.Dec.{lit<}
use Rattle.cert_graph.specs.declared.reach.Reach.TheVariants.{Any, No, UpTo}
use Rattle.cert_graph.specs.declared.answer.Table.{Table}
use Rattle.cert_graph.specs.declared.answer.Table.TheVariants.{Row}
use Rattle.cert_graph.specs.declared.inventory.Inventory.{Inventory}
use Rattle.cert_graph.specs.declared.inventory.Verdict.TheVariants.{FirstPath, NoCertificate, Pathless}
use Rattle.cert_model.specs.Class.{other}
use Rattle.cert_model.specs.Examples.{authority_b, issued_by_b}
use Rattle.cert_judge.specs.Examples.{anchor_named, certificate_item, numbered}
use Rattle.cert_judge.specs.Revoking.{Item}
use Rattle.laws_graph.specs.Vectors.{vec_of}

-- a NULL, which is neither a certificate nor a list
abbrev pub null_octets : List ℕ
null_octets = 0x05 ∷ 0x00 ∷ []

abbrev pub null_item : Item
null_item = record { octets = null_octets; class = other }

-- a text whose first line is one letter
abbrev pub bad_text : List ℕ
bad_text = 120 ∷ 10 ∷ []

-- the positions of a path
abbrev pub two_positions : List ℕ
two_positions = 0 ∷ 1 ∷ []

-- a certificate of b and b's own, and these two in the other order
abbrev pub issuer_last : List Item
issuer_last = numbered 1 issued_by_b ∷ numbered 2 authority_b ∷ []

abbrev pub issuer_first : List Item
issuer_first = numbered 2 authority_b ∷ numbered 1 issued_by_b ∷ []

-- the anchor d
abbrev pub under_d : List Item
under_d = certificate_item (anchor_named 0x64) ∷ []

module _ (alloc : Global) where
  -- the verdict that the one item is no certificate
  abbrev pub one_verdict : Inventory
  one_verdict = record { steps = vec_of alloc [] (lit< tt); verdicts = vec_of alloc (NoCertificate ∷ []) (lit< tt) }

  -- a path, no path and no certificate, with a row of two changes and one of none
  abbrev pub three : Inventory
  three = record {
    steps =
        vec_of alloc
        (vec_of alloc (record { position = 5; reach = UpTo 0 } ∷ record { position = 3; reach = Any } ∷ []) (lit< tt) ∷ vec_of alloc [] (lit< tt) ∷ []) (lit< tt);
    verdicts = vec_of alloc (FirstPath (vec_of alloc (0 ∷ 3 ∷ []) (lit< tt)) 1 ∷ Pathless ∷ NoCertificate ∷ []) (lit< tt);
  }

  -- the second of three leads to no anchor, and the third to one with nothing counted below it
  abbrev pub no_row : Table
  no_row = Row (vec_of alloc (No ∷ No ∷ UpTo 0 ∷ []) (lit< tt))
