-- A BER object of at most k levels is one of at most any more.
use Rattle.std.proofs.Common.{ℕ, zero, suc, ◌-◌, ◌≤◌, Option, Some, None, List, [], ◌∷◌, arith}
use Rattle.std.specs.List.{AllByRecursion}
use Rattle.asn1_any.specs.BerElements.{BerElement, AreAll, Closes, IsWithin, element_of_ber}
use Rattle.asn1_core.specs.Elements.{Element}
use Rattle.der_tree.specs.Tree.{Tree, node, Content, leaf, sequence, set, Trees, none, more}
use Rattle.ber_tree.specs.Object.{IsDelimited, IsEnded, IsBerObject, IsBerContent, AreBerObjects}

all_more : (P Q : List ℕ → Type 0) → ((s : List ℕ) → P s → Q s) → (pieces : List (List ℕ)) → AllByRecursion P pieces → AllByRecursion Q pieces
all_more P Q f [] p = tt
all_more P Q f (s ∷ pieces) p = (f s p.0, all_more P Q f pieces p.1)

are_more : (P Q : List ℕ → Type 0) → ((s : List ℕ) → P s → Q s) → (s : List ℕ) → AreAll P s → AreAll Q s
are_more P Q f s p = record { pieces = p.pieces; each = all_more P Q f p.pieces p.each; whole = p.whole }

closes_more : (P Q : List ℕ → Type 0) → ((s : List ℕ) → P s → Q s) → (size : Option ℕ) (content body : List ℕ) → Closes P size content body → Closes Q size content body
closes_more P Q f (Some n) content body p = p
closes_more P Q f None content body p = (are_more P Q f content p.0, p.1)

higher_within : (k j : ℕ) → k ≤ j → (s : List ℕ) → IsWithin k s → IsWithin j s
unfolding IsWithin
higher_within zero j le s p = absurd p
higher_within (suc k) zero le s p = absurd (omega arith)
higher_within (suc k) (suc j) le s p =
    let e = p.1.0 in
    let q = p.1.1 in
    let less : k ≤ j = omega arith in (
      p.0,
      (
        e,
        record {
          header = q.header;
          body = q.body;
          in_range = q.in_range;
          spells = q.spells;
          closes = closes_more (IsWithin k) (IsWithin j) (higher_within k j less) e.head.size e.content q.body q.closes;
          whole = q.whole;
        },
      ),
    )

higher_delimited : (k j : ℕ) → k ≤ j → (size : Option ℕ) (s : List ℕ) → IsDelimited k size s → IsDelimited j size s
higher_delimited k j le (Some n) s p = tt
higher_delimited k j le None s p = are_more (IsWithin k) (IsWithin j) (higher_within k j le) s p

higher_ended : (k j : ℕ) → k ≤ j → (e : BerElement) (c : Content) → IsEnded k e c → IsEnded j e c
higher_ended k j le e (leaf v) p = higher_delimited k j le e.head.size e.content p
higher_ended k j le e (sequence ts) p = tt
higher_ended k j le e (set ts) p = tt

mutual
  unfolding IsBerObject IsBerContent AreBerObjects

  pub higher_object : (t : Tree) (k j : ℕ) → k ≤ j → IsBerObject k t → IsBerObject j t
  higher_object (node h s c) k j le p = (omega (arith, p.0), p.1, p.2, p.3, higher_ended (k - 1) (j - 1) (omega arith) p.1 c p.4, higher_content c (k - 1) (j - 1) (element_of_ber p.1) (omega arith) p.5)

  higher_content : (c : Content) (k j : ℕ) (e : Element) → k ≤ j → IsBerContent k e c → IsBerContent j e c
  higher_content (leaf v) k j e le p = p
  higher_content (sequence ts) k j e le p = (p.0, p.1, higher_all ts k j le p.2)
  higher_content (set ts) k j e le p = (p.0, p.1, higher_all ts k j le p.2)

  higher_all : (ts : Trees) (k j : ℕ) → k ≤ j → AreBerObjects k ts → AreBerObjects j ts
  higher_all none k j le p = tt
  higher_all (more t ts) k j le p = (higher_object t k j le p.0, higher_all ts k j le p.1)
