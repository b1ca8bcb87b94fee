-- What octets begin with: how many octets it takes, and items.
use Rattle.std.proofs.Common.{◌≡◌, ◌∙◌, ap, refl, ℕ, zero, suc, ◌+◌, ◌-◌, ◌<◌, ◌≤◌, ◌==◌, Bool, true, false, List, [], ◌∷◌, ◌++◌, length, take, drop, Ok, Err, arith, length-append}
use Rattle.std.proofs.lemmas.Bool.Decides.{nat_tests}
use Rattle.std.proofs.lemmas.List.{take-append-drop}
use Rattle.certpath_files.proofs.AddFacts.{append_none}
use Rattle.std.specs.Prelude.{nat_lt, if◌then◌else◌}
use Rattle.std.specs.List.{concat}
use Rattle.std.specs.Int.Digits.{AllBelowBase}
use Rattle.asn1_core.specs.Strict.{Head, IsHead, strict_header}
use Rattle.asn1_core.specs.Answers.{Answer}
use Rattle.asn1_core.specs.Reading.{header_at, strict_at}
use Rattle.asn1_core.proofs.Headers.{header_found}
use Rattle.asn1_core.proofs.StrictLaws.{strict_found, strict_again}
use Rattle.asn1_core.proofs.Long.{shortens, strictly_shortens}
use Rattle.cert_framing.specs.Framing.{IsItem}
use Rattle.certpath_files.specs.Fronts.{Front, whole, passed, stops, no_sequence, no_length, too_long, missing, long_form, size_in, most, is_sequence, sized, by_header, without_header, by_lenient, by_strict, front_of}
use Rattle.certpath_files.specs.Walks.{walk, go_on}
use Rattle.certpath_files.specs.Laws.{piece, piece_at, pieces_of}

-- a front that takes an octet at least, if its size is known
abbrev pub TakesSome : Front → Type 0
TakesSome (whole size) = 0 < size
TakesSome (passed fault size) = 0 < size
TakesSome (stops fault) = Unit {0}

if_some : (b : Bool) (x y : Front) → TakesSome x → TakesSome y → TakesSome (if b then x else y)
if_some true x y h k = h
if_some false x y h k = k

sized_some : (is_strict : Bool) (header size room : ℕ) → 0 < header → TakesSome (sized is_strict header size room)
sized_some is_strict header size room h =
    let n : 0 < header + size = omega arith in
    if_some (nat_lt room size) (stops (if nat_lt most size then too_long else missing (size - room)))
    (if nat_lt most size then passed too_long (header + size) else if is_strict then whole (header + size) else passed long_form (header + size))
    tt
    (
    if_some (nat_lt most size) (passed too_long (header + size)) (if is_strict then whole (header + size) else passed long_form (header + size)) n
    (if_some is_strict (whole (header + size)) (passed long_form (header + size)) n n)
    )

header_some : (is_strict : Bool) (s : List ℕ) (h : Head) (after : List ℕ) → length after + 2 ≤ length s → TakesSome (by_header is_strict s h after)
header_some is_strict s h after n = if_some (is_sequence h) (sized is_strict (length s - length after) h.size (length after)) (stops no_sequence) (sized_some is_strict (length s - length after) h.size (length after) (omega arith)) tt

without_some : (s : List ℕ) → TakesSome (without_header s)
without_some [] = tt
without_some (o ∷ s) = if_some (o == 48) (stops no_length) (stops no_sequence) tt tt

lenient_some : (s : List ℕ) (read : Answer Head) → AllBelowBase 256 s → header_at s ≡ read → TakesSome (by_lenient s read)
lenient_some s (Ok p) below e = header_some false s p.0 p.1 (shortens s p.1 p.0 (header_found s p.0 p.1 below e))
lenient_some s (Err x) below e = without_some s

strict_some : (s : List ℕ) (read : Answer Head) → AllBelowBase 256 s → strict_at s ≡ read → TakesSome (by_strict s read)
strict_some s (Ok p) below e = header_some true s p.0 p.1 (strictly_shortens s p.1 p.0 (strict_found s p.0 p.1 below e))
strict_some s (Err x) below e = lenient_some s (header_at s) below refl

pub front_some : (s : List ℕ) → AllBelowBase 256 s → TakesSome (front_of s)
front_some s below = strict_some s (strict_at s) below refl

-- the pieces of octets make them up
rejoined : (size : ℕ) (o : ℕ) (s : List ℕ) → 0 < size → take size (o ∷ s) ++ drop (size - 1) s ≡ o ∷ s
rejoined zero o s h = absurd (omega arith)
rejoined (suc size) o s h = ap (λ n. o ∷ (take size s ++ drop n s)) (omega arith) ∙ ap (λ z. o ∷ z) (take-append-drop size s)

step_joined : (offset number o : ℕ) (s : List ℕ) (front : Front) → TakesSome front → ((skip : ℕ) → concat (walk front_of piece_at skip (offset + 1) (number + 1) s) ≡ drop skip s) → piece (o ∷ s) front ++ concat (go_on (size_in front) (λ size. walk front_of piece_at (size - 1) (offset + 1) (number + 1) s)) ≡ o ∷ s
step_joined offset number o s (whole size) h rest = ap (λ z. take size (o ∷ s) ++ z) (rest (size - 1)) ∙ rejoined size o s h
step_joined offset number o s (passed fault size) h rest = ap (λ z. take size (o ∷ s) ++ z) (rest (size - 1)) ∙ rejoined size o s h
step_joined offset number o s (stops fault) h rest = append_none (o ∷ s)

pieces_joined : (skip offset number : ℕ) (s : List ℕ) → AllBelowBase 256 s → concat (walk front_of piece_at skip offset number s) ≡ drop skip s
pieces_joined zero offset number [] below = refl
pieces_joined (suc skip) offset number [] below = refl
pieces_joined (suc skip) offset number (o ∷ s) below = pieces_joined skip (offset + 1) number s below.1
pieces_joined zero offset number (o ∷ s) below = step_joined offset number o s (front_of (o ∷ s)) (front_some (o ∷ s) below) (λ skip. pieces_joined skip (offset + 1) (number + 1) s below.1)

pub pieces_whole : (s : List ℕ) → AllBelowBase 256 s → concat (pieces_of s) ≡ s
pieces_whole s below = pieces_joined 0 0 0 s below

-- an item is whole at its front
by_item : (s : List ℕ) (size header : ℕ) → header + size ≡ length s → size ≤ most → sized true header size size ≡ whole (length s)
by_item s size header e h =
    let room : nat_lt size size ≡ false = grind (arith, nat_tests) in
    let few : nat_lt most size ≡ false = grind (arith, nat_tests) in
    rw (room, few) (ap whole e)

pub item_front : (s : List ℕ) → IsItem most s → front_of s ≡ whole (length s)
item_front s it =
    let h : Head = record { class = 0; constructed = true; tag = 16; size = length it.content } in
    let head : IsHead h = record { class = omega arith; tag = omega arith; size = omega (arith, it.small) } in
    let read : strict_at s ≡ Ok (h, it.content) = ap strict_at it.spelled ∙ strict_again h it.content head in
    ap (by_strict s) read
    ∙ by_item s (length it.content) (length s - length it.content) (omega (arith, ap length it.spelled, length-append (strict_header h) it.content)) it.small
