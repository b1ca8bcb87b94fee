-- What a bundle holds as it walks on, and as it ends.
use Rattle.std.proofs.Common.{◌≡◌, ◌≢◌, ℕ, ◌+◌, ◌-◌, ◌≤◌, Bool, true, false, List, [], ◌∷◌, ◌++◌, length, take, drop, refl, sym, ◌∙◌, ap, subst, append_assoc, length-drop, arith}
use Rattle.std.proofs.lemmas.List.{append-nil, length-take-le, drop_all}
use Rattle.std.specs.List.{concat, AllByRecursion}
use Rattle.cert_framing.specs.declared.ending.End.{End}
use Rattle.cert_framing.specs.declared.ending.End.TheVariants.{Clean, Cut, Fault}
use Rattle.cert_framing.specs.Framing.{IsItem, Splits, IsLongest, IsCutShort, EndsAs, IsFraming}
use Rattle.cert_framing.specs.Held.{Held, IsKept, StandsFor}
use Rattle.cert_framing.specs.Pieces.{pieces, RunsTo}
use Rattle.cert_framing.specs.Fronts.{MeetsNoItem}
use Rattle.cert_framing.specs.Advance.{StopsAs, Walks, Advances}
use Rattle.cert_framing.proofs.Fronts.{nothing_is_cut}
use Rattle.cert_framing.proofs.PieceLemmas.{runs_on, pieces_on, pieces_of_more, pieces_of_front, pieces_joined, length-concat-pieces}
use Rattle.cert_framing.proofs.Streams.{HasNoItem, cut_has_none, meets_has_none, meets_is_no_cut, meets_none, meets_more, longest_from, longest_has_none, all_append}

-- a walk that has not begun
pub walks_none : (limit : ℕ) (octets : List ℕ) (from : ℕ) (ends : List ℕ) → from ≤ length octets → Walks limit octets from ends ends from
walks_none limit octets from ends within =
    record { added = []; joined = sym (append-nil ends); runs = refl; within = within; items = tt }

-- a walk takes one item more
pub walks_on : (limit : ℕ) (octets : List ℕ) (from : ℕ) (ends ends' more : List ℕ) (at size : ℕ) → Walks limit octets from ends ends' at
    → more ≡ ends' ++ (at + size) ∷ [] → size ≤ length (drop at octets) → IsItem limit (take size (drop at octets))
    → Walks limit octets from ends more (at + size)
walks_on limit octets from ends ends' more at size walks pushed room item =
    let within : at ≤ length octets = walks.within in
    let behind : length (drop at octets) ≡ length octets - at = length-drop at octets in
    let last : RunsTo at ((at + size) ∷ []) (at + size) = (omega arith, refl) in
    let width : at + size - at ≡ size = omega arith in
    let part : IsItem limit (take (at + size - at) (drop at octets)) = rw width item in
    record {
      added = walks.added ++ (at + size) ∷ [];
      joined = pushed ∙ ap (λ (x : List ℕ). x ++ (at + size) ∷ []) walks.joined ∙ append_assoc ends walks.added ((at + size) ∷ []);
      runs = runs_on from walks.added ((at + size) ∷ []) at (at + size) walks.runs last;
      within = omega arith;
      items = subst (AllByRecursion (IsItem limit)) (sym (pieces_on from walks.added ((at + size) ∷ []) at octets walks.runs))
          (all_append limit (pieces from walks.added octets) (pieces at ((at + size) ∷ []) octets) walks.items (part, tt));
    }

-- what a sound bundle's fields say of the stream that it stands for, while it met no fault
reading_is : (limit : ℕ) (octets ends : List ℕ) (at : ℕ) (stream rest : List ℕ) → RunsTo 0 ends at → at ≤ length octets
    → IsLongest limit stream (pieces 0 ends octets) rest → drop at octets ≡ rest → stream ≡ octets
reading_is limit octets ends at stream rest runs within longest kept =
    longest.splits.whole ∙ ap (λ (x : List ℕ). concat (pieces 0 ends octets) ++ x) (sym kept) ∙ pieces_joined 0 ends at octets runs within

stops_have_none : (limit : ℕ) (rest : List ℕ) (goes_on : Bool) → StopsAs limit rest goes_on → HasNoItem limit rest
stops_have_none limit rest true stops = cut_has_none limit rest stops
stops_have_none limit rest false stops = meets_has_none limit rest stops

-- the items of a stream that goes on with a piece, as the walk over the joined octets finds them
fed_longest : (limit : ℕ) (octets piece ends ends' : List ℕ) (at at' : ℕ) (goes_on : Bool) (stream rest : List ℕ) → RunsTo 0 ends at → at ≤ length octets
    → IsLongest limit stream (pieces 0 ends octets) rest → drop at octets ≡ rest
    → Advances limit (octets ++ piece) at ends ends' at' goes_on
    → IsLongest limit (stream ++ piece) (pieces 0 ends' (octets ++ piece)) (drop at' (octets ++ piece))
fed_longest limit octets piece ends ends' at at' goes_on stream rest runs within longest kept advances =
    let walks = advances.walks in
    let all : List ℕ = octets ++ piece in
    let whole : stream ++ piece ≡ all = ap (λ (x : List ℕ). x ++ piece) (reading_is limit octets ends at stream rest runs within longest kept) in
    let runs' : RunsTo 0 ends' at' = subst (λ (x : List ℕ). RunsTo 0 x at') (sym walks.joined) (runs_on 0 ends walks.added at at' runs walks.runs) in
    let same : pieces 0 ends all ≡ pieces 0 ends octets = pieces_of_more 0 ends at octets piece runs within in
    let parts : pieces 0 ends' all ≡ pieces 0 ends octets ++ pieces at walks.added all =
    ap (λ (x : List ℕ). pieces 0 x all) walks.joined ∙ pieces_on 0 ends walks.added at all runs
    ∙ ap (λ (x : List (List ℕ)). x ++ pieces at walks.added all) same in
    let each : AllByRecursion (IsItem limit) (pieces 0 ends' all) =
    subst (AllByRecursion (IsItem limit)) (sym parts)
    (all_append limit (pieces 0 ends octets) (pieces at walks.added all) longest.splits.each walks.items) in
    longest_from limit (stream ++ piece) (pieces 0 ends' all) (drop at' all)
    (record { whole = whole ∙ sym (pieces_joined 0 ends' at' all runs' walks.within); each = each })
    (stops_have_none limit (drop at' all) goes_on advances.stops)

-- a bundle of no octets
pub stands_at_start : (limit : ℕ) (failed : Bool) → failed ≡ false
    → StandsFor (record { limit = limit; items = []; kept = []; has_fault = false; has_failed = failed }) []
stands_at_start limit failed sound =
    let cut : IsCutShort limit [] = nothing_is_cut limit [] refl in
    record {
      rest = [];
      sound = sound;
      longest = longest_from limit [] [] [] (record { whole = refl; each = tt }) (cut_has_none limit [] cut);
      is_kept = (refl, cut);
    }

-- what is kept while no fault was met
kept_reading : (limit : ℕ) (rest kept : List ℕ) (fault : Bool) → fault ≡ false → IsKept limit rest fault kept → (kept ≡ rest) × IsCutShort limit rest
kept_reading limit rest kept false is held = held
kept_reading limit rest kept true is held = absurd cc

kept_faulted : (limit : ℕ) (rest kept : List ℕ) (fault : Bool) → fault ≡ true → IsKept limit rest fault kept → (kept ≡ []) × ¬ (IsCutShort limit rest)
kept_faulted limit rest kept false is held = absurd cc
kept_faulted limit rest kept true is held = held

-- a piece after which the octets after the items begin an item
pub fed_part : (limit : ℕ) (octets piece ends ends' : List ℕ) (at at' : ℕ) (fault failed fault' failed' : Bool) (stream : List ℕ) → RunsTo 0 ends at
    → at ≤ length octets → fault ≡ false → fault' ≡ false → failed' ≡ false → Advances limit (octets ++ piece) at ends ends' at' true
    → StandsFor (record { limit = limit; items = pieces 0 ends octets; kept = drop at octets; has_fault = fault; has_failed = failed }) stream
    → StandsFor
    (record { limit = limit; items = pieces 0 ends' (octets ++ piece); kept = drop at' (octets ++ piece); has_fault = fault'; has_failed = failed' })
    (stream ++ piece)
fed_part limit octets piece ends ends' at at' fault failed fault' failed' stream runs within reads reads' sound' advances stands =
    let kept = kept_reading limit stands.rest (drop at octets) fault reads stands.is_kept in
    let all : List ℕ = octets ++ piece in
    record {
      rest = drop at' all;
      sound = sound';
      longest = fed_longest limit octets piece ends ends' at at' true stream stands.rest runs within stands.longest kept.0 advances;
      is_kept = subst (λ (b : Bool). IsKept limit (drop at' all) b (drop at' all)) (sym reads') (refl, advances.stops);
    }

-- a piece after which they never will
pub fed_fault : (limit : ℕ) (octets piece ends ends' : List ℕ) (at at' : ℕ) (fault failed : Bool) (stream : List ℕ) → RunsTo 0 ends at
    → at ≤ length octets → fault ≡ false → Advances limit (octets ++ piece) at ends ends' at' false
    → StandsFor (record { limit = limit; items = pieces 0 ends octets; kept = drop at octets; has_fault = fault; has_failed = failed }) stream
    → StandsFor
    (record {
      limit = limit;
      items = pieces 0 ends' (take at' (octets ++ piece));
      kept = drop at' (take at' (octets ++ piece));
      has_fault = true;
      has_failed = false;
    })
    (stream ++ piece)
fed_fault limit octets piece ends ends' at at' fault failed stream runs within reads advances stands =
    let kept = kept_reading limit stands.rest (drop at octets) fault reads stands.is_kept in
    let all : List ℕ = octets ++ piece in
    let walks = advances.walks in
    let runs' : RunsTo 0 ends' at' = subst (λ (x : List ℕ). RunsTo 0 x at') (sym walks.joined) (runs_on 0 ends walks.added at at' runs walks.runs) in
    let longest = fed_longest limit octets piece ends ends' at at' false stream stands.rest runs within stands.longest kept.0 advances in
    let front : length (take at' all) ≡ at' = length-take-le at' all walks.within in
    record {
      rest = drop at' all;
      sound = refl;
      longest = subst (λ (x : List (List ℕ)). IsLongest limit (stream ++ piece) x (drop at' all)) (sym (pieces_of_front ends' at' all runs' walks.within)) longest;
      is_kept = (drop_all at' (take at' all) (omega arith), meets_is_no_cut limit (drop at' all) advances.stops);
    }

-- a bundle's invariant after a walk
pub fed_sound : (octets ends ends' : List ℕ) (limit from at : ℕ) → RunsTo 0 ends from → Walks limit octets from ends ends' at
    → (at ≤ length octets) × RunsTo 0 ends' at
fed_sound octets ends ends' limit from at runs walks =
    (walks.within, subst (λ (x : List ℕ). RunsTo 0 x at) (sym walks.joined) (runs_on 0 ends walks.added from at runs walks.runs))

-- what follows a fault changes nothing
pub fed_behind_fault : (held : Held) (stream piece : List ℕ) → held.has_fault ≡ true → StandsFor held stream → StandsFor held (stream ++ piece)
fed_behind_fault held stream piece faulted stands =
    let rest : List ℕ = stands.rest in
    let kept = kept_faulted held.limit rest held.kept held.has_fault faulted stands.is_kept in
    let none : MeetsNoItem held.limit rest =
    meets_none held.limit rest (longest_has_none held.limit stream held.items rest stands.longest) kept.1 in
    let more : MeetsNoItem held.limit (rest ++ piece) = meets_more held.limit rest piece none in
    let splits : Splits held.limit stream held.items rest = stands.longest.splits in
    let whole : stream ++ piece ≡ concat held.items ++ (rest ++ piece) =
    ap (λ (x : List ℕ). x ++ piece) splits.whole ∙ append_assoc (concat held.items) rest piece in
    record {
      rest = rest ++ piece;
      sound = stands.sound;
      longest = longest_from held.limit (stream ++ piece) held.items (rest ++ piece) (record { whole = whole; each = splits.each })
          (meets_has_none held.limit (rest ++ piece) more);
      is_kept = subst (λ (b : Bool). IsKept held.limit (rest ++ piece) b held.kept) (sym faulted)
          (kept.0, meets_is_no_cut held.limit (rest ++ piece) more);
    }

-- the octets of the items alone have all its items
front_framing : (limit : ℕ) (octets ends : List ℕ) (at : ℕ) (stream rest : List ℕ) (end : End) → RunsTo 0 ends at → at ≤ length octets
    → IsLongest limit stream (pieces 0 ends octets) rest → EndsAs limit rest at end → IsFraming limit stream (pieces 0 ends (take at octets)) end
front_framing limit octets ends at stream rest end runs within longest ends_as =
    let same : pieces 0 ends octets ≡ pieces 0 ends (take at octets) = sym (pieces_of_front ends at octets runs within) in
    let size : length (concat (pieces 0 ends octets)) ≡ at = length-concat-pieces ends at octets runs within in
    let framing : IsFraming limit stream (pieces 0 ends octets) end =
    record { rest = rest; longest = longest; ends = subst (λ (n : ℕ). EndsAs limit rest n end) (sym size) ends_as } in
    subst (λ (x : List (List ℕ)). IsFraming limit stream x end) same framing

-- how a bundle ends that met no fault
pub ends_clean : (limit : ℕ) (octets ends : List ℕ) (at : ℕ) (fault failed : Bool) (stream : List ℕ) → RunsTo 0 ends at → at ≤ length octets
    → fault ≡ false → at ≡ length octets
    → StandsFor (record { limit = limit; items = pieces 0 ends octets; kept = drop at octets; has_fault = fault; has_failed = failed }) stream
    → IsFraming limit stream (pieces 0 ends (take at octets)) Clean
ends_clean limit octets ends at fault failed stream runs within reads all stands =
    let kept = kept_reading limit stands.rest (drop at octets) fault reads stands.is_kept in
    front_framing limit octets ends at stream stands.rest Clean runs within stands.longest
    (sym kept.0 ∙ drop_all at octets (omega arith))

pub ends_cut : (limit : ℕ) (octets ends : List ℕ) (at : ℕ) (fault failed : Bool) (stream : List ℕ) → RunsTo 0 ends at → at ≤ length octets
    → fault ≡ false → at ≢ length octets
    → StandsFor (record { limit = limit; items = pieces 0 ends octets; kept = drop at octets; has_fault = fault; has_failed = failed }) stream
    → IsFraming limit stream (pieces 0 ends (take at octets)) (Cut at)
ends_cut limit octets ends at fault failed stream runs within reads more stands =
    let kept = kept_reading limit stands.rest (drop at octets) fault reads stands.is_kept in
    let some : stands.rest ≢ [] = λ none. more (omega (arith, length-drop at octets, ap length (kept.0 ∙ none))) in
    front_framing limit octets ends at stream stands.rest (Cut at) runs within stands.longest (some, kept.1, refl)

-- and one that met a fault
pub ends_fault : (limit : ℕ) (octets ends : List ℕ) (at : ℕ) (fault failed : Bool) (stream : List ℕ) → RunsTo 0 ends at → at ≤ length octets
    → fault ≡ true
    → StandsFor (record { limit = limit; items = pieces 0 ends octets; kept = drop at octets; has_fault = fault; has_failed = failed }) stream
    → IsFraming limit stream (pieces 0 ends (take at octets)) (Fault at)
ends_fault limit octets ends at fault failed stream runs within faulted stands =
    let kept = kept_faulted limit stands.rest (drop at octets) fault faulted stands.is_kept in
    let some : stands.rest ≢ [] = λ none. kept.1 (nothing_is_cut limit stands.rest (ap length none)) in
    front_framing limit octets ends at stream stands.rest (Fault at) runs within stands.longest (some, kept.1, refl)
