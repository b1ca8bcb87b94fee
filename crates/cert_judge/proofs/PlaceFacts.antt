-- What is at the places of items and anchors.
use Rattle.std.proofs.Common.{◌≡◌, ◌∙◌, ap, sym, ℕ, ◌+◌, ◌<◌, List, ◌++◌, length, map, length-append, arith, get_or, Some}
use Rattle.std.specs.List.{slice_get}
use Rattle.std.proofs.Math.ListN.{get_or-append}
use Rattle.std.proofs.lemmas.List.{get_or-map, length-map, get_or-append-add}
use Rattle.std.proofs.lemmas.Option.{slice_get-get_or}
use Rattle.cert_graph.specs.declared.places.Part.TheVariants.{Key}
use Rattle.cert_graph.specs.Places.{shown_at, Shows}
use Rattle.cert_judge.specs.declared.judged.JudgedItem.{JudgedItem}
use Rattle.cert_judge.specs.declared.judged.JudgedItem.TheVariants.{Certificate as certificate_judged, List as list_judged, Other as other_judged}
use Rattle.cert_judge.specs.JudgedItems.{as_issued, as_member, as_anchor}
use Rattle.cert_judge.specs.NamedLinks.{places_of}
use Rattle.cert_judge.proofs.Grouping.{element}

pub issued_place : (js hs : List JudgedItem) (v : ℕ) (d : JudgedItem) → v < length js → slice_get (places_of js hs) v ≡ Some (as_issued (get_or js v d))
issued_place js hs v d lt =
    let a = map as_issued js in
    let b = map as_member js in
    let c = map as_anchor hs in
    let one = length-append (a ++ b) c in
    let two = length-append a b in
    let la = length-map js as_issued in
    slice_get-get_or (places_of js hs) v (as_issued d) (omega arith) ∙ ap Some (get_or-append (a ++ b) c (as_issued d) v (omega arith) ∙ get_or-append a b (as_issued d) v (omega arith) ∙ get_or-map as_issued js v d (as_issued d) lt)

pub member_place : (js hs : List JudgedItem) (w : ℕ) (d : JudgedItem) → w < length js → slice_get (places_of js hs) (length js + w) ≡ Some (as_member (get_or js w d))
member_place js hs w d lt =
    let a = map as_issued js in
    let b = map as_member js in
    let c = map as_anchor hs in
    let one = length-append (a ++ b) c in
    let two = length-append a b in
    let la = length-map js as_issued in
    let lb = length-map js as_member in
    let at : length js + w ≡ length a + w = omega arith in
    slice_get-get_or (places_of js hs) (length js + w) (as_member d) (omega arith)
    ∙ ap Some (get_or-append (a ++ b) c (as_member d) (length js + w) (omega arith) ∙ ap (λ i. get_or (a ++ b) i (as_member d)) at ∙ get_or-append-add a b w (as_member d) ∙ get_or-map as_member js w d (as_member d) lt)

pub anchor_place : (js hs : List JudgedItem) (k : ℕ) (d : JudgedItem) → k < length hs → slice_get (places_of js hs) (length js + length js + k) ≡ Some (as_anchor (get_or hs k d))
anchor_place js hs k d lt =
    let a = map as_issued js in
    let b = map as_member js in
    let c = map as_anchor hs in
    let one = length-append (a ++ b) c in
    let two = length-append a b in
    let la = length-map js as_issued in
    let lb = length-map js as_member in
    let lc = length-map hs as_anchor in
    let at : length js + length js + k ≡ length (a ++ b) + k = omega arith in
    slice_get-get_or (places_of js hs) (length js + length js + k) (as_anchor d) (omega arith)
    ∙ ap Some (ap (λ i. get_or (places_of js hs) i (as_anchor d)) at ∙ get_or-append-add (a ++ b) c k (as_anchor d) ∙ get_or-map as_anchor hs k d (as_anchor d) lt)

no_key : (j : JudgedItem) {key : List ℕ} → shown_at Key (Some (as_issued j)) ≡ Some key → ⊥
no_key (certificate_judged c) e = cc
no_key (list_judged l) e = cc
no_key other_judged e = cc

-- what was issued shows no key
pub keyless : (js hs : List JudgedItem) (v : ℕ) (key : List ℕ) → v < length js → Shows Key (places_of js hs) v key → ⊥
keyless js hs v key lt s = let j = element js v lt in no_key (get_or js v j.0) (ap (shown_at Key) (sym (issued_place js hs v j.0 lt)) ∙ s)
