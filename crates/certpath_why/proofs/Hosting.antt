-- Names of hosts, in a list.
use Rattle.std.specs.Prelude.{codes}
use Rattle.std.proofs.Common.{◌≡◌, ◌∙◌, ap, sym, refl, ℕ, ◌+◌, ◌<◌, ◌≤◌, true, false, if◌then◌else◌, List, [], ◌∷◌, ◌++◌, length, map, take, get_or}
use Rattle.std.proofs.lemmas.List.{append-nil, map-append, take_more, take_all}
use Rattle.std.proofs.lemmas.List.Elements.{filter-append}
use Rattle.cert_serving.specs.GeneralNames.{GeneralName}
use Rattle.cert_serving.specs.View.{general_name_view}
use Rattle.cert_serving.specs.declared.names.GeneralName.{GeneralName as read_name}
use Rattle.certpath_why.specs.Hosts.{is_host_choice, hosts_among, host_text, hosts_words}
use Rattle.certpath_why.specs.Listed.{listed}
use Rattle.certpath_why.proofs.Listing.{listed_map}

pub no_words : (gs : List read_name) → gs ≡ [] → codes "it names no host" ≡ hosts_words (map general_name_view gs)
no_words [] e = refl
no_words (g ∷ gs) e = absurd (cc e)

pub some_words : (gs : List read_name) → (gs ≡ [] → ⊥) → codes "it names " ++ listed (λ g. host_text (general_name_view g)) gs ≡ hosts_words (map general_name_view gs)
some_words [] n = absurd (n refl)
some_words (g ∷ gs) n = ap (λ l. codes "it names " ++ l) (listed_map host_text general_name_view (g ∷ gs))

abbrev among : List read_name → List GeneralName
among gs = hosts_among (map general_name_view gs)

among_push : (gs : List read_name) (g : read_name) → among (gs ++ g ∷ []) ≡ among gs ++ hosts_among (general_name_view g ∷ [])
among_push gs g = ap hosts_among (map-append general_name_view gs (g ∷ [])) ∙ filter-append (λ (n : GeneralName). is_host_choice n.choice) (map general_name_view gs) (general_name_view g ∷ [])

kept : (g : GeneralName) → is_host_choice g.choice ≡ true → hosts_among (g ∷ []) ≡ g ∷ []
kept g is = ap (λ b. if b then g ∷ [] else []) is

passed : (g : GeneralName) → is_host_choice g.choice ≡ false → hosts_among (g ∷ []) ≡ []
passed g is = ap (λ b. if b then g ∷ [] else []) is

-- a name that is a host's was added
pub among_more : (gs : List read_name) (k : ℕ) (d : read_name) (hosts more : List read_name) → k < length gs → map general_name_view hosts ≡ among (take k gs) → is_host_choice (get_or gs k d).choice ≡ true
    → more ≡ hosts ++ get_or gs k d ∷ [] → map general_name_view more ≡ among (take (k + 1) gs)
among_more gs k d hosts more lt before is e =
    let one = general_name_view (get_or gs k d) in
    ap (map general_name_view) e ∙ map-append general_name_view hosts (get_or gs k d ∷ []) ∙ ap (λ l. l ++ one ∷ []) before
    ∙ sym (ap among (take_more gs k d lt) ∙ among_push (take k gs) (get_or gs k d) ∙ ap (λ l. among (take k gs) ++ l) (kept one is))

-- one that is none was passed
pub among_same : (gs : List read_name) (k : ℕ) (d : read_name) (hosts : List read_name) → k < length gs → map general_name_view hosts ≡ among (take k gs) → is_host_choice (get_or gs k d).choice ≡ false → map general_name_view hosts ≡ among (take (k + 1) gs)
among_same gs k d hosts lt before is =
    before ∙ sym (append-nil (among (take k gs))) ∙ sym (ap among (take_more gs k d lt) ∙ among_push (take k gs) (get_or gs k d) ∙ ap (λ l. among (take k gs) ++ l) (passed (general_name_view (get_or gs k d)) is))

pub among_all : (gs : List read_name) (k : ℕ) (hosts : List read_name) → length gs ≤ k → map general_name_view hosts ≡ among (take k gs) → map general_name_view hosts ≡ among gs
among_all gs k hosts le before = before ∙ ap among (take_all k gs le)
