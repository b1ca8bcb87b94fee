-- The definitions at worked cases: paths.
use Rattle.std.proofs.Common.{◌≡◌, ◌≢◌, ◌∙◌, ap, sym, subst, refl, zero, suc, ℕ, ◌<◌, true, false, List, [], ◌∷◌, ◌++◌, map, length, length-append, drop, arith, get_or, Some, None, inl, inr, lit<}
use Rattle.std.specs.List.{Contains}
use Rattle.cert_graph.specs.Graph.{counted, IsValidPath, IsFirstPath, HasNoPath, Graph}
use Rattle.cert_graph.specs.Steps.{one_of, Tail, FromTarget}
use Rattle.cert_graph.proofs.PathLaws.{valid_from}
use Rattle.cert_graph.proofs.True.{from_valid}
use Rattle.cert_model.specs.Fields.{Number, Extension, Key, Certificate}
use Rattle.cert_model.specs.Octets.{name_octets, relative_name_octets, attribute_octets, key_octets}
use Rattle.cert_model.specs.Extended.{basic_constraints, key_usage, name_constraints, policy_constraints, EachUnder, SomeUnder, IsWithout}
use Rattle.cert_model.specs.Class.{certificate}
use Rattle.cert_model.specs.Examples.{key, common_name, issued_by_b, authority_b}
use Rattle.cert_judge.specs.Constraints.{BasicConstraints, basic_constraints_octets, IsBasicConstraints}
use Rattle.cert_judge.specs.Judging.{HasConstraints, HasUsage, IsProcessed, IsSigner, IsFitIssuer}
use Rattle.cert_judge.specs.Revoking.{Item, JudgingContext, IsSatisfied}
use Rattle.cert_judge.specs.ItemGraph.{IsIssuedUnder, KeyIdsAgree, IsLink, IsAnchorLink, graph_of_items}
use Rattle.cert_judge.specs.Further.{no_identifier}
use Rattle.cert_judge.specs.Examples.{in_june, extension, anchor_named, certificate_item, vouching_for_all, key_of, unlimited, limited_to, authority, self_issued_b, limited_above, b_from_c, one_rollover, one_rollover_rules, c_from_d, two_rollovers, two_rollover_rules, equal_issuers}
use Rattle.cert_judge.proofs.Grouping.{one_certificate}
use Rattle.cert_judge.proofs.Linking.{fit_is_usable}
use Rattle.cert_judge.proofs.Examples.{one, june_valid, alone_distinct, authority_is_fit}
use Rattle.cert_judge.proofs.ExampleLists.{no_list, target_usable}

abbrev bundle : List Certificate → List Item
bundle cs = map certificate_item cs

-- ---- authorities

abbrev without_limit : BasicConstraints
without_limit = record { ca = true; path_len = None }

abbrev with_limit : ℕ → BasicConstraints
with_limit n = record { ca = true; path_len = Some (n ∷ []) }

unlimited_written : IsBasicConstraints unlimited without_limit
unfolding basic_constraints_octets
unlimited_written = record { in_range = tt; spelled = refl }

one_written : IsBasicConstraints (limited_to 1) (with_limit 1)
unfolding basic_constraints_octets
one_written = record { in_range = record { number = record { shortest = refl; sign = refl }; small = lit< tt }; spelled = refl }

zero_written : IsBasicConstraints (limited_to 0) (with_limit 0)
unfolding basic_constraints_octets
zero_written = record { in_range = record { number = record { shortest = refl; sign = refl }; small = lit< tt }; spelled = refl }

fit : (subject issuer : ℕ) (own : Key) (value : List ℕ) (b : BasicConstraints) → IsBasicConstraints value b → b.ca ≡ true → IsFitIssuer no_identifier in_june (authority subject issuer own value)
unfolding EachUnder SomeUnder IsWithout IsProcessed
fit subject issuer own value b written ca =
    let e = extension basic_constraints true value in
    record {
      usable = record {
        valid = june_valid;
        extensions = record {
          distinct = alone_distinct e;
          processed = one (IsProcessed no_identifier) e (λ c. inl (inl refl));
          constraints = one (λ (e : Extension). e.identifier ≡ basic_constraints → HasConstraints e.value) e (λ same. (b, written));
          usage = one (λ (e : Extension). e.identifier ≡ key_usage → HasUsage e.value) e (λ same. absurd cc);
        };
      };
      issues = record {
        authority = (e, (0, lit< tt, refl), refl, (b, written, ca));
        signer = one (λ (e : Extension). e.identifier ≡ key_usage → IsSigner e.value) e (λ same. absurd cc);
        no_name_constraints = one (λ (e : Extension). e.identifier ≢ name_constraints) e (λ same. cc);
        no_policy_constraints = one (λ (e : Extension). e.identifier ≢ policy_constraints) e (λ same. cc);
      };
    }

-- ---- links

only_certificates : (cs : List Certificate) (x : Item) → Contains (bundle cs) x → (c : Certificate) × (x ≡ certificate_item c)
only_certificates [] x (k, lt, is) = absurd (omega (arith, lt))
only_certificates (c ∷ cs) x (zero, lt, is) = (c, sym is)
only_certificates (c ∷ cs) x (suc k, lt, is) = only_certificates cs x (k, omega (arith, lt), is)

satisfied : (r : JudgingContext) → r.demand_lists ≡ false → (cs : List Certificate) (name own : List ℕ) (serial : Number) → IsSatisfied r (bundle cs) name own serial
satisfied r free cs name own serial = record {
  kept = λ h. let f = only_certificates cs h.0 h.2 in no_list h.0 f.0 h.1 f.1 h.3.is_list;
  listed = λ d. let e = sym free ∙ d in absurd cc;
}

-- it names no issuer's key
names_none : (c d : Certificate) → (c.extensions ≡ []) → KeyIdsAgree c d
names_none c d e = λ a s names own.
    let long = ap (λ (es : List Extension). length es) (sym e ∙ names.stands.place) ∙ length-append names.stands.front (names.stands.extension ∷ names.stands.back) in
    absurd (omega arith)

first_is : (e x : Extension) (front back : List Extension) → e ∷ [] ≡ front ++ x ∷ back → e ≡ x
first_is e x [] back is = ap (λ (es : List Extension). get_or es 0 e) is
first_is e x (f ∷ front) back is = let long = ap (λ (es : List Extension). length es) is ∙ ap suc (length-append front (x ∷ back)) in absurd (omega arith)

names_no_issuer : (subject issuer : ℕ) (own : Key) (value : List ℕ) (d : Certificate) → KeyIdsAgree (authority subject issuer own value) d
names_no_issuer subject issuer own value d = λ a s names has.
    let is = first_is (extension basic_constraints true value) names.stands.extension names.stands.front names.stands.back names.stands.place in
    let e = ap (λ (x : Extension). x.identifier) is ∙ names.stands.under in
    absurd cc

issued : (r : JudgingContext) → r.demand_lists ≡ false → (cs : List Certificate) (x : Item) (c : Certificate) (name own : List ℕ) → name_octets c.issuer ≡ name → r.Vouches own x.octets → IsIssuedUnder r (bundle cs) x c name own
issued r free cs x c name own issuer vouched = record { issuer = issuer; vouched = vouched; satisfied = satisfied r free cs name own c.serial }

link : (r : JudgingContext) → r.demand_lists ≡ false → (cs : List Certificate) (c d : Certificate) → name_octets c.issuer ≡ name_octets d.subject → r.Vouches (key_octets d.key) (certificate_item c).octets → KeyIdsAgree c d
    → IsLink r (bundle cs) (certificate_item c) (certificate_item d)
link r free cs c d issuer vouched keys = (c, refl, (d, refl, (issued r free cs (certificate_item c) c (name_octets d.subject) (key_octets d.key) issuer vouched, keys)))

anchor_link : (r : JudgingContext) → r.demand_lists ≡ false → (cs : List Certificate) (c d : Certificate) → name_octets c.issuer ≡ name_octets d.subject → r.Vouches (key_octets d.key) (certificate_item c).octets
    → IsAnchorLink r (bundle cs) (certificate_item c) (certificate_item d)
anchor_link r free cs c d issuer vouched = (c, refl, (d, refl, issued r free cs (certificate_item c) c (name_octets d.subject) (key_octets d.key) issuer vouched))

-- ---- a key that changed once

abbrev under_c : List Item
under_c = certificate_item (anchor_named 0x63) ∷ []

abbrev once : Graph
once = graph_of_items one_rollover_rules (bundle one_rollover) under_c

none_once : one_of once 1 ≡ 0
unfolding name_octets relative_name_octets attribute_octets
none_once = refl

pub rolled_over : IsValidPath once 0 (0 ∷ 1 ∷ 2 ∷ []) 0
rolled_over =
    let r = one_rollover_rules in
    let cs = one_rollover in
    let s = self_issued_b 1 in
    let b = b_from_c 2 (limited_to 0) in
    valid_from once (fit_is_usable r (bundle cs) under_c) 0 (1 ∷ 2 ∷ []) 0 (
      (lit< tt, λ d. (issued_by_b, refl, target_usable)),
      (lit< tt, λ d. (lit< tt, λ e. link r refl cs issued_by_b s refl (0, lit< tt, refl) (names_none issued_by_b s refl))),
      (
        (lit< tt, λ d. (s, refl, fit 0x62 0x62 (key_of 1) unlimited without_limit unlimited_written refl)),
        tt,
        (lit< tt, λ d. (lit< tt, λ e. link r refl cs s b refl (1, lit< tt, refl) (names_no_issuer 0x62 0x62 (key_of 1) unlimited b))),
        (
          (lit< tt, λ d. (b, refl, fit 0x62 0x63 (key_of 2) (limited_to 0) (with_limit 0) zero_written refl)),
          omega (arith, none_once),
          (lit< tt, λ d. (lit< tt, λ e. anchor_link r refl cs b (anchor_named 0x63) refl (2, lit< tt, refl))),
        ),
      ),
    )

-- ---- a key that changed twice

abbrev under_d : List Item
under_d = certificate_item (anchor_named 0x64) ∷ []

abbrev twice : Graph
twice = graph_of_items two_rollover_rules (bundle two_rollovers) under_d

none_first : one_of twice 3 ≡ 0
unfolding name_octets relative_name_octets attribute_octets
none_first = refl

none_second : one_of twice 4 ≡ 0
unfolding name_octets relative_name_octets attribute_octets
none_second = refl

one_third : one_of twice 5 ≡ 1
unfolding name_octets relative_name_octets attribute_octets
one_third = refl

both_count : counted twice (1 ∷ 2 ∷ []) ≡ 2
unfolding name_octets relative_name_octets attribute_octets
both_count = refl

pub rolled_over_twice : IsValidPath twice 0 (0 ∷ 3 ∷ 4 ∷ 5 ∷ 6 ∷ []) 0
rolled_over_twice =
    let r = two_rollover_rules in
    let cs = two_rollovers in
    let s = self_issued_b 2 in
    let t = self_issued_b 1 in
    let b = b_from_c 0 unlimited in
    valid_from twice (fit_is_usable r (bundle cs) under_d) 0 (3 ∷ 4 ∷ 5 ∷ 6 ∷ []) 0 (
      (lit< tt, λ d. (issued_by_b, refl, target_usable)),
      (lit< tt, λ d. (lit< tt, λ e. link r refl cs issued_by_b s refl (0, lit< tt, refl) (names_none issued_by_b s refl))),
      (
        (lit< tt, λ d. (s, refl, fit 0x62 0x62 (key_of 2) unlimited without_limit unlimited_written refl)),
        tt,
        (lit< tt, λ d. (lit< tt, λ e. link r refl cs s t refl (1, lit< tt, refl) (names_no_issuer 0x62 0x62 (key_of 2) unlimited t))),
        (
          (lit< tt, λ d. (t, refl, fit 0x62 0x62 (key_of 1) unlimited without_limit unlimited_written refl)),
          tt,
          (lit< tt, λ d. (lit< tt, λ e. link r refl cs t b refl (2, lit< tt, refl) (names_no_issuer 0x62 0x62 (key_of 1) unlimited b))),
          (
            (lit< tt, λ d. (b, refl, fit 0x62 0x63 (key_of 0) unlimited without_limit unlimited_written refl)),
            tt,
            (lit< tt, λ d. (lit< tt, λ e. link r refl cs b c_from_d refl (5, lit< tt, refl) (names_no_issuer 0x62 0x63 (key_of 0) unlimited c_from_d))),
            (
              (lit< tt, λ d. (c_from_d, refl, fit 0x63 0x64 key (limited_to 1) (with_limit 1) one_written refl)),
              omega (arith, none_first, none_second, one_third),
              (lit< tt, λ d. (lit< tt, λ e. anchor_link r refl cs c_from_d (anchor_named 0x64) refl (6, lit< tt, refl))),
            ),
          ),
        ),
      ),
    )

-- two certificates that aren't self-issued are below one that takes one
pub other_road : (a : ℕ) → IsValidPath twice 0 (0 ∷ 1 ∷ 2 ∷ 6 ∷ []) a → ⊥
other_road a h =
    let issuers : h.issuers ≡ (1 ∷ 2 ∷ []) ++ 6 ∷ [] = sym (ap (drop 1) h.starts) in
    let taken = h.limits (1 ∷ 2 ∷ []) [] 6 issuers in
    absurd (omega (arith, taken, both_count))

-- ---- no path, and the first of several

link_names : (r : JudgingContext) (items : List Item) (c d : Certificate) → IsLink r items (certificate_item c) (certificate_item d) → name_octets c.issuer ≡ name_octets d.subject
link_names r items c d h =
    let p = one_certificate (certificate c) h.0 c h.1 refl in
    let q = one_certificate (certificate d) h.2.0 d h.2.1 refl in
    sym (ap (λ (x : Certificate). name_octets x.issuer) p) ∙ h.2.2.0.issuer ∙ ap (λ (x : Certificate). name_octets x.subject) q

anchor_names : (r : JudgingContext) (items : List Item) (c d : Certificate) → IsAnchorLink r items (certificate_item c) (certificate_item d) → name_octets c.issuer ≡ name_octets d.subject
anchor_names r items c d h =
    let p = one_certificate (certificate c) h.0 c h.1 refl in
    let q = one_certificate (certificate d) h.2.0 d h.2.1 refl in
    sym (ap (λ (x : Certificate). name_octets x.issuer) p) ∙ h.2.2.issuer ∙ ap (λ (x : Certificate). name_octets x.subject) q

-- names of unlike letters, and an empty one
unlike : (x y : ℕ) → x ≢ y → name_octets (common_name x) ≡ name_octets (common_name y) → ⊥
unfolding name_octets relative_name_octets attribute_octets
unlike x y apart e = apart (ap (λ (s : List ℕ). get_or s 13 0) e)

not_empty : (x : ℕ) → name_octets (common_name x) ≡ name_octets [] → ⊥
unfolding name_octets relative_name_octets attribute_octets
not_empty x e = let second = ap (λ (s : List ℕ). get_or s 1 0) e in omega arith

abbrev limited : Graph
limited = graph_of_items (vouching_for_all false) (bundle limited_above) under_d

abbrev plain_b : Certificate
plain_b = authority 0x62 0x63 key unlimited

abbrev limited_c : Certificate
limited_c = authority 0x63 0x64 key (limited_to 0)

one_below : one_of limited 1 ≡ 1
unfolding name_octets relative_name_octets attribute_octets
one_below = refl

-- after b's certificate comes c's alone, which takes none below it
no_tail : (is : List ℕ) (a : ℕ) → Tail limited 0 1 is a → ⊥
no_tail [] zero t = unlike 0x63 0x64 (λ e. omega (arith, e)) (anchor_names (vouching_for_all false) (bundle limited_above) plain_b (anchor_named 0x64) ((t.2.1 (certificate_item plain_b)).1 (certificate_item plain_b)))
no_tail [] (suc a) t = absurd (omega (arith, (t.2.1 (certificate_item plain_b)).0))
no_tail (zero ∷ is) a t = absurd (not_empty 0x63 (link_names (vouching_for_all false) (bundle limited_above) plain_b issued_by_b ((t.2.1 (certificate_item plain_b)).1 (certificate_item plain_b))))
no_tail (suc zero ∷ is) a t = unlike 0x63 0x62 (λ e. omega (arith, e)) (link_names (vouching_for_all false) (bundle limited_above) plain_b plain_b ((t.2.1 (certificate_item plain_b)).1 (certificate_item plain_b)))
no_tail (suc (suc zero) ∷ []) a t = absurd (omega (arith, t.3.1, one_below))
no_tail (suc (suc zero) ∷ w ∷ is) a t = absurd (omega (arith, t.3.1, one_below))
no_tail (suc (suc (suc w)) ∷ is) a t = absurd (omega (arith, (t.2.1 (certificate_item plain_b)).0))

no_road : (is : List ℕ) (a : ℕ) → FromTarget limited 0 is a → ⊥
no_road [] zero t = unlike 0x62 0x64 (λ e. omega (arith, e)) (anchor_names (vouching_for_all false) (bundle limited_above) issued_by_b (anchor_named 0x64) ((t.1.1 (certificate_item plain_b)).1 (certificate_item plain_b)))
no_road [] (suc a) t = absurd (omega (arith, (t.1.1 (certificate_item plain_b)).0))
no_road (zero ∷ is) a t = not_empty 0x62 (link_names (vouching_for_all false) (bundle limited_above) issued_by_b issued_by_b ((t.1.1 (certificate_item plain_b)).1 (certificate_item plain_b)))
no_road (suc zero ∷ is) a t = no_tail is a t.2
no_road (suc (suc zero) ∷ is) a t = unlike 0x62 0x63 (λ e. omega (arith, e)) (link_names (vouching_for_all false) (bundle limited_above) issued_by_b limited_c ((t.1.1 (certificate_item plain_b)).1 (certificate_item plain_b)))
no_road (suc (suc (suc w)) ∷ is) a t = absurd (omega (arith, (t.1.1 (certificate_item plain_b)).0))

pub none_below_limit : HasNoPath limited 0
none_below_limit ps a h = no_road h.issuers a (from_valid limited 0 ps a h)

abbrev two_anchors : List Item
two_anchors = certificate_item (anchor_named 0x63) ∷ certificate_item (anchor_named 0x63) ∷ []

abbrev equals : Graph
equals = graph_of_items (vouching_for_all false) (bundle equal_issuers) two_anchors

valid_among_equals : IsValidPath equals 0 (0 ∷ 1 ∷ []) 0
valid_among_equals =
    let r = vouching_for_all false in
    let cs = equal_issuers in
    valid_from equals (fit_is_usable r (bundle cs) two_anchors) 0 (1 ∷ []) 0 (
      (lit< tt, λ d. (issued_by_b, refl, target_usable)),
      (lit< tt, λ d. (lit< tt, λ e. link r refl cs issued_by_b authority_b refl tt (names_none issued_by_b authority_b refl))),
      (
        (lit< tt, λ d. (authority_b, refl, authority_is_fit)),
        omega arith,
        (lit< tt, λ d. (lit< tt, λ e. anchor_link r refl cs authority_b (anchor_named 0x63) refl tt)),
      ),
    )

-- the target isn't issued under an anchor's name, nor under its own
alone_among_equals : (a : ℕ) → FromTarget equals 0 [] a → ⊥
alone_among_equals zero t = unlike 0x62 0x63 (λ e. omega (arith, e)) (anchor_names (vouching_for_all false) (bundle equal_issuers) issued_by_b (anchor_named 0x63) ((t.1.1 (certificate_item plain_b)).1 (certificate_item plain_b)))
alone_among_equals (suc zero) t = unlike 0x62 0x63 (λ e. omega (arith, e)) (anchor_names (vouching_for_all false) (bundle equal_issuers) issued_by_b (anchor_named 0x63) ((t.1.1 (certificate_item plain_b)).1 (certificate_item plain_b)))
alone_among_equals (suc (suc a)) t = absurd (omega (arith, (t.1.1 (certificate_item plain_b)).0))

again_among_equals : (is : List ℕ) (a : ℕ) → FromTarget equals 0 (0 ∷ is) a → ⊥
again_among_equals is a t = not_empty 0x62 (link_names (vouching_for_all false) (bundle equal_issuers) issued_by_b issued_by_b ((t.1.1 (certificate_item plain_b)).1 (certificate_item plain_b)))

-- what is at the place where a list of two differs from a path with a smaller position there
smaller : (issuers front prest qrest : List ℕ) (p q a : ℕ) → 0 ∷ issuers ≡ front ++ p ∷ prest → 0 ∷ 1 ∷ [] ≡ front ++ q ∷ qrest → p < q → FromTarget equals 0 issuers a → ⊥
smaller issuers [] prest qrest p q a e f less t = let zero_is : 0 ≡ q = ap (λ (s : List ℕ). get_or s 0 0) f in omega (arith, less, zero_is)
smaller issuers (x ∷ []) prest qrest p q a e f less t =
    let one_is : 1 ≡ q = ap (λ (s : List ℕ). get_or s 1 0) f in
    let none : p ≡ 0 = omega (arith, less, one_is) in
    let is : issuers ≡ 0 ∷ prest = ap (drop 1) e ∙ ap (λ z. z ∷ prest) none in
    again_among_equals prest a (subst (λ (is : List ℕ). FromTarget equals 0 is a) is t)
smaller issuers (x ∷ y ∷ front) prest qrest p q a e f less t = let long = ap (λ (s : List ℕ). length s) f ∙ ap (λ n. suc (suc n)) (length-append front (q ∷ qrest)) in absurd (omega arith)

shorter : (issuers : List ℕ) (a : ℕ) → length (0 ∷ issuers) < 2 → FromTarget equals 0 issuers a → ⊥
shorter [] a less t = alone_among_equals a t
shorter (w ∷ is) a less t = absurd (omega (arith, less))

pub first_of_equals : IsFirstPath equals 0 (0 ∷ 1 ∷ []) 0
first_of_equals = record {
  valid = valid_among_equals;
  first = λ qs b h before.
      let t = from_valid equals 0 qs b h in
      elim before [
        | inl less ↦ shorter h.issuers b (omega (arith, less, ap (λ (s : List ℕ). length s) h.starts)) t
        | inr same ↦ elim same [
          | inl at ↦ smaller h.issuers at.1.0 at.1.3 at.1.4 at.1.1 at.1.2 b (sym h.starts ∙ at.1.5) at.1.6 at.1.7 t
          | inr anchor ↦ omega (arith, anchor.1)
        ]
      ];
}
