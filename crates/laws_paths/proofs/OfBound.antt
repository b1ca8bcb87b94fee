-- An authority of b under c under d, where c's path length lets no further authority stand below it: there is no path, and there would
-- be one without path lengths.
use Rattle.std.proofs.Common.{◌≡◌, ◌≢◌, ◌∙◌, ap, sym, subst, refl, zero, suc, ℕ, true, false, List, [], ◌∷◌, ◌++◌, map, length, length-append, get_or, arith, Some, None, inl, inr, lit<, Global}
use Rattle.std.specs.List.{Contains}
use Rattle.cert_graph.specs.declared.answer.Answer.TheVariants.{NoPath}
use Rattle.cert_graph.specs.declared.reach.Reach.{Reach}
use Rattle.cert_graph.specs.declared.reach.Reach.TheVariants.{No, UpTo}
use Rattle.cert_graph.specs.Adequate.{HasAnchored, HasAnchoredAt, IsAdequate, IsSuccessor, at_row}
use Rattle.cert_graph.specs.Graph.{Graph}
use Rattle.cert_graph.proofs.PathLaws.{valid_from}
use Rattle.cert_model.specs.Class.{certificate}
use Rattle.cert_model.specs.Examples.{common_name, issued_by_b, key}
use Rattle.cert_model.specs.Extended.{EachUnder, IsWithout, SomeUnder, basic_constraints, key_usage, name_constraints, policy_constraints}
use Rattle.cert_model.specs.Fields.{Certificate, Extension, Number}
use Rattle.cert_model.specs.Octets.{attribute_octets, key_octets, name_octets, relative_name_octets}
use Rattle.cert_judge.specs.Constraints.{BasicConstraints, IsBasicConstraints, basic_constraints_octets}
use Rattle.cert_judge.specs.Examples.{anchor_named, authority, certificate_item, extension, in_june, limited_above, limited_to, unlimited}
use Rattle.cert_judge.specs.Further.{no_identifier}
use Rattle.cert_judge.specs.ItemGraph.{IsAnchorLink, IsIssuedUnder, IsLink, KeyIdsAgree, graph_of_items}
use Rattle.cert_judge.specs.Judging.{HasConstraints, HasUsage, IsAuthority, IsFitIssuer, IsProcessed, IsSigner}
use Rattle.cert_judge.specs.LawsOfItems.{rules_from}
use Rattle.cert_judge.specs.Revoking.{IsSatisfied, Item, JudgingContext}
use Rattle.cert_judge.proofs.ExampleLists.{no_list, target_usable}
use Rattle.cert_judge.proofs.Examples.{alone_distinct, june_valid, one}
use Rattle.cert_judge.proofs.Grouping.{one_certificate}
use Rattle.cert_judge.proofs.Linking.{fit_is_usable}
use Rattle.certpath_why.specs.Laws.{IsUncountedPath, without_lengths}
use Rattle.laws_judge.specs.Worked.{always}
use Rattle.laws_paths.specs.Worked.{no_row, under_d}

abbrev pub rules : JudgingContext
rules = rules_from in_june false always

abbrev pub items : List Item
items = map certificate_item limited_above

abbrev pub limited : Graph
limited = graph_of_items rules items under_d

abbrev pub plain_b : Certificate
plain_b = authority 0x62 0x63 key unlimited

abbrev pub limited_c : Certificate
limited_c = authority 0x63 0x64 key (limited_to 0)

-- ---- authorities

abbrev pub without_limit : BasicConstraints
without_limit = record { ca = true; path_len = None }

abbrev pub with_limit : BasicConstraints
with_limit = record { ca = true; path_len = Some (0 ∷ []) }

unlimited_written : IsBasicConstraints unlimited without_limit
unfolding basic_constraints_octets
unlimited_written = record { in_range = tt; spelled = refl }

zero_written : IsBasicConstraints (limited_to 0) with_limit
unfolding basic_constraints_octets
zero_written = record { in_range = record { number = record { shortest = refl; sign = refl }; small = lit< tt }; spelled = refl }

fit : (subject issuer : ℕ) (value : List ℕ) (b : BasicConstraints) → IsBasicConstraints value b → b.ca ≡ true → IsFitIssuer no_identifier in_june (authority subject issuer key value)
unfolding EachUnder SomeUnder IsWithout IsProcessed
fit subject issuer value b written ca =
    let e = extension basic_constraints true value in
    record {
      usable = record {
        valid = june_valid;
        extensions = record {
          distinct = alone_distinct e;
          processed = one (IsProcessed no_identifier) e (λ c. inl (inl refl));
          constraints = one (λ (e : Extension). e.identifier ≡ basic_constraints → HasConstraints e.value) e (λ same. (b, written));
          usage = one (λ (e : Extension). e.identifier ≡ key_usage → HasUsage e.value) e (λ same. absurd cc);
        };
      };
      issues = record {
        authority = (e, (0, lit< tt, refl), refl, (b, written, ca));
        signer = one (λ (e : Extension). e.identifier ≡ key_usage → IsSigner e.value) e (λ same. absurd cc);
        no_name_constraints = one (λ (e : Extension). e.identifier ≢ name_constraints) e (λ same. cc);
        no_policy_constraints = one (λ (e : Extension). e.identifier ≢ policy_constraints) e (λ same. cc);
      };
    }

no_extension : (e : Extension) → Contains issued_by_b.extensions e → ⊥
no_extension e (k, lt, is) = omega (arith, lt)

unfit : limited.Fit 0 → ⊥
unfolding SomeUnder
unfit h =
    let f = h.1 (certificate_item issued_by_b) in
    let same = one_certificate (certificate issued_by_b) f.0 issued_by_b f.1 refl in
    let authority_there = subst (λ (c : Certificate). SomeUnder basic_constraints IsAuthority c.extensions) same f.2.issues.authority in
    no_extension authority_there.0 authority_there.1

-- ---- links

only_certificates : (cs : List Certificate) (x : Item) → Contains (map certificate_item cs) x → (c : Certificate) × (x ≡ certificate_item c)
only_certificates [] x (k, lt, is) = absurd (omega (arith, lt))
only_certificates (c ∷ cs) x (zero, lt, is) = (c, sym is)
only_certificates (c ∷ cs) x (suc k, lt, is) = only_certificates cs x (k, omega (arith, lt), is)

satisfied : (name own : List ℕ) (serial : Number) → IsSatisfied rules items name own serial
satisfied name own serial = record {
  kept = λ h. let f = only_certificates limited_above h.0 h.2 in no_list h.0 f.0 h.1 f.1 h.3.is_list;
  listed = λ d. absurd cc;
}

issued : (c d : Certificate) → name_octets c.issuer ≡ name_octets d.subject → IsIssuedUnder rules items (certificate_item c) c (name_octets d.subject) (key_octets d.key)
issued c d issuer = record { issuer = issuer; vouched = refl; satisfied = satisfied (name_octets d.subject) (key_octets d.key) c.serial }

names_none : (d : Certificate) → KeyIdsAgree issued_by_b d
names_none d = λ a s names own.
    let long = ap (λ (es : List Extension). length es) names.stands.place ∙ length-append names.stands.front (names.stands.extension ∷ names.stands.back) in
    absurd (omega arith)

first_is : (e x : Extension) (front back : List Extension) → e ∷ [] ≡ front ++ x ∷ back → e ≡ x
first_is e x [] back is = ap (λ (es : List Extension). get_or es 0 e) is
first_is e x (f ∷ front) back is = let long = ap (λ (es : List Extension). length es) is ∙ ap suc (length-append front (x ∷ back)) in absurd (omega arith)

names_no_issuer : (subject issuer : ℕ) (value : List ℕ) (d : Certificate) → KeyIdsAgree (authority subject issuer key value) d
names_no_issuer subject issuer value d = λ a s names has.
    let is = first_is (extension basic_constraints true value) names.stands.extension names.stands.front names.stands.back names.stands.place in
    let e = ap (λ (x : Extension). x.identifier) is ∙ names.stands.under in
    absurd cc

pub fit_b : limited.Fit 1
fit_b = (lit< tt, λ d. (plain_b, refl, fit 0x62 0x63 unlimited without_limit unlimited_written refl))

pub fit_c : limited.Fit 2
fit_c = (lit< tt, λ d. (limited_c, refl, fit 0x63 0x64 (limited_to 0) with_limit zero_written refl))

pub b_under_c : limited.Edge 1 2
b_under_c = (lit< tt, λ d. (lit< tt, λ e. (plain_b, refl, (limited_c, refl, (issued plain_b limited_c refl, names_no_issuer 0x62 0x63 unlimited limited_c)))))

pub c_under_anchor : limited.AnchorEdge 2 0
c_under_anchor = (lit< tt, λ d. (lit< tt, λ e. (limited_c, refl, (anchor_named 0x64, refl, issued limited_c (anchor_named 0x64) refl))))

pub uncounted : IsUncountedPath rules items under_d 0 (0 ∷ 1 ∷ 2 ∷ []) 0
uncounted =
    valid_from (without_lengths limited) (fit_is_usable rules items under_d) 0 (1 ∷ 2 ∷ []) 0 (
      (lit< tt, λ d. (issued_by_b, refl, target_usable)),
      (lit< tt, λ d. (lit< tt, λ e. (issued_by_b, refl, (plain_b, refl, (issued issued_by_b plain_b refl, names_none plain_b))))),
      (fit_b, tt, b_under_c, (fit_c, tt, c_under_anchor)),
    )

-- ---- names

link_names : (c d : Certificate) → IsLink rules items (certificate_item c) (certificate_item d) → name_octets c.issuer ≡ name_octets d.subject
link_names c d h =
    let p = one_certificate (certificate c) h.0 c h.1 refl in
    let q = one_certificate (certificate d) h.2.0 d h.2.1 refl in
    sym (ap (λ (x : Certificate). name_octets x.issuer) p) ∙ h.2.2.0.issuer ∙ ap (λ (x : Certificate). name_octets x.subject) q

anchor_names : (c d : Certificate) → IsAnchorLink rules items (certificate_item c) (certificate_item d) → name_octets c.issuer ≡ name_octets d.subject
anchor_names c d h =
    let p = one_certificate (certificate c) h.0 c h.1 refl in
    let q = one_certificate (certificate d) h.2.0 d h.2.1 refl in
    sym (ap (λ (x : Certificate). name_octets x.issuer) p) ∙ h.2.2.issuer ∙ ap (λ (x : Certificate). name_octets x.subject) q

pub unlike : (x y : ℕ) → x ≢ y → name_octets (common_name x) ≡ name_octets (common_name y) → ⊥
unfolding name_octets relative_name_octets attribute_octets
unlike x y apart e = apart (ap (λ (s : List ℕ). get_or s 13 0) e)

not_empty : (x : ℕ) → name_octets (common_name x) ≡ name_octets [] → ⊥
unfolding name_octets relative_name_octets attribute_octets
not_empty x e = let second = ap (λ (s : List ℕ). get_or s 1 0) e in omega arith

no_anchor : (c : Certificate) (letter : ℕ) → c.issuer ≡ common_name letter → letter ≢ 0x64 → IsAnchorLink rules items (certificate_item c) (certificate_item (anchor_named 0x64)) → ⊥
no_anchor c letter is apart h = unlike letter 0x64 apart (sym (ap name_octets is) ∙ anchor_names c (anchor_named 0x64) h)

first_not_anchored : (a : ℕ) → limited.AnchorEdge 0 a → ⊥
first_not_anchored zero h = no_anchor issued_by_b 0x62 refl (λ e. omega (arith, e)) ((h.1 (certificate_item plain_b)).1 (certificate_item plain_b))
first_not_anchored (suc a) h = let lt = (h.1 (certificate_item plain_b)).0 in omega (arith, lt)

pub second_not_anchored : (a : ℕ) → limited.AnchorEdge 1 a → ⊥
second_not_anchored zero h = no_anchor plain_b 0x63 refl (λ e. omega (arith, e)) ((h.1 (certificate_item plain_b)).1 (certificate_item plain_b))
second_not_anchored (suc a) h = let lt = (h.1 (certificate_item plain_b)).0 in omega (arith, lt)

-- ---- no path

abbrev pub row : List Reach
row = No ∷ No ∷ UpTo 0 ∷ []

pub anchored : HasAnchored limited row
unfolding HasAnchoredAt
anchored zero a is edge = absurd (first_not_anchored a edge)
anchored (suc zero) a is edge = absurd (second_not_anchored a edge)
anchored (suc (suc zero)) a is edge = omega arith
anchored (suc (suc (suc v))) a is edge = let lt = is.0 in absurd (omega (arith, lt))

pub follows : IsSuccessor limited row row
unfolding name_octets relative_name_octets attribute_octets
follows zero w is fw edge = absurd (unfit is)
follows (suc zero) zero is fw edge = absurd (not_empty 0x63 (link_names plain_b issued_by_b ((edge.1 (certificate_item plain_b)).1 (certificate_item plain_b))))
follows (suc zero) (suc zero) is fw edge = absurd (unlike 0x63 0x62 (λ e. omega (arith, e)) (link_names plain_b plain_b ((edge.1 (certificate_item plain_b)).1 (certificate_item plain_b))))
follows (suc zero) (suc (suc zero)) is fw edge = tt
follows (suc (suc zero)) zero is fw edge = absurd (not_empty 0x64 (link_names limited_c issued_by_b ((edge.1 (certificate_item plain_b)).1 (certificate_item plain_b))))
follows (suc (suc zero)) (suc zero) is fw edge = absurd (unlike 0x64 0x62 (λ e. omega (arith, e)) (link_names limited_c plain_b ((edge.1 (certificate_item plain_b)).1 (certificate_item plain_b))))
follows (suc (suc zero)) (suc (suc zero)) is fw edge = absurd (unlike 0x64 0x63 (λ e. omega (arith, e)) (link_names limited_c limited_c ((edge.1 (certificate_item plain_b)).1 (certificate_item plain_b))))
follows (suc (suc (suc v))) w is fw edge = let lt = is.0 in absurd (omega (arith, lt))
follows (suc zero) (suc (suc (suc w))) is fw edge = let lt = fw.0 in absurd (omega (arith, lt))
follows (suc (suc zero)) (suc (suc (suc w))) is fw edge = let lt = fw.0 in absurd (omega (arith, lt))

nothing_follows : (w : ℕ) → limited.Fit w → limited.Edge 0 w → at_row row w ≡ No
nothing_follows zero fw edge = refl
nothing_follows (suc zero) fw edge = refl
nothing_follows (suc (suc zero)) fw edge = absurd (unlike 0x62 0x63 (λ e. omega (arith, e)) (link_names issued_by_b limited_c ((edge.1 (certificate_item plain_b)).1 (certificate_item plain_b))))
nothing_follows (suc (suc (suc w))) fw edge = let lt = fw.0 in absurd (omega (arith, lt))

pub none : (alloc : Global) → IsAdequate limited 0 (NoPath (no_row alloc))
none alloc = record {
  certificate = (lit< tt, λ d. (issued_by_b, refl, tt));
  row = row;
  one = refl;
  whole = refl;
  anchored = anchored;
  fixed = follows;
  closed = inr (first_not_anchored, nothing_follows);
}
