-- What the critical extensions that aren't judged here leave to the caller.
use Rattle.std.specs.Prelude.{◌↔◌}
use Rattle.std.proofs.Common.{◌≡◌, ◌∙◌, ap, sym, subst, refl, ℕ, ◌+◌, ◌<◌, Bor, take, Bool, true, false, List, [], ◌∷◌, ◌++◌, map, length, length-append, arith, get_or, inl, inr, lit<}
use Rattle.std.specs.Prelude.{◌⊎◌}
use Rattle.std.specs.List.{All, Contains}
use Rattle.std.proofs.Math.ListN.{get_or-append}
use Rattle.std.proofs.Math.Seq.{get_or-append_seam}
use Rattle.std.proofs.lemmas.Bool.{false≢true}
use Rattle.std.proofs.lemmas.List.{take_more, map-append}
use Rattle.std.proofs.lemmas.List.Elements.{All-push, All-nil, Contains-append_left, Contains-append_right}
use Rattle.cert_graph.specs.declared.nodes.Node.{Node}
use Rattle.cert_model.specs.Fields.{Identifier, CivilTime, Extension, Certificate}
use Rattle.cert_model.specs.View.{ext_view}
use Rattle.cert_model.specs.declared.fields.ExtField.{ExtField}
use Rattle.cert_judge.specs.declared.judged.JudgedCertificate.{JudgedCertificate}
use Rattle.cert_judge.specs.Judging.{IsJudgedHere, IsProcessed, IsUsable, IsFitIssuer}
use Rattle.cert_judge.specs.Further.{any_identifier, no_identifier, IsFurther, AreFurther}
use Rattle.cert_judge.specs.Revoking.{Item}
use Rattle.cert_judge.specs.ItemGraph.{IsCertificateWith}
use Rattle.cert_judge.specs.JudgedItems.{IsNodeOf, IsJudgedCertificate}
use Rattle.cert_judge.proofs.Linking.{with_iff}

-- whoever processes more, processes what was processed
pub processed_more : (P Q : Identifier → Type 0) (e : Extension) → (P e.identifier → Q e.identifier) → IsProcessed P e → IsProcessed Q e
unfolding IsProcessed
processed_more P Q e f h = λ critical. elim (h critical) [ inl here ↦ inl here | inr more ↦ inr (f more) ]

pub all_processed_more : (P Q : Identifier → Type 0) (es : List Extension) → ((id : Identifier) → P id → Q id) → All (IsProcessed P) es → All (IsProcessed Q) es
all_processed_more P Q es f h = λ k d lt. processed_more P Q (get_or es k d) (f (get_or es k d).identifier) (h k d lt)

pub processed_by_any : (es : List Extension) → All (IsProcessed any_identifier) es
unfolding IsProcessed
processed_by_any es = λ k d lt critical. inr tt

-- if the caller processes nothing, a critical extension is judged here
pub processed_here : (P : Identifier → Type 0) (e : Extension) → ((id : Identifier) → P id → ⊥) → IsProcessed P e ↔ (e.critical ≡ true → IsJudgedHere e.identifier)
unfolding IsProcessed
processed_here P e none = (λ h critical. elim (h critical) [ inl here ↦ here | inr more ↦ absurd (none e.identifier more) ], λ h critical. inl (h critical))

true_or : (b : Bool) → (b ≡ true → ⊥) ⊎ (b ≡ true)
true_or true = inr refl
true_or false = inl (λ e. absurd (false≢true e))

-- an extension that isn't processed is critical, and not judged here
critical_of : (e : Extension) → (IsProcessed no_identifier e → ⊥) → e.critical ≡ true
unfolding IsProcessed
critical_of e unprocessed = elim (true_or e.critical) [ inl f ↦ absurd (unprocessed (λ t. absurd (f t))) | inr t ↦ t ]

not_here : (e : Extension) → (IsProcessed no_identifier e → ⊥) → IsJudgedHere e.identifier → ⊥
unfolding IsProcessed
not_here e unprocessed here = unprocessed (λ critical. inl here)

pub further_none : AreFurther [] []
further_none = record { whole = All-nil (IsProcessed (Contains [])); own = All-nil (IsFurther []) }

further_still : (es : List Extension) (e : Extension) (id : Identifier) → IsFurther es id → IsFurther (es ++ e ∷ []) id
further_still es e id h =
    let a = h.0 in
    let long = length-append es (e ∷ []) in
    let lt = a.2 in
    ((a.0, a.1, omega arith, get_or-append es (e ∷ []) a.1 a.0 a.2 ∙ a.3, a.4), h.1)

pub further_same : (es : List Extension) (ids : List Identifier) (e : Extension) → AreFurther es ids → IsProcessed no_identifier e → AreFurther (es ++ e ∷ []) ids
further_same es ids e h p = record {
  whole = All-push (IsProcessed (Contains ids)) es e h.whole (processed_more no_identifier (Contains ids) e (λ m. absurd m) p);
  own = λ k d lt. further_still es e (get_or ids k d) (h.own k d lt);
}

pub further_more : (es : List Extension) (ids : List Identifier) (e : Extension) → AreFurther es ids → (IsProcessed no_identifier e → ⊥) → AreFurther (es ++ e ∷ []) (ids ++ e.identifier ∷ [])
unfolding IsProcessed
further_more es ids e h unprocessed =
    let more = ids ++ e.identifier ∷ [] in
    let long = length-append es (e ∷ []) in
    let one : Contains (e.identifier ∷ []) e.identifier = (0, lit< tt, refl) in
    let last : IsProcessed (Contains more) e = λ critical. inr (Contains-append_right ids (e.identifier ∷ []) e.identifier one) in
    let own : IsFurther (es ++ e ∷ []) e.identifier = ((length es, e, omega arith, get_or-append_seam es e [] e, (critical_of e unprocessed, refl)), not_here e unprocessed) in
    record {
      whole = All-push (IsProcessed (Contains more)) es e (all_processed_more (Contains ids) (Contains more) es (λ id. Contains-append_left ids (e.identifier ∷ []) id) h.whole) last;
      own = All-push (IsFurther (es ++ e ∷ [])) ids e.identifier (λ k d lt. further_still es e (get_or ids k d) (h.own k d lt)) own;
    }

-- one extension of the code's more
next_of : (xs : List ExtField) (k : ℕ) (x : ExtField) → k < length xs → map ext_view (take k xs) ++ ext_view (get_or xs k x) ∷ [] ≡ map ext_view (take (k + 1) xs)
next_of xs k x lt = sym (ap (map ext_view) (take_more xs k x lt) ∙ map-append ext_view (take k xs) (get_or xs k x ∷ []))

pub next_same : (xs : List ExtField) (k : ℕ) (x : ExtField) (ids : List Identifier) → k < length xs → AreFurther (map ext_view (take k xs)) ids → IsProcessed no_identifier (ext_view (get_or xs k x)) → AreFurther (map ext_view (take (k + 1) xs)) ids
next_same xs k x ids lt h p = subst (λ es. AreFurther es ids) (next_of xs k x lt) (further_same (map ext_view (take k xs)) ids (ext_view (get_or xs k x)) h p)

pub next_more : (xs : List ExtField) (k : ℕ) (x : ExtField) (bs : List (Bor (List ℕ))) → k < length xs → AreFurther (map ext_view (take k xs)) (map (λ (s : Bor (List ℕ)). s.now) bs) → (IsProcessed no_identifier (ext_view (get_or xs k x)) → ⊥)
    → AreFurther (map ext_view (take (k + 1) xs)) (map (λ (s : Bor (List ℕ)). s.now) (bs ++ (get_or xs k x).identifier ∷ []))
next_more xs k x bs lt h unprocessed =
    let now : Bor (List ℕ) → List ℕ = λ s. s.now in
    let e = ext_view (get_or xs k x) in
    subst (λ ids. AreFurther (map ext_view (take (k + 1) xs)) ids) (sym (map-append now bs ((get_or xs k x).identifier ∷ [])))
    (subst (λ es. AreFurther es (map now bs ++ e.identifier ∷ [])) (next_of xs k x lt) (further_more (map ext_view (take k xs)) (map now bs) e h unprocessed))

-- all are processed exactly if the caller processes the further ones
pub processed_iff : (P : Identifier → Type 0) (es : List Extension) (ids : List Identifier) → AreFurther es ids → All (IsProcessed P) es ↔ All P ids
unfolding IsProcessed
processed_iff P es ids f = (
  λ h k d lt.
      let o = f.own k d lt in
      let a = o.0 in
      let p : IsProcessed P a.1 = subst (IsProcessed P) a.3 (h a.0 a.1 a.2) in
      elim (p a.4.0) [ inl here ↦ absurd (o.1 (subst IsJudgedHere a.4.1 here)) | inr more ↦ subst P a.4.1 more ],
  λ h k d lt. processed_more (Contains ids) P (get_or es k d) (λ c. subst P c.2 (h c.0 (get_or es k d).identifier c.1)) (f.whole k d lt),
)

usable_with : (P Q : Identifier → Type 0) (moment : CivilTime) (c : Certificate) → All (IsProcessed Q) c.extensions → IsUsable P moment c → IsUsable Q moment c
usable_with P Q moment c h u =
    let e = u.extensions in
    record { valid = u.valid; extensions = record { distinct = e.distinct; processed = h; constraints = e.constraints; usage = e.usage } }

pub usable_more : (P Q : Identifier → Type 0) (moment : CivilTime) (c : Certificate) → ((id : Identifier) → P id → Q id) → IsUsable P moment c → IsUsable Q moment c
usable_more P Q moment c f u = usable_with P Q moment c (all_processed_more P Q c.extensions f u.extensions.processed) u

pub fit_more : (P Q : Identifier → Type 0) (moment : CivilTime) (c : Certificate) → ((id : Identifier) → P id → Q id) → IsFitIssuer P moment c → IsFitIssuer Q moment c
fit_more P Q moment c f u = record { usable = usable_more P Q moment c f u.usable; issues = u.issues }

pub usable_iff : (P : Identifier → Type 0) (moment : CivilTime) (c : Certificate) (ids : List Identifier) → AreFurther c.extensions ids → IsUsable P moment c ↔ (IsUsable any_identifier moment c × All P ids)
usable_iff P moment c ids f =
    let i = processed_iff P c.extensions ids f in (
      λ u. (usable_with P any_identifier moment c (processed_by_any c.extensions) u, i.0 u.extensions.processed),
      λ h. usable_with any_identifier P moment c (i.1 h.1) h.0,
    )

-- and by the extensions themselves
pub usable_apart : (P : Identifier → Type 0) (moment : CivilTime) (c : Certificate) → IsUsable P moment c ↔ (IsUsable any_identifier moment c × All (IsProcessed P) c.extensions)
usable_apart P moment c = (λ u. (usable_with P any_identifier moment c (processed_by_any c.extensions) u, u.extensions.processed), λ h. usable_with any_identifier P moment c h.1 h.0)

-- A certificate and what is judged of it by itself.
module _ (Q : List ℕ → List ℕ → Type 0) (moment : CivilTime) (x : Item) (j : JudgedCertificate) (h : IsJudgedCertificate moment x j) where
  abbrev P : Identifier → Type 0
  P = Q x.octets

  abbrev further : List Identifier
  further = map (λ s. s.now) j.further.items

  usable_there : IsCertificateWith (IsUsable P moment) x ↔ (IsCertificateWith (IsUsable any_identifier moment) x × All P further)
  usable_there =
      let a = with_iff (IsUsable P moment) x h.fields h.class in
      let b = with_iff (IsUsable any_identifier moment) x h.fields h.class in
      let i = usable_iff P moment h.fields further h.further in
      (λ u. let v = i.0 (a.0 u) in (b.1 v.0, v.1), λ v. a.1 (i.1 (b.0 v.0, v.1)))

  fit_there : IsCertificateWith (IsFitIssuer P moment) x ↔ (IsCertificateWith (IsFitIssuer any_identifier moment) x × All P further)
  fit_there =
      let a = with_iff (IsFitIssuer P moment) x h.fields h.class in
      let b = with_iff (IsFitIssuer any_identifier moment) x h.fields h.class in
      let i = usable_iff P moment h.fields further h.further in (
        λ u. let f = a.0 u in let v = i.0 f.usable in (b.1 (record { usable = v.0; issues = f.issues }), v.1),
        λ v. let f = b.0 v.0 in a.1 (record { usable = i.1 (f.usable, v.1); issues = f.issues }),
      )

  pub node_if : All (Q j.octets.now) further → IsNodeOf P moment x j.node
  node_if all =
      let here : All P further = subst (λ o. All (Q o) further) h.octets all in
      let u = usable_there in
      let f = fit_there in
      record {
        certificate = h.node.certificate;
        usable = (λ t. u.1 (h.node.usable.0 t, here), λ v. h.node.usable.1 (u.0 v).0);
        fit = (λ t. f.1 (h.node.fit.0 t, here), λ v. h.node.fit.1 (f.0 v).0);
        self_issued = h.node.self_issued;
        limit = h.node.limit;
      }

  pub node_unless : (n : Node) → n.certificate ≡ true → n.usable ≡ false → n.fit ≡ false → n.self_issued ≡ j.node.self_issued → (All (Q j.octets.now) further → ⊥) → IsNodeOf P moment x n
  node_unless n certificate usable fit self_issued not_all =
      let nowhere : All P further → ⊥ = λ a. not_all (subst (λ o. All (Q o) further) (sym h.octets) a) in
      record {
        certificate = (λ t. (h.fields, h.class, tt), λ c. certificate);
        usable = (λ t. absurd (false≢true (sym usable ∙ t)), λ u. absurd (nowhere (usable_there.0 u).1));
        fit = (λ t. absurd (false≢true (sym fit ∙ t)), λ f. absurd (nowhere (fit_there.0 f).1));
        self_issued = h.node.self_issued ∙ sym self_issued;
        limit = λ t. absurd (false≢true (sym fit ∙ t));
      }
