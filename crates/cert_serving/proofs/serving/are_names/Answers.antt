use Rattle.std.specs.Prelude.{◌==◌, ◌⊎◌, IsTrue}
use Rattle.std.proofs.Common.{◌≡◌, ◌≢◌, ◌∙◌, ◌<◌, ℕ, List, [], ◌∷◌, length, arith, ap, sym, subst, refl, true, false, Bool, inl, inr}
use Rattle.std.proofs.lemmas.Bool.{false≢true}
use Rattle.host_names.specs.Asked.{host_view}
use Rattle.cert_serving.specs.View.{general_name_view}
use Rattle.cert_serving.proofs.Written.{IsRead, read_none, read_more, read_end, read_stuck, written_long}
use Rattle.cert_serving.proofs.serving.are_names.Goals as goal

some_left : (xs : List ℕ) (b : Bool) → b ≡ (length xs == 0) → b ≡ false → xs ≢ []
some_left xs b is f e = absurd (false≢true (sym f ∙ is ∙ ap (λ (z : List ℕ). length z == 0) e))

none_left : (xs : List ℕ) (b : Bool) → b ≡ (length xs == 0) → b ≡ true → xs ≡ []
none_left [] b is t = refl
none_left (x ∷ xs) b is t = absurd (grind arith)

pub loop-rest-init : goal.loop-rest-init
loop-rest-init c = read_none (host_view c.args.host.now) c.args.content.now

pub returns-in_default : goal.returns-in_default
returns-in_default c = (
  λ h. absurd (false≢true h),
  λ w. absurd (read_stuck (host_view c.args.host.now) c.args.content.now c.loop-rest.rest.now c.loop-rest.found (some_left c.loop-rest.rest.now c.is_empty.result c.is_empty.ensures c.loop-rest-test.true) c.loop-rest.invariant (λ g r o e. c.in_default.ensures.only g r o e) w),
)

pub loop-rest-preserved-then-is_name_of : goal.loop-rest-preserved-then-is_name_of
loop-rest-preserved-then-is_name_of c =
    read_more (host_view c.args.host.now) c.args.content.now c.loop-rest.rest.now (general_name_view c.in-Some.name) c.in-Some.behind.now c.loop-rest.found true c.loop-rest.invariant c.in-Some.ensures.found.0 c.in-Some.ensures.found.1
    (λ g r o e. c.in-Some.ensures.only g r o e) (λ h. inr (c.is_name_of.ensures.0 c.if-is_name_of.true), λ h. refl)

pub loop-rest-smaller-then-is_name_of : goal.loop-rest-smaller-then-is_name_of
loop-rest-smaller-then-is_name_of c = subst (λ (z : List ℕ). length c.in-Some.behind.now < length z) (sym c.in-Some.ensures.found.1) (written_long (general_name_view c.in-Some.name) c.in-Some.behind.now)

pub loop-rest-preserved : goal.loop-rest-preserved
loop-rest-preserved c =
    read_more (host_view c.args.host.now) c.args.content.now c.loop-rest.rest.now (general_name_view c.in-Some.name) c.in-Some.behind.now c.loop-rest.found c.loop-rest.found c.loop-rest.invariant c.in-Some.ensures.found.0 c.in-Some.ensures.found.1
    (λ g r o e. c.in-Some.ensures.only g r o e)
    (λ h. inl h, λ h. elim h [ inl t ↦ t | inr k ↦ absurd (false≢true (sym c.if-is_name_of.false ∙ c.is_name_of.ensures.1 k)) ])

pub loop-rest-smaller : goal.loop-rest-smaller
loop-rest-smaller c = subst (λ (z : List ℕ). length c.in-Some.behind.now < length z) (sym c.in-Some.ensures.found.1) (written_long (general_name_view c.in-Some.name) c.in-Some.behind.now)

pub returns : goal.returns
returns c = read_end (host_view c.args.host.now) c.args.content.now c.loop-rest.rest.now c.loop-rest.found (none_left c.loop-rest.rest.now c.is_empty.result c.is_empty.ensures c.loop-rest-test.false) c.loop-rest.invariant
