-- Messages that were logged, one after another.
use Rattle.std.proofs.Common.{◌≡◌, ◌∙◌, ap, refl, sym, subst, map, true, false, ◌&&◌, Bool, List, [], ◌∷◌, ◌++◌, append_assoc, ℕ, Result, Ok, Err, inl, inr}
use Rattle.std.specs.List.{FoldsTo, list_all}
use Rattle.std.proofs.lemmas.List.{append-nil}
use Rattle.std.proofs.lemmas.List.Folds.{list_all-map, list_all-append}
use Rattle.x509_validate.specs.Messages.{Message, passes, all_pass}
use Rattle.x509_validate.specs.Logging.{Tells, TellsWeight, Takes, TakesAll, RefusesNext, TakesSome}
use Rattle.x509_validate.specs.View.{message_view}
use Rattle.x509_validate.specs.declared.logger.LogError.{LogError}
use Rattle.x509_validate.specs.declared.logger.LogError.TheVariants as errors
use Rattle.x509_validate.specs.declared.message.Message as code

pub folds_join : {P A : Type 0} (R : P → A → P → Type 0) (p : P) (xs ys : List A) (q r : P) → FoldsTo R p xs q → FoldsTo R q ys r → FoldsTo R p (xs ++ ys) r
folds_join R p [] ys q r e s = subst (λ z. FoldsTo R z ys r) (sym e) s
folds_join R p (x ∷ xs) ys q r f s = (f.0, f.1, folds_join R f.0 xs ys q r f.2 s)

-- a front of the messages was taken, and the rest is still to come
pub record Progress {L : Type 0} (warns errs : Tells L) (old : L) (all : List Message) (now : L) (rest : List Message) : Type 0 where
  pub front : List Message
  pub parts : all ≡ front ++ rest
  pub taken : TakesAll warns errs old front now

pub begun : {L : Type 0} (warns errs : Tells L) (old : L) (all : List Message) → Progress warns errs old all old all
begun warns errs old all = record { front = []; parts = refl; taken = refl }

pub further : {L : Type 0} (warns errs : Tells L) (old : L) (all : List Message) (now : L) (m : Message) (rest : List Message) (next : L) → Progress warns errs old all now (m ∷ rest) → Takes warns errs now m next → Progress warns errs old all next rest
further warns errs old all now m rest next p t = record {
  front = p.front ++ m ∷ [];
  parts = p.parts ∙ sym (append_assoc p.front (m ∷ []) rest);
  taken = folds_join (Takes warns errs) old p.front (m ∷ []) now next p.taken (next, t, refl);
}

pub done : {L : Type 0} (warns errs : Tells L) (old : L) (all : List Message) (now : L) → Progress warns errs old all now [] → TakesAll warns errs old all now
done warns errs old all now p = subst (λ z. TakesAll warns errs old z now) (sym (p.parts ∙ append-nil p.front)) p.taken

pub refused : {L : Type 0} (warns errs : Tells L) (old : L) (all : List Message) (now : L) (m : Message) (rest : List Message) (e : LogError) (next : L) → Progress warns errs old all now (m ∷ rest) → TellsWeight warns errs m.weight now m.text (Err e) next → TakesSome warns errs old all e next
refused warns errs old all now m rest e next p t = record { front = p.front; back = m ∷ rest; parts = p.parts; between = now; taken = p.taken; ends = inr t }

-- nothing was logged, since memory ran out
pub untold : {L : Type 0} (warns errs : Tells L) (old : L) (all : List Message) (e : LogError) → e ≡ errors.OutOfMemory → TakesSome warns errs old all e old
untold warns errs old [] e why = record { front = []; back = []; parts = refl; between = old; taken = refl; ends = (why, refl) }
untold warns errs old (m ∷ ms) e why = record { front = []; back = m ∷ ms; parts = refl; between = old; taken = refl; ends = inl (why, refl) }

-- two lists of messages, one after another
pub joined : {L : Type 0} (warns errs : Tells L) (old : L) (xs ys : List Message) (between new : L) → TakesAll warns errs old xs between → TakesAll warns errs between ys new → TakesAll warns errs old (xs ++ ys) new
joined warns errs old xs ys between new p q = folds_join (Takes warns errs) old xs ys between new p q

more_back : {L : Type 0} (warns errs : Tells L) (old : L) (xs ys : List Message) (e : LogError) (new : L) → RefusesNext warns errs old xs e new → RefusesNext warns errs old (xs ++ ys) e new
more_back warns errs old [] [] e new p = p
more_back warns errs old [] (y ∷ ys) e new p = inl p
more_back warns errs old (x ∷ xs) ys e new p = p

pub first_refused : {L : Type 0} (warns errs : Tells L) (old : L) (xs ys : List Message) (e : LogError) (new : L) → TakesSome warns errs old xs e new → TakesSome warns errs old (xs ++ ys) e new
first_refused warns errs old xs ys e new p = record {
  front = p.front;
  back = p.back ++ ys;
  parts = ap (λ z. z ++ ys) p.parts ∙ append_assoc p.front p.back ys;
  between = p.between;
  taken = p.taken;
  ends = more_back warns errs p.between p.back ys e new p.ends;
}

pub second_refused : {L : Type 0} (warns errs : Tells L) (old : L) (xs ys : List Message) (between : L) (e : LogError) (new : L) → TakesAll warns errs old xs between → TakesSome warns errs between ys e new → TakesSome warns errs old (xs ++ ys) e new
second_refused warns errs old xs ys between e new q p = record {
  front = xs ++ p.front;
  back = p.back;
  parts = ap (λ z. xs ++ z) p.parts ∙ sym (append_assoc xs p.front p.back);
  between = p.between;
  taken = folds_join (Takes warns errs) old xs p.front between p.between q p.taken;
  ends = p.ends;
}

pub passes_each : (xs : List code.Message) → list_all (λ m. passes (message_view m)) xs ≡ all_pass (map message_view xs)
passes_each xs = sym (list_all-map passes message_view xs)

pub both_pass : (xs ys : List Message) → all_pass (xs ++ ys) ≡ (all_pass xs && all_pass ys)
both_pass xs ys = list_all-append passes xs ys
