-- What is kept of messages.
use Rattle.std.proofs.Common.{◌≡◌, ◌∙◌, ap, sym, inl, inr, ℕ, List, [], ◌∷◌, ◌++◌, append_assoc, map, string_bytes}
use Rattle.std.specs.Prelude.{Ok, Err}
use Rattle.std.proofs.lemmas.List.{append-nil}
use Rattle.x509_validate.specs.Messages.{Weight, warning, fault, fatal, Message}
use Rattle.x509_validate.specs.Logging.{TellsWeight, TakesAll, TakesSome, RefusesNext}
use Rattle.x509_validate.specs.Kept.{KeepsWarning, KeepsError, warning_text, error_text, warning_texts, error_texts}
use Rattle.x509_validate.specs.declared.vec_logger.VecLogger.{VecLogger}
use Rattle.x509_validate.specs.declared.logger.LogError.{LogError}
use Rattle.x509_validate.specs.declared.logger.LogError.TheVariants as errors

one_warning : (w : Weight) (text : List ℕ) (old new : VecLogger) → TellsWeight KeepsWarning KeepsError w old text (Ok tt) new
    → map string_bytes new.warnings.items ≡ map string_bytes old.warnings.items ++ warning_text w text
one_warning warning text old new p = p.0
one_warning fault text old new p = ap (map string_bytes) (sym p.1) ∙ sym (append-nil (map string_bytes old.warnings.items))
one_warning fatal text old new p = ap (map string_bytes) (sym p.1) ∙ sym (append-nil (map string_bytes old.warnings.items))

one_error : (w : Weight) (text : List ℕ) (old new : VecLogger) → TellsWeight KeepsWarning KeepsError w old text (Ok tt) new
    → map string_bytes new.errors.items ≡ map string_bytes old.errors.items ++ error_text w text
one_error warning text old new p = ap (map string_bytes) (sym p.1) ∙ sym (append-nil (map string_bytes old.errors.items))
one_error fault text old new p = p.0
one_error fatal text old new p = p.0

pub all_warnings : (ms : List Message) (old new : VecLogger) → TakesAll KeepsWarning KeepsError old ms new
    → map string_bytes new.warnings.items ≡ map string_bytes old.warnings.items ++ warning_texts ms
all_warnings [] old new p = ap (λ (v : VecLogger). map string_bytes v.warnings.items) (sym p) ∙ sym (append-nil (map string_bytes old.warnings.items))
all_warnings (m ∷ ms) old new p = all_warnings ms p.0 new p.2 ∙ ap (λ z. z ++ warning_texts ms) (one_warning m.weight m.text old p.0 p.1)
    ∙ append_assoc (map string_bytes old.warnings.items) (warning_text m.weight m.text) (warning_texts ms)

pub all_errors : (ms : List Message) (old new : VecLogger) → TakesAll KeepsWarning KeepsError old ms new
    → map string_bytes new.errors.items ≡ map string_bytes old.errors.items ++ error_texts ms
all_errors [] old new p = ap (λ (v : VecLogger). map string_bytes v.errors.items) (sym p) ∙ sym (append-nil (map string_bytes old.errors.items))
all_errors (m ∷ ms) old new p = all_errors ms p.0 new p.2 ∙ ap (λ z. z ++ error_texts ms) (one_error m.weight m.text old p.0 p.1)
    ∙ append_assoc (map string_bytes old.errors.items) (error_text m.weight m.text) (error_texts ms)

one_refused : (w : Weight) (text : List ℕ) (e : LogError) (old new : VecLogger) → TellsWeight KeepsWarning KeepsError w old text (Err e) new → e ≡ errors.OutOfMemory
one_refused warning text e old new p = p.0.0
one_refused fault text e old new p = p.0.0
one_refused fatal text e old new p = p.0.0

next_refused : (ms : List Message) (e : LogError) (old new : VecLogger) → RefusesNext KeepsWarning KeepsError old ms e new → e ≡ errors.OutOfMemory
next_refused [] e old new p = p.0
next_refused (m ∷ ms) e old new (inl p) = p.0
next_refused (m ∷ ms) e old new (inr p) = one_refused m.weight m.text e old new p

-- what is kept is refused for lack of memory alone
pub out_of_memory : (ms : List Message) (e : LogError) (old new : VecLogger) → TakesSome KeepsWarning KeepsError old ms e new → e ≡ errors.OutOfMemory
out_of_memory ms e old new p = next_refused p.back e p.between new p.ends
