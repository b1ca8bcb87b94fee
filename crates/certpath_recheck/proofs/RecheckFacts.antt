-- What comes of each input to the run, and of the check.
use Rattle.std.proofs.Common.{◌≡◌, ◌≢◌, ◌+◌, arith, refl, sym, subst, inl, inr, ℕ, Bool, List, Option, Ok, Err}
use Rattle.std.proofs.Math.Nat.{le-max_left}
use Rattle.cert_framing.specs.Held.{Framed}
use Rattle.cert_graph.specs.declared.inventory.Inventory.{Inventory}
use Rattle.cert_vouchers.specs.declared.vouchers.Vouchers.{Vouchers}
use Rattle.certpath_inputs.specs.Reads.{ReadsAll}
use Rattle.certpath_inputs.specs.declared.settings.AllSettings.{AllSettings}
use Rattle.certpath_inputs.specs.declared.demand.AskedPurpose.{AskedPurpose}
use Rattle.certpath_inputs.specs.declared.settings.RunError.{RunError}
use Rattle.certpath_inputs.specs.declared.settings.RunError.TheVariants as runs
use Rattle.certpath_inputs.specs.Inputs.{AreInputs, MeetsRefusal}
use Rattle.certpath_inputs.specs.Uses.{Use, unread, whole, Counts, Used, UseReaders, AreUses}
use Rattle.certpath_recheck.specs.declared.rechecking.RecheckError.{RecheckError}
use Rattle.certpath_recheck.specs.declared.rechecking.RecheckError.TheVariants.{Run, Read, TooLong, BadLine, OtherPurpose}
use Rattle.certpath_recheck.specs.Recheck.{HasSaidFor, IsEvidenceFor, IsSaidFor, MeetsRecheckRefusalFor}
use Rattle.certpath_recheck.specs.Uses.{AreUsesAt, UseRecheckReaders, IsOfEvidence, RefusesEvidence, failed_recheck_writes}

-- a reader that isn't read keeps its counts
unused : (s : Counts) → Used unread s s
unused s = record { reads = refl; failures = omega arith; ends = omega arith; widest = le-max_left s.widest 65536 }

-- if bundle, anchors or vouchers end the run, the evidence isn't read
run_uses_at : (A : Type 0) (e : RunError) (b a v : Use) → e ≢ runs.Write → AreUses {A = A} (Err e) b a v → AreUsesAt {A = RunError} (Err e) b a v unread
run_uses_at A (runs.Read i) b a v n u = (u, refl)
run_uses_at A (runs.TooLong i) b a v n u = (u, refl)
run_uses_at A (runs.BadLine k) b a v n u = (u, refl)
run_uses_at A runs.OutOfMemory b a v n u = inl (u, refl)
run_uses_at A runs.Write b a v n u = absurd (n refl)

pub run_uses : {A : Type 0} (e : RunError) (b b' a a' v v' s : Counts) → e ≢ runs.Write → UseReaders {A = A} (Err e) b b' a a' v v' → UseRecheckReaders {A = Bool} (Err (Run e)) b b' a a' v v' s s
run_uses {A} e b b' a a' v v' s n h = record {
  b = h.b;
  a = h.a;
  v = h.v;
  e = unread;
  are_uses = run_uses_at A e h.b h.a h.v n h.are_uses;
  bundle_used = h.bundle_used;
  anchors_used = h.anchors_used;
  vouchers_used = h.vouchers_used;
  evidence_used = unused s;
}

-- if the evidence has a bad line, or memory for it is refused
pub evidence_uses : {I : Type 0} (i : I) (purpose : Option AskedPurpose) (text : List ℕ) (e : RecheckError) (b b' a a' v v' s s' : Counts) → RefusesEvidence purpose text e → UseReaders (Ok i) b b' a a' v v' → Used whole s s' → UseRecheckReaders {A = Bool} (Err e) b b' a a' v v' s s'
evidence_uses i purpose text Read b b' a a' v v' s s' o h u = absurd o
evidence_uses i purpose text TooLong b b' a a' v v' s s' o h u = absurd o
evidence_uses i purpose text (BadLine n) b b' a a' v v' s s' o h u = record {
  b = h.b;
  a = h.a;
  v = h.v;
  e = whole;
  are_uses = (h.are_uses, refl);
  bundle_used = h.bundle_used;
  anchors_used = h.anchors_used;
  vouchers_used = h.vouchers_used;
  evidence_used = u;
}
evidence_uses i purpose text OtherPurpose b b' a a' v v' s s' o h u = record {
  b = h.b;
  a = h.a;
  v = h.v;
  e = whole;
  are_uses = (h.are_uses, refl);
  bundle_used = h.bundle_used;
  anchors_used = h.anchors_used;
  vouchers_used = h.vouchers_used;
  evidence_used = u;
}
evidence_uses i purpose text (Run error) b b' a a' v v' s s' o h u = record {
  b = h.b;
  a = h.a;
  v = h.v;
  e = whole;
  are_uses = subst (λ x. AreUsesAt {A = RunError} (Err x) h.b h.a h.v whole) (sym o) (inr (h.are_uses, inr refl));
  bundle_used = h.bundle_used;
  anchors_used = h.anchors_used;
  vouchers_used = h.vouchers_used;
  evidence_used = u;
}

-- and if all is read
pub said_uses : {I : Type 0} (i : I) (said : Bool) (b b' a a' v v' s s' : Counts) → UseReaders (Ok i) b b' a a' v v' → Used whole s s' → UseRecheckReaders {A = Bool} (Ok said) b b' a a' v v' s s'
said_uses i said b b' a a' v v' s s' h u = record {
  b = h.b;
  a = h.a;
  v = h.v;
  e = whole;
  are_uses = (h.are_uses, refl);
  bundle_used = h.bundle_used;
  anchors_used = h.anchors_used;
  vouchers_used = h.vouchers_used;
  evidence_used = u;
}

pub unsaid_uses : {I : Type 0} (i : I) (b b' a a' v v' s s' : Counts) → UseReaders (Ok i) b b' a a' v v' → Used whole s s' → UseRecheckReaders {A = Bool} (Err (Run runs.OutOfMemory)) b b' a a' v v' s s'
unsaid_uses i b b' a a' v v' s s' h u = record {
  b = h.b;
  a = h.a;
  v = h.v;
  e = whole;
  are_uses = inr (h.are_uses, inr refl);
  bundle_used = h.bundle_used;
  anchors_used = h.anchors_used;
  vouchers_used = h.vouchers_used;
  evidence_used = u;
}

-- all was read, and then memory for the line is refused, or the writer fails
pub unwritten_uses : (said : Bool) (b b' a a' v v' s s' : Counts) → UseRecheckReaders {A = Bool} (Ok said) b b' a a' v v' s s' → UseRecheckReaders {A = Bool} (Err (Run runs.OutOfMemory)) b b' a a' v v' s s'
unwritten_uses said b b' a a' v v' s s' h = record {
  b = h.b;
  a = h.a;
  v = h.v;
  e = h.e;
  are_uses = inr (h.are_uses.0, inr h.are_uses.1);
  bundle_used = h.bundle_used;
  anchors_used = h.anchors_used;
  vouchers_used = h.vouchers_used;
  evidence_used = h.evidence_used;
}

pub refused_uses : (said : Bool) (b b' a a' v v' s s' : Counts) → UseRecheckReaders {A = Bool} (Ok said) b b' a a' v v' s s' → UseRecheckReaders {A = Bool} (Err (Run runs.Write)) b b' a a' v v' s s'
refused_uses said b b' a a' v v' s s' h = record {
  b = h.b;
  a = h.a;
  v = h.v;
  e = h.e;
  are_uses = h.are_uses;
  bundle_used = h.bundle_used;
  anchors_used = h.anchors_used;
  vouchers_used = h.vouchers_used;
  evidence_used = h.evidence_used;
}

-- ---- errors

-- no other error is one of the writer
pub no_failed_write : (e : RecheckError) (n : ℕ) → e ≢ Run runs.Write → n ≡ n + failed_recheck_writes {A = Bool} (Err e)
no_failed_write Read n h = omega arith
no_failed_write TooLong n h = omega arith
no_failed_write (BadLine k) n h = omega arith
no_failed_write OtherPurpose n h = omega arith
no_failed_write (Run runs.OutOfMemory) n h = omega arith
no_failed_write (Run (runs.Read i)) n h = omega arith
no_failed_write (Run (runs.TooLong i)) n h = omega arith
no_failed_write (Run (runs.BadLine k)) n h = omega arith
no_failed_write (Run runs.Write) n h = absurd (h refl)

pub text_refused : (purpose : Option AskedPurpose) (b b' a a' v v' s s' : Option (List ℕ)) (limit : ℕ) (e : RecheckError) → IsOfEvidence e → MeetsRecheckRefusalFor purpose b b' a a' v v' s s' limit e
text_refused purpose b b' a a' v v' s s' limit Read o = tt
text_refused purpose b b' a a' v v' s s' limit TooLong o = tt
text_refused purpose b b' a a' v v' s s' limit (BadLine n) o = absurd o
text_refused purpose b b' a a' v v' s s' limit OtherPurpose o = absurd o
text_refused purpose b b' a a' v v' s s' limit (Run error) o = subst (λ x. MeetsRefusal b b' a a' v v' limit x) (sym o) tt

pub evidence_refused : (purpose : Option AskedPurpose) (b b' a a' v v' s s' : Option (List ℕ)) (limit : ℕ) (items anchors : Framed) (pairs : Vouchers) (text shown : List ℕ) (e : RecheckError) → AreInputs b b' a a' v v' limit items anchors pairs
    → ReadsAll s s' text → shown ≡ text → RefusesEvidence purpose shown e → MeetsRecheckRefusalFor purpose b b' a a' v v' s s' limit e
evidence_refused purpose b b' a a' v v' s s' limit items anchors pairs text shown Read i r is o = tt
evidence_refused purpose b b' a a' v v' s s' limit items anchors pairs text shown TooLong i r is o = tt
evidence_refused purpose b b' a a' v v' s s' limit items anchors pairs text shown (BadLine n) i r is o =
    record { items = items; anchor_items = anchors; pairs = pairs; inputs = i; shown = shown; shown_read = subst (λ l. ReadsAll s s' l) (sym is) r; first = o }
evidence_refused purpose b b' a a' v v' s s' limit items anchors pairs text shown OtherPurpose i r is o =
    record { items = items; anchor_items = anchors; pairs = pairs; inputs = i; shown = shown; shown_read = subst (λ l. ReadsAll s s' l) (sym is) r; is_other = o }
evidence_refused purpose b b' a a' v v' s s' limit items anchors pairs text shown (Run error) i r is o = subst (λ x. MeetsRefusal b b' a a' v v' limit x) (sym o) tt

pub text_not_write : (e : RecheckError) → IsOfEvidence e → e ≢ Run runs.Write
text_not_write (Run error) o is = cc (o, is)
text_not_write Read o is = cc is
text_not_write TooLong o is = cc is
text_not_write (BadLine n) o is = absurd o
text_not_write OtherPurpose o is = absurd o

pub evidence_not_write : (purpose : Option AskedPurpose) (text : List ℕ) (e : RecheckError) → RefusesEvidence purpose text e → e ≢ Run runs.Write
evidence_not_write purpose text (Run error) o is = cc (o, is)
evidence_not_write purpose text Read o is = absurd o
evidence_not_write purpose text TooLong o is = absurd o
evidence_not_write purpose text (BadLine n) o is = cc is
evidence_not_write purpose text OtherPurpose o is = cc is

-- ---- what is said

pub has_said : (settings : AllSettings) (purpose : Option AskedPurpose) (b b' a a' v v' s s' : Option (List ℕ)) (items anchors : Framed) (pairs : Vouchers) (text shown : List ℕ) (inventory : Inventory) (said : Bool) → AreInputs b b' a a' v v' settings.limit items anchors pairs
    → ReadsAll s s' text → shown ≡ text → IsEvidenceFor purpose shown inventory → IsSaidFor settings purpose items anchors pairs inventory said → HasSaidFor settings purpose b b' a a' v v' s s' said
has_said settings purpose b b' a a' v v' s s' items anchors pairs text shown inventory said i r is e h = record {
  items = items;
  anchor_items = anchors;
  pairs = pairs;
  inputs = i;
  shown = shown;
  shown_read = subst (λ l. ReadsAll s s' l) (sym is) r;
  inventory = inventory;
  is_evidence = e;
  is_said = h;
}
