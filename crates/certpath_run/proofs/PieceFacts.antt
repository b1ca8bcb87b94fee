-- What a buffer and its writer have taken, step by step.
use Rattle.std.proofs.Common.{◌≡◌, ℕ, ◌+◌, ◌≤◌, List, [], ◌++◌, length, drop, Some, refl, sym, ap, ◌∙◌, subst, arith, append_assoc, slice_get}
use Rattle.std.proofs.lemmas.List.{append-nil, drop_all}
use Rattle.std.specs.Prelude.{Option, Result, Ok, Err, OnOk, OnErr}
use Rattle.std.specs.Io.KnownBytes.{Appends, Keeps}
use Rattle.std.proofs.KnownBytes.{Appends-nil, Appends-trans, Appends-kept}
use Rattle.asn1_device.specs.Counts.{AppendsFront}
use Rattle.certpath_run.specs.FrameText.{item_line, item_lines}
use Rattle.certpath_run.specs.Passing.{Passes}
use Rattle.certpath_run.proofs.FrameFacts.{Writes, writes_item}

-- ---- octets on their way

pub passes_none : (a : Option (List ℕ)) (held : List ℕ) → Passes a a held held
passes_none a held = record { front = []; parts = refl; wrote = Appends-nil a }

-- the buffer passes on some of what it holds
pub passes_on : (a b c : Option (List ℕ)) (octets held held' : List ℕ) → Passes a b octets held → Passes b c held held' → Passes a c octets held'
passes_on a b c octets held held' p q = record {
  front = p.front ++ q.front;
  parts = p.parts ∙ ap (λ l. p.front ++ l) q.parts ∙ sym (append_assoc p.front q.front held');
  wrote = Appends-trans a b c p.front q.front p.wrote q.wrote;
}

-- the buffer takes more
pub passes_more : (a b : Option (List ℕ)) (octets held more held' : List ℕ) → Passes a b octets held → held' ≡ held ++ more → Passes a b (octets ++ more) held'
passes_more a b octets held more held' p e = record {
  front = p.front;
  parts = ap (λ l. l ++ more) p.parts ∙ append_assoc p.front held more ∙ ap (λ l. p.front ++ l) (sym e);
  wrote = p.wrote;
}

-- the writer takes all that the buffer holds
pub passes_all : (a b c : Option (List ℕ)) (octets held : List ℕ) → Passes a b octets held → Appends b c held → Appends a c octets
passes_all a b c octets held p q = subst (λ l. Appends a c l) (sym p.parts) (Appends-trans a b c p.front held p.wrote q)

-- the writer takes a front of what the buffer holds
pub passes_front : (a b c : Option (List ℕ)) (octets held : List ℕ) → Passes a b octets held → AppendsFront b c held → AppendsFront a c octets
passes_front a b c octets held p q = record {
  front = p.front ++ q.front;
  left = q.left;
  parts = p.parts ∙ ap (λ l. p.front ++ l) q.parts ∙ sym (append_assoc p.front q.front q.left);
  wrote = Appends-trans a b c p.front q.front p.wrote q.wrote;
}

pub front_of_all : (a b : Option (List ℕ)) (octets : List ℕ) → Appends a b octets → AppendsFront a b octets
front_of_all a b octets p = record { front = octets; left = []; parts = sym (append-nil octets); wrote = p }

-- a front of the octets at the front
pub front_before : (a b : Option (List ℕ)) (octets after all : List ℕ) → AppendsFront a b octets → all ≡ octets ++ after → AppendsFront a b all
front_before a b octets after all f e = record {
  front = f.front;
  left = f.left ++ after;
  parts = e ∙ ap (λ l. l ++ after) f.parts ∙ append_assoc f.front f.left after;
  wrote = f.wrote;
}

-- the buffer passes on some of what it holds, and takes more
pub passes_and_takes : (a b c : Option (List ℕ)) (octets held held' more held'' : List ℕ) → Passes a b octets held → Passes b c held held' → held'' ≡ held' ++ more
    → Passes a c (octets ++ more) held''
passes_and_takes a b c octets held held' more held'' p q e = passes_more a c octets held' more held'' (passes_on a b c octets held held' p q) e

-- and then the writer takes all of it, and is flushed
pub passes_to_the_end : (a b c d e : Option (List ℕ)) (octets held held' more held'' : List ℕ) → Passes a b octets held → Passes b c held held' → held'' ≡ held' ++ more
    → Appends c d held'' → Keeps d e → Appends a e (octets ++ more)
passes_to_the_end a b c d e octets held held' more held'' p q is all kept =
    let whole = octets ++ more in
    Appends-kept a d e whole (passes_all a c d whole held'' (passes_and_takes a b c octets held held' more held'' p q is) all) kept

-- ---- lines on their way

-- the lines of the items before number k have passed, or are held
pub record PassedLines (a b : Option (List ℕ)) (held : List ℕ) (items : List (List ℕ)) (k offset : ℕ) : Type 0 where
  pub text : List ℕ
  pub passes : Passes a b text held
  pub writes : Writes text items k offset

pub lines_begin : (a : Option (List ℕ)) (held : List ℕ) (items : List (List ℕ)) → held ≡ [] → PassedLines a a held items 0 0
lines_begin a held items e = record {
  text = [];
  passes = subst (λ h. Passes a a [] h) (sym e) (passes_none a []);
  writes = record { lines = refl; sizes = omega arith };
}

pub line_passes : (a b c : Option (List ℕ)) (held held' held'' : List ℕ) (items : List (List ℕ)) (k offset : ℕ) (item : List ℕ) → PassedLines a b held items k offset
    → Passes b c held held' → held'' ≡ held' ++ item_line k offset (length item) → slice_get items k ≡ Some item → PassedLines a c held'' items (k + 1) (offset + length item)
line_passes a b c held held' held'' items k offset item p room line at =
    let more = item_line k offset (length item) in
    record {
      text = p.text ++ more;
      passes = passes_and_takes a b c p.text held held' more held'' p.passes room line;
      writes = writes_item p.text (p.text ++ more) items k offset item p.writes at refl;
    }

pub lines_stop : (a b c : Option (List ℕ)) (held : List ℕ) (items : List (List ℕ)) (k offset : ℕ) → PassedLines a b held items k offset → AppendsFront b c held
    → AppendsFront a c (item_lines 0 0 items)
lines_stop a b c held items k offset p f =
    front_before a c p.text (item_lines k offset (drop k items)) (item_lines 0 0 items) (passes_front a b c p.text held p.passes f) (sym p.writes.lines)

pub lines_end : (a b : Option (List ℕ)) (held : List ℕ) (items : List (List ℕ)) (k offset : ℕ) → length items ≤ k → PassedLines a b held items k offset
    → Passes a b (item_lines 0 0 items) held
lines_end a b held items k offset le p =
    let whole : p.text ++ item_lines k offset [] ≡ item_lines 0 0 items =
    subst (λ (d : List (List ℕ)). p.text ++ item_lines k offset d ≡ item_lines 0 0 items) (drop_all k items le) p.writes.lines in
    subst (λ t. Passes a b t held) (sym (append-nil p.text) ∙ whole) p.passes

-- ---- failures

-- what doesn't depend on the error
pub on_err : {A E : Type 0} (result : Result A E) (P : Type 0) → P → OnErr result P
on_err (Ok x) P p = tt
on_err (Err e) P p = p

pub on_ok : {A E : Type 0} (result : Result A E) (P : Type 0) → P → OnOk result P
on_ok (Ok x) P p = p
on_ok (Err e) P p = tt
