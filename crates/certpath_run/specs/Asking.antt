-- What a run that asks for signatures does to its readers and its writer. If a device's octets are
-- unknown, the relations hold for some stream.
use Rattle.std.specs.Prelude.{◌≡◌, ◌⊎◌, ℕ, List, Option, Result, Ok, Err}
use Rattle.std.specs.Io.KnownBytes.{Appends}
use Rattle.asn1_device.specs.Counts.{AppendsFront}
use Rattle.cert_framing.specs.Held.{Framed}
use Rattle.cert_judge.specs.Classed.{AreClassed}
use Rattle.cert_judge.specs.Revoking.{Item}
use Rattle.cert_questions.specs.declared.question.Question.{Question}
use Rattle.cert_questions.specs.Questions.{AreQuestions}
use Rattle.cert_questions.specs.Text.{question_lines}
use Rattle.certpath_inputs.specs.Reads.{ReadsItems}
use Rattle.certpath_run.specs.declared.items.ItemInput.{ItemInput}
use Rattle.certpath_run.specs.declared.items.ItemInput.TheVariants.{Bundle, Anchors}
use Rattle.certpath_run.specs.declared.items.ItemsError.{ItemsError}
use Rattle.certpath_run.specs.declared.items.ItemsError.TheVariants.{Read, TooLong, OutOfMemory, Write}
use Rattle.certpath_inputs.specs.Uses.{Use, Counts, Used, unread, whole, failed, too_long, stopped}

-- the text has a line for each question of these items and anchors, and no other line
pub record AreQuestionsOf (items anchors : Framed) (text : List ℕ) : Type 0 where
  pub classed : List Item
  pub classed_anchors : List Item
  pub are_classed : AreClassed items.items classed
  pub anchors_are_classed : AreClassed anchors.items classed_anchors
  pub questions : List Question
  pub are_questions : AreQuestions classed classed_anchors questions
  pub text_is : text ≡ question_lines questions

-- bundle and anchors were read to their ends, and the text has the questions of what is in them
pub record HasQuestions (bundle bundle' anchors anchors' : Option (List ℕ)) (limit : ℕ) (text : List ℕ) : Type 0 where
  pub items : Framed
  pub anchor_items : Framed
  pub items_read : ReadsItems bundle bundle' limit items.items items.end
  pub anchors_read : ReadsItems anchors anchors' limit anchor_items.items anchor_items.end
  pub are_questions : AreQuestionsOf items anchor_items text

-- and exactly this was written
pub record WritesQuestions (bundle bundle' anchors anchors' sink sink' : Option (List ℕ)) (limit : ℕ) : Type 0 where
  pub text : List ℕ
  pub has_questions : HasQuestions bundle bundle' anchors anchors' limit text
  pub wrote : Appends sink sink' text

-- and a front of it was written
pub record WritesQuestionsInPart (bundle bundle' anchors anchors' sink sink' : Option (List ℕ)) (limit : ℕ) : Type 0 where
  pub text : List ℕ
  pub has_questions : HasQuestions bundle bundle' anchors anchors' limit text
  pub wrote : AppendsFront sink sink' text

-- how the readers of bundle and anchors were used, one after the other
abbrev pub AreItemUses : {A : Type 0} → Result A ItemsError → Use → Use → Type 0
AreItemUses (Ok x) b a = (b ≡ whole) × (a ≡ whole)
AreItemUses (Err (Read Bundle)) b a = (b ≡ failed) × (a ≡ unread)
AreItemUses (Err (Read Anchors)) b a = (b ≡ whole) × (a ≡ failed)
AreItemUses (Err (TooLong Bundle)) b a = (b ≡ too_long) × (a ≡ unread)
AreItemUses (Err (TooLong Anchors)) b a = (b ≡ whole) × (a ≡ too_long)
AreItemUses (Err OutOfMemory) b a = ((b ≡ stopped) × (a ≡ unread)) ⊎ ((b ≡ whole) × ((a ≡ stopped) ⊎ (a ≡ whole)))
AreItemUses (Err Write) b a = (b ≡ whole) × (a ≡ whole)

-- the readers' counts went so
pub record UseItemReaders {A : Type 0} (result : Result A ItemsError) (bundle bundle' anchors anchors' : Counts) : Type 0 where
  pub b : Use
  pub a : Use
  pub are_uses : AreItemUses result b a
  pub bundle_used : Used b bundle bundle'
  pub anchors_used : Used a anchors anchors'
