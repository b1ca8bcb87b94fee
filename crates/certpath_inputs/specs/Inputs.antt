-- What is in the inputs of a run: bundle, anchors and vouchers. If a device's octets are unknown,
-- the relations hold for some stream.
use Rattle.std.specs.Prelude.{ℕ, List, Option}
use Rattle.sha2.specs.Sha256.{sha256}
use Rattle.cert_framing.specs.Held.{Framed}
use Rattle.cert_serving.specs.cert_judge.specs.Vouching.{Vouching, vouching_alone}
use Rattle.cert_vouchers.specs.declared.vouchers.Vouchers.{Vouchers}
use Rattle.cert_vouchers.specs.Vouching.{HasPair}
use Rattle.certpath_inputs.specs.Reads.{ReadsAll, ReadsItems}
use Rattle.cert_vouchers.specs.Answers.{AreVouchersOf, HasFirstBad}
use Rattle.certpath_inputs.specs.declared.settings.RunError.{RunError}
use Rattle.certpath_inputs.specs.declared.settings.RunError.TheVariants.{Read, TooLong, BadLine, OutOfMemory, Write}

-- the pairs vouch for a key and an item whose SHA-256 digests are one of them
abbrev pub VouchesBy : Vouchers → Vouching
VouchesBy vouchers = vouching_alone (λ key item. HasPair vouchers.pairs (sha256 key) (sha256 item))

-- all three inputs were read to their ends, and this is in them
pub record AreInputs (bundle bundle' anchors anchors' vouchers vouchers' : Option (List ℕ)) (limit : ℕ) (items anchor_items : Framed) (pairs : Vouchers) : Type 0 where
  pub items_read : ReadsItems bundle bundle' limit items.items items.end
  pub anchors_read : ReadsItems anchors anchors' limit anchor_items.items anchor_items.end
  pub text : List ℕ
  pub text_read : ReadsAll vouchers vouchers' text
  pub pairs_are : AreVouchersOf text pairs

-- a run that read these inputs has this text, which is right for the items, the anchors and the
-- pairs that are in them
pub record HasText (IsRight : Framed → Framed → Vouchers → List ℕ → Type 0) (bundle bundle' anchors anchors' vouchers vouchers' : Option (List ℕ)) (limit : ℕ) (text : List ℕ) : Type 0 where
  pub items : Framed
  pub anchor_items : Framed
  pub pairs : Vouchers
  pub inputs : AreInputs bundle bundle' anchors anchors' vouchers vouchers' limit items anchor_items pairs
  pub is_right : IsRight items anchor_items pairs text

-- all was read, and the vouchers have this first bad line
pub record MeetsBadLine (bundle bundle' anchors anchors' vouchers vouchers' : Option (List ℕ)) (limit number : ℕ) : Type 0 where
  pub items : Framed
  pub anchor_items : Framed
  pub items_read : ReadsItems bundle bundle' limit items.items items.end
  pub anchors_read : ReadsItems anchors anchors' limit anchor_items.items anchor_items.end
  pub text : List ℕ
  pub text_read : ReadsAll vouchers vouchers' text
  pub first : HasFirstBad text number

-- a refusal of a bad line comes if the vouchers have it; of the others nothing is said here
abbrev pub MeetsRefusal : Option (List ℕ) → Option (List ℕ) → Option (List ℕ) → Option (List ℕ) → Option (List ℕ) → Option (List ℕ) → ℕ → RunError → Type 0
MeetsRefusal bundle bundle' anchors anchors' vouchers vouchers' limit (Read i) = Unit {0}
MeetsRefusal bundle bundle' anchors anchors' vouchers vouchers' limit (TooLong i) = Unit {0}
MeetsRefusal bundle bundle' anchors anchors' vouchers vouchers' limit (BadLine n) = MeetsBadLine bundle bundle' anchors anchors' vouchers vouchers' limit n
MeetsRefusal bundle bundle' anchors anchors' vouchers vouchers' limit OutOfMemory = Unit {0}
MeetsRefusal bundle bundle' anchors anchors' vouchers vouchers' limit Write = Unit {0}

-- a text of vouchers is refused for its first bad line, or for lack of memory
abbrev pub RefusesText : List ℕ → RunError → Type 0
RefusesText text (Read i) = ⊥
RefusesText text (TooLong i) = ⊥
RefusesText text (BadLine n) = HasFirstBad text n
RefusesText text OutOfMemory = Unit {0}
RefusesText text Write = ⊥
