-- What the code holds beside the items. Contracts of private functions cite it.
use Rattle.std.specs.Prelude.{◌≡◌, ◌↔◌, ◌⊎◌, ◌<◌, ◌++◌, ℕ, Bool, true, false, List, length, map, slice_index_or, Contains, Some, None}
use Rattle.cert_graph.specs.declared.places.Place.{Place}
use Rattle.cert_judge.specs.declared.items.ReadItem.{ReadItem}
use Rattle.cert_judge.specs.declared.items.ReadItem.TheVariants.{Certificate as certificate_read, List as list_read, Other as other_read}
use Rattle.cert_judge.specs.Revoking.{Item}
use Rattle.certpath_why.specs.declared.found.Found.{Found}
use Rattle.certpath_why.specs.Directories.{IsDirectory}
use Rattle.certpath_why.specs.Reached.{HasSubject, IsReached, IsIssuerByName}

-- a certificate shows its subject, and other items show nothing
abbrev pub subject_place : ReadItem → Place
subject_place (certificate_read x) = record { name = Some x.subject; key = None; id = None }
subject_place (list_read x) = record { name = None; key = None; id = None }
subject_place (other_read octets) = record { name = None; key = None; id = None }

-- a list shows its issuer, and other items show nothing
abbrev pub list_place : ReadItem → Place
list_place (certificate_read x) = record { name = None; key = None; id = None }
list_place (list_read x) = record { name = Some x.issuer; key = None; id = None }
list_place (other_read octets) = record { name = None; key = None; id = None }

-- The directories are those of the items and the anchors.
pub record IsFound (f : Found) : Type 0 where
  pub subjects : IsDirectory (map subject_place f.items.now) f.subjects.buckets.items
  pub lists : IsDirectory (map list_place f.items.now) f.lists.buckets.items
  pub roots : IsDirectory (map subject_place f.anchors.now) f.roots.buckets.items

-- a position is marked
abbrev pub IsMarked : List Bool → ℕ → Type 0
IsMarked marks v = slice_index_or marks v false ≡ true

-- The places with a property were marked besides.
pub record AreMarked (P : ℕ → Type 0) (marks new_marks : List Bool) : Type 0 where
  pub count : length new_marks ≡ length marks
  pub exact : (u : ℕ) → IsMarked new_marks u ↔ (IsMarked marks u ⊎ P u)

-- Some places were marked, and those of them that were not marked before are at the end of the
-- queue.
pub record Spreads (places : List ℕ) (marks : List Bool) (queue : List ℕ) (new_marks : List Bool) (new_queue : List ℕ) : Type 0 where
  pub count : length new_marks ≡ length marks
  pub kept : (u : ℕ) → IsMarked marks u → IsMarked new_marks u
  pub more : List ℕ
  pub queue_is : new_queue ≡ queue ++ more
  pub more_are : (u : ℕ) → Contains more u → Contains places u
  pub queued : (u : ℕ) → (IsMarked marks u → Contains queue u) → IsMarked new_marks u → Contains new_queue u
  pub marked : (u : ℕ) → Contains places u → IsMarked new_marks u

-- Those of the issuer's name were.
pub record SpreadsFrom (items : List Item) (v : ℕ) (marks : List Bool) (queue : List ℕ) (new_marks : List Bool) (new_queue : List ℕ) : Type 0 where
  pub places : List ℕ
  pub exact : (w : ℕ) → Contains places w ↔ IsIssuerByName items v w
  pub spreads : Spreads places marks queue new_marks new_queue

-- There is a second mark for each position. If it is set, all certificates with the subject of the
-- one there are marked.
pub record AreSpent (items : List Item) (spent marks : List Bool) : Type 0 where
  pub count : length spent ≡ length items
  pub whole : (u w : ℕ) (name : List ℕ) → IsMarked spent u → HasSubject items name u → HasSubject items name w → IsMarked marks w

-- the item is a certificate
abbrev pub IsCertificateRead : ReadItem → Type 0
IsCertificateRead (certificate_read x) = Unit {0}
IsCertificateRead (list_read x) = ⊥
IsCertificateRead (other_read octets) = ⊥

-- What is reached by way of the first of the queue is marked, and each that is marked is reached and in the queue.
pub record AreSpread (items : List Item) (target : ℕ) (marks : List Bool) (queue : List ℕ) (done : ℕ) : Type 0 where
  pub count : length marks ≡ length items
  pub start : IsMarked marks target
  pub sound : (u : ℕ) → Contains queue u → IsReached items target u
  pub queued : (u : ℕ) → IsMarked marks u → Contains queue u
  pub closed : (i w : ℕ) → i < done → i < length queue → IsIssuerByName items (slice_index_or queue i 0) w → IsMarked marks w
