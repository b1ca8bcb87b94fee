-- What a run of `frame`, and of `frame_why`, does to its reader and its writer. If a device's
-- octets are unknown, the relations hold for some stream.
use Rattle.std.specs.Prelude.{ℕ, List, Option}
use Rattle.std.specs.Io.KnownBytes.{Appends}
use Rattle.asn1_device.specs.Counts.{AppendsFront}
use Rattle.cert_framing.specs.declared.ending.End.{End}
use Rattle.certpath_inputs.specs.Reads.{ReadsItems}
use Rattle.certpath_run.specs.FrameText.{IsFrameWhy, frame_text}

-- all was read, and exactly its frame text was written
pub record Frames (source source' sink sink' : Option (List ℕ)) (limit : ℕ) (end : End) : Type 0 where
  pub items : List (List ℕ)
  pub reads : ReadsItems source source' limit items end
  pub wrote : Appends sink sink' (frame_text items end)

-- all was read, and a front of its frame text was written
pub record FramesInPart (source source' sink sink' : Option (List ℕ)) (limit : ℕ) : Type 0 where
  pub items : List (List ℕ)
  pub end : End
  pub reads : ReadsItems source source' limit items end
  pub wrote : AppendsFront sink sink' (frame_text items end)

-- all was read, and exactly its frame text with the faults of items was written
pub record FramesWhy (source source' sink sink' : Option (List ℕ)) (limit : ℕ) (end : End) : Type 0 where
  pub items : List (List ℕ)
  pub reads : ReadsItems source source' limit items end
  pub text : List ℕ
  pub text_is : IsFrameWhy items end text
  pub wrote : Appends sink sink' text

-- all was read, and a front of that text was written
pub record FramesWhyInPart (source source' sink sink' : Option (List ℕ)) (limit : ℕ) : Type 0 where
  pub items : List (List ℕ)
  pub end : End
  pub reads : ReadsItems source source' limit items end
  pub text : List ℕ
  pub text_is : IsFrameWhy items end text
  pub wrote : AppendsFront sink sink' text
