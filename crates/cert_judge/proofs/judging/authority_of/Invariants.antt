use Rattle.std.specs.Prelude.{ℕ, ◌<◌, map, slice_index_or}
use Rattle.cert_model.specs.Fields.{Extension}
use Rattle.cert_model.specs.View.{ext_view}
use Rattle.cert_judge.specs.Judging.{IsAuthorityExtension}
use Rattle.cert_judge.proofs.judging.authority_of.Given as goal

-- no extension before this one is that of an authority
abbrev pub invariant-loop-extension : goal.invariant-loop-extension
invariant-loop-extension l = (k : ℕ) (d : Extension) → k < l.extension-index → IsAuthorityExtension (slice_index_or (map ext_view l.extensions) k d) → ⊥
