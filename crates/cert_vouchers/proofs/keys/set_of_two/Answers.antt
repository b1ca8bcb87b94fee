use Rattle.std.proofs.Common.{inl, inr}
use Rattle.cert_vouchers.proofs.Digests.{set_first, set_more}
use Rattle.cert_vouchers.proofs.keys.set_of_two.Goals as goal

pub returns : goal.returns
returns c = λ k.
    let first = set_first c.new-keys.result c.insert.new.self c.args.one c.new-keys.ensures.empty (λ q. c.in_ok-insert.ensures.updates.0 q) k in
    let more = set_more c.insert.new.self c.insert-2.new.self c.args.other (λ q. c.in_ok-insert-2.ensures.updates.0 q) k in (
      λ t. elim (more.0 t) [ inl x ↦ inl (first.0 x) | inr e ↦ inr e ],
      λ x. elim x [ inl e ↦ more.1 (inl (first.1 e)) | inr e ↦ more.1 (inr e) ],
    )
