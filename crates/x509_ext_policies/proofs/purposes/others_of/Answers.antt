use Rattle.std.proofs.Common.{◌≡◌, ◌∙◌, sym, ap, subst, rules, ℕ, ◌+◌, List, [], ◌∷◌, ◌++◌, ◌||◌, Bool, false, Bor, drop, get_or}
use Rattle.std.proofs.lemmas.List.{drop_more}
use Rattle.x509_ext_policies.specs.Purposes.{named_purposes}
use Rattle.x509_ext_policies.specs.Reading.{has, once_of}
use Rattle.x509_ext_policies.proofs.PurposeLaws.{IsKept, kept_more, passed}
use Rattle.x509_ext_policies.proofs.purposes.others_of.Goals as goal

pub loop-id-preserved : goal.loop-id-preserved
loop-id-preserved c =
    let kept = c.loop-id.others.items in
    let octets = c.as_bytes-octets.result in
    let ids = c.args.ids.now in
    let k = c.loop-id.id-index in
    let known : (let b : Bool = has octets.now named_purposes || has octets.now kept in b ≡ false) =
    ap (λ z. has octets.now named_purposes || z) (sym (c.loop-id.invariant.1 octets)) ∙ sym c.is_known.ensures ∙ c.if-is_known.false in
    let here : get_or ids k octets.now ≡ octets.now = search rules in
    let more : c.push.new.self.items ≡ kept ++ octets.now ∷ [] = search rules in
    let step : once_of kept (octets.now ∷ drop (k + 1) ids) ≡ once_of [] ids = ap (once_of kept) (sym (drop_more ids k octets.now c.loop-id-test.true ∙ ap (λ z. z ∷ drop (k + 1) ids) here)) ∙ c.loop-id.invariant.0 in (
      ap (λ z. once_of z (drop (k + 1) ids)) more ∙ passed kept octets.now (drop (k + 1) ids) (once_of [] ids) false known step,
      subst (λ z. IsKept z c.insert.new.self) (sym more) (kept_more kept c.loop-id.seen c.insert.new.self octets c.loop-id.invariant.1 (λ q. c.in_ok-insert.ensures.updates.0 q)),
    )
