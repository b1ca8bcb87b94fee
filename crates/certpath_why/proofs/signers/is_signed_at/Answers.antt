use Rattle.std.proofs.Common.{inl, inr}
use Rattle.certpath_why.proofs.Signed.{signed_number, signed_row, signed_holder, signed_iff}
use Rattle.certpath_why.proofs.signers.is_signed_at.Goals as goal

pub number-number-requires : goal.number-number-requires
number-number-requires g c =
    let q = c.args.question.now in
    signed_number (g.V.Vouch.vouches_for q.vouch.now).Vouches q.found.now.items.now q.found.now.items.now q.signers.now.classes q.signers.now.issuers c.requires.signed.issuers c.args.place c.requires.place

pub has_position-by_issuer-requires-clause-number : goal.has_position-by_issuer-requires-clause-number
has_position-by_issuer-requires-clause-number g c =
    let q = c.args.question.now in
    rw c.number-number.ensures (signed_row (g.V.Vouch.vouches_for q.vouch.now).Vouches q.found.now.items.now q.found.now.items.now q.signers.now.classes q.signers.now.issuers c.requires.signed.issuers c.args.place c.requires.place)

pub has_position-by_issuer-requires-clause-within : goal.has_position-by_issuer-requires-clause-within
has_position-by_issuer-requires-clause-within g c =
    let q = c.args.question.now in
    rw c.number-number.ensures (signed_holder (g.V.Vouch.vouches_for q.vouch.now).Vouches q.found.now.items.now q.found.now.items.now q.signers.now.classes q.signers.now.issuers c.requires.signed.issuers c.args.place c.requires.place)

pub has_position-by_root-requires-clause-number : goal.has_position-by_root-requires-clause-number
has_position-by_root-requires-clause-number g c =
    let q = c.args.question.now in
    rw c.number-number.ensures (signed_row (g.V.Vouch.vouches_for q.vouch.now).Vouches q.found.now.items.now q.found.now.anchors.now q.signers.now.classes q.signers.now.roots c.requires.signed.roots c.args.place c.requires.place)

pub has_position-by_root-requires-clause-within : goal.has_position-by_root-requires-clause-within
has_position-by_root-requires-clause-within g c =
    let q = c.args.question.now in
    rw c.number-number.ensures (signed_holder (g.V.Vouch.vouches_for q.vouch.now).Vouches q.found.now.items.now q.found.now.anchors.now q.signers.now.classes q.signers.now.roots c.requires.signed.roots c.args.place c.requires.place)

pub returns : goal.returns
returns g c = λ z at named.
    let q = c.args.question.now in
    let V = (g.V.Vouch.vouches_for q.vouch.now).Vouches in
    let one = signed_iff V q.found.now.items.now q.found.now.items.now q.signers.now.classes q.signers.now.issuers c.requires.signed.issuers c.args.place z c.args.name.now at named in
    let two = signed_iff V q.found.now.items.now q.found.now.anchors.now q.signers.now.classes q.signers.now.roots c.requires.signed.roots c.args.place z c.args.name.now at named in
    let by_issuer = rw c.number-number.ensures at c.has_position-by_issuer.ensures in
    let by_root = rw c.number-number.ensures at c.has_position-by_root.ensures in (
      λ t. elim (c.is_either.ensures.0 t) [
        | inl a ↦ let s = by_issuer.0 a in (s.0, inl ((one s.0).0 s.1))
        | inr b ↦ let s = by_root.0 b in (s.0, inr ((two s.0).0 s.1))
      ],
      λ h. c.is_either.ensures.1 (elim h.1 [
        | inl a ↦ inl (by_issuer.1 (h.0, (one h.0).1 a))
        | inr b ↦ inr (by_root.1 (h.0, (two h.0).1 b))
      ]),
    )
