-- Key identifiers that differ, for certificates that name one and the same.
use Rattle.std.proofs.Common.{◌≡◌, ◌∙◌, sym, subst, ℕ, List, []}
use Rattle.cert_judge.specs.declared.items.CertificateItem.{CertificateItem}
use Rattle.cert_judge.specs.Items.{certificate_of}
use Rattle.cert_judge.specs.Revoking.{Item}
use Rattle.certpath_why.specs.Cuts.{IsCutOf}
use Rattle.certpath_why.specs.Groups.{IsDiffering, IsIdKind}
use Rattle.certpath_why.specs.Kinds.{named_by}
use Rattle.certpath_why.specs.Reached.{HasSubject}
use Rattle.certpath_why.specs.declared.cuts.Cut.{Cut}
use Rattle.certpath_why.proofs.Alike.{agree_alike, one_subject}
use Rattle.certpath_why.proofs.Cutting.{cut_as}
use Rattle.certpath_why.proofs.Numbering.{kind_parts}

differs : (others : List Item) (x y : CertificateItem) → x.issuer.now ≡ y.issuer.now → named_by x ≡ named_by y → (w : ℕ) → IsDiffering others (certificate_of x) w → IsDiffering others (certificate_of y) w
differs others x y name named w h = (h.0, λ e. let d = h.1 e in (d.0, d.1, (d.2.0 ∙ sym x.issuer_is ∙ name ∙ y.issuer_is, λ a. d.2.1 ((agree_alike x y named d.0).1 a))))

pub differing_alike : (others : List Item) (p q : ℕ) (x y : CertificateItem) (kind : List ℕ) (cut : Cut) → IsIdKind others p x kind → IsIdKind others q y kind → IsCutOf (IsDiffering others (certificate_of x)) cut → IsCutOf (IsDiffering others (certificate_of y)) cut
differing_alike others p q x y kind cut a b h =
    let parts = kind_parts a.0 b.0 0 0 0 0 (named_by x) (named_by y) (sym a.2 ∙ b.2) in
    let name : x.issuer.now ≡ y.issuer.now = one_subject others b.0 x.issuer.now y.issuer.now (subst (HasSubject others x.issuer.now) parts.0 a.1) b.1 in
    cut_as (IsDiffering others (certificate_of x)) (IsDiffering others (certificate_of y)) cut (λ w. (differs others x y name parts.3 w, differs others y x (sym name) (sym parts.3) w)) h
