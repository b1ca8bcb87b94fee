-- One choice has a tag number.
use Rattle.std.specs.Prelude.{◌↔◌, IsTrue}
use Rattle.std.specs.Bool.{MatchBool}
use Rattle.std.specs.Str.{IsAscii, IsNotAscii}
use Rattle.std.proofs.Common.{◌≡◌, ◌∙◌, ap, sym, refl, ℕ, Bool, true, false, List, Some, None, arith, lit<, ◌<◌, ◌^◌}
use Rattle.std.proofs.lemmas.Bool.{false≢true}
use Rattle.cert_serving.specs.declared.names.Choice.{Choice}
use Rattle.cert_serving.specs.declared.names.Choice.TheVariants.{OtherName, Rfc822Name, DnsName, X400Address, DirectoryName, EdiPartyName, Uri, IpAddress, RegisteredId}
use Rattle.cert_serving.specs.GeneralNames.{tag_of}
use Rattle.cert_serving.specs.View.{choice_at}

pub there_and_back : (c : Choice) → choice_at (tag_of c) ≡ Some c
there_and_back OtherName = refl
there_and_back Rfc822Name = refl
there_and_back DnsName = refl
there_and_back X400Address = refl
there_and_back DirectoryName = refl
there_and_back EdiPartyName = refl
there_and_back Uri = refl
there_and_back IpAddress = refl
there_and_back RegisteredId = refl

pub some_once : (c d : Choice) → Some c ≡ Some d → c ≡ d
some_once c d e = cc

pub one_choice : (c d : Choice) → tag_of c ≡ tag_of d → c ≡ d
one_choice c d e = some_once c d (sym (there_and_back c) ∙ ap choice_at e ∙ there_and_back d)

pub never_none : (c : Choice) → Some c ≡ None → ⊥
never_none c e = cc

pub tag_below : (c : Choice) → tag_of c < 2 ^ 32
tag_below OtherName = lit< tt
tag_below Rfc822Name = lit< tt
tag_below DnsName = lit< tt
tag_below X400Address = lit< tt
tag_below DirectoryName = lit< tt
tag_below EdiPartyName = lit< tt
tag_below Uri = lit< tt
tag_below IpAddress = lit< tt
tag_below RegisteredId = lit< tt

-- a test of octets that finds ASCII
pub ascii_decides : (b : Bool) (s : List ℕ) → MatchBool b (IsAscii s) (IsNotAscii s) → IsTrue b ↔ IsAscii s
ascii_decides true s m = (λ h. m, λ h. refl)
ascii_decides false s m = (λ h. absurd (false≢true h), λ a. let x = a m.0 in let y = m.1 in absurd (omega arith))
