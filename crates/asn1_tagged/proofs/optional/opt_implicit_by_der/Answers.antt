use Rattle.asn1_traits.specs.Elements.{ReadsElement}
use Rattle.asn1_traits.specs.Options.{BeginsWithTag}
use Rattle.asn1_traits.specs.OptionLaws.{der_headers, not_both}
use Rattle.asn1_traits.proofs.Absent.{none_headed}
use Rattle.asn1_tagged.specs.Tagging.{ImplicitMeans}
use Rattle.asn1_tagged.proofs.Headed.{der_opt_as}
use Rattle.asn1_tagged.proofs.optional.opt_implicit_by_der.Goals as goal

pub returns-clause-reads : goal.returns-clause-reads
returns-clause-reads g c = der_opt_as _ _ (λ e v m. m.tagged.tag_is)

pub returns-clause-wanted : goal.returns-clause-wanted
returns-clause-wanted g c = λ octets rest p q. not_both BeginsWithTag _ octets der_headers p q.0

pub returns-clause-unread : goal.returns-clause-unread
returns-clause-unread g c = λ octets some none. none_headed BeginsWithTag _ (ReadsElement (λ e x. ImplicitMeans g.row.CLASS g.row.TAG g.T.Tagged.own_class_number g.T.Tagged.tag_number g.T.DerAnyMeaning.der_means e x.inner)) octets some none
