use Rattle.asn1_traits.specs.Elements.{ReadsBerElement}
use Rattle.asn1_traits.specs.Options.{BeginsWithBerTag}
use Rattle.asn1_traits.specs.OptionLaws.{ber_headers, not_both}
use Rattle.asn1_traits.proofs.Absent.{none_headed}
use Rattle.asn1_tagged.specs.Tagging.{ImplicitMeans}
use Rattle.asn1_tagged.proofs.Headed.{ber_opt_as}
use Rattle.asn1_tagged.proofs.optional.opt_implicit_by_ber.Goals as goal

pub returns-clause-reads : goal.returns-clause-reads
returns-clause-reads g c = ber_opt_as _ _ (λ e v m. m.tagged.tag_is)

pub returns-clause-wanted : goal.returns-clause-wanted
returns-clause-wanted g c = λ octets rest p q. not_both BeginsWithBerTag _ octets ber_headers p q.0

pub returns-clause-unread : goal.returns-clause-unread
returns-clause-unread g c = λ octets some none. none_headed BeginsWithBerTag _ (ReadsBerElement (λ e x. ImplicitMeans g.row.CLASS g.row.TAG g.T.Tagged.own_class_number g.T.Tagged.tag_number g.T.AnyMeaning.means e x.inner)) octets some none
