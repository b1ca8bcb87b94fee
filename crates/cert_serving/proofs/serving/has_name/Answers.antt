use Rattle.std.proofs.Common.{false}
use Rattle.std.specs.List.{flat_map}
use Rattle.std.proofs.lemmas.Bool.{false≢true}
use Rattle.host_names.specs.Asked.{host_view}
use Rattle.cert_serving.specs.GeneralNames.{general_name_octets}
use Rattle.cert_serving.proofs.Written.{names_content}
use Rattle.cert_serving.proofs.serving.has_name.Goals as goal

pub returns-in-Some : goal.returns-in-Some
returns-in-Some c = (
  λ h. names_content (host_view c.args.host.now) c.args.value.now c.in-Some.content.now c.in-Some.ensures.found (c.are_names.ensures.0 h),
  λ n. c.are_names.ensures.1 (n.0, n.1.each, c.in-Some.ensures.only (flat_map general_name_octets n.0) n.1.spelled, n.2),
)

pub returns-in-None : goal.returns-in-None
returns-in-None c = (
  λ h. absurd (false≢true h),
  λ n. absurd (c.in-None.ensures.only (flat_map general_name_octets n.0) n.1.spelled),
)
