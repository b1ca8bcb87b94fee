-- What the types of this crate are values of.
use Rattle.std.specs.Prelude.{ℕ, ◌==◌, if◌then◌else◌, Option, Some, None, option_map}
use Rattle.host_names.specs.Asked.{host_view}
use Rattle.cert_serving.specs.declared.names.Choice.{Choice}
use Rattle.cert_serving.specs.declared.names.Choice.TheVariants.{OtherName, Rfc822Name, DnsName, X400Address, DirectoryName, EdiPartyName, Uri, IpAddress, RegisteredId}
use Rattle.cert_serving.specs.declared.names.GeneralName.{GeneralName as read_name}
use Rattle.cert_serving.specs.declared.demands.Demands.{Demands}
use Rattle.cert_serving.specs.GeneralNames.{GeneralName}
use Rattle.cert_serving.specs.Demanding.{Demanded}

-- the choice of a tag number
abbrev pub choice_at : ℕ → Option Choice
choice_at tag =
    if tag == 0 then Some OtherName
    else (if tag == 1 then Some Rfc822Name
    else (if tag == 2 then Some DnsName
    else (if tag == 3 then Some X400Address
    else (if tag == 4 then Some DirectoryName
    else (if tag == 5 then Some EdiPartyName
    else (if tag == 6 then Some Uri
    else (if tag == 7 then Some IpAddress
    else (if tag == 8 then Some RegisteredId else None))))))))

abbrev pub general_name_view : read_name → GeneralName
general_name_view g = record { choice = g.choice; content = g.content.now }

abbrev pub demands_view : Demands → Demanded
demands_view d = record { purpose = option_map (λ p. p.now) d.purpose; host = option_map host_view d.host; target = d.target.now }
