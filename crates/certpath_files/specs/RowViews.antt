-- The views of the rows of a report: values as the definitions have them.
use Rattle.std.specs.Prelude.{option_map, option_copied}
use Rattle.certpath_files.specs.Rows as rows
use Rattle.certpath_files.specs.Rows.{Held}
use Rattle.certpath_files.specs.FrontViews.{fault_view}
use Rattle.certpath_files.specs.ShapeViews.{kind_view}
use Rattle.certpath_files.specs.declared.rows.Spot.{Spot}
use Rattle.certpath_files.specs.declared.rows.Spot.TheVariants.{File, Octet, Line, Block}
use Rattle.certpath_files.specs.declared.rows.Member.{Member}
use Rattle.certpath_files.specs.declared.rows.Place.{Place}
use Rattle.certpath_files.specs.declared.rows.Reason.{Reason}
use Rattle.certpath_files.specs.declared.rows.Reason.TheVariants.{EmptyFile, NoForm, WideText, Faulty, ToEnd, NoItem, Behind, NoEnd, WithHeaders, NoOctets, NotBase64, OtherLabel, UnknownLabel, StrayEnd, BadBoundary, NoText, NoSignedData, NoMembers}
use Rattle.certpath_files.specs.declared.rows.Row.{Row}
use Rattle.certpath_files.specs.declared.rows.Row.TheVariants.{Item, LeftOut}

abbrev pub spot_view : Spot → rows.Spot
spot_view File = rows.file
spot_view (Octet position) = rows.octet position
spot_view (Line number) = rows.line number
spot_view (Block number label) = rows.block number (option_copied label)

abbrev pub member_view : Member → rows.Member
member_view member = record { set = kind_view member.set; number = member.number }

abbrev pub place_view : Place → rows.Place
place_view place = record { spot = spot_view place.spot; member = option_map member_view place.member }

abbrev pub reason_view : Reason → rows.Reason
reason_view EmptyFile = rows.empty_file
reason_view NoForm = rows.no_form
reason_view WideText = rows.wide_text
reason_view (Faulty fault) = rows.faulty (fault_view fault)
reason_view (ToEnd fault count) = rows.to_end (fault_view fault) count
reason_view NoItem = rows.no_item
reason_view (Behind count) = rows.behind count
reason_view NoEnd = rows.no_end
reason_view WithHeaders = rows.with_headers
reason_view NoOctets = rows.no_octets
reason_view NotBase64 = rows.not_base64
reason_view OtherLabel = rows.other_label
reason_view UnknownLabel = rows.unknown_label
reason_view StrayEnd = rows.stray
reason_view BadBoundary = rows.no_boundary
reason_view NoText = rows.no_text
reason_view NoSignedData = rows.no_signed_data
reason_view NoMembers = rows.no_members

abbrev pub row_view : Row → rows.Shown
row_view (Item place kind size) = rows.shown_item (place_view place) (kind_view kind) size
row_view (LeftOut place reason) = rows.shown_left_out (place_view place) (reason_view reason)
