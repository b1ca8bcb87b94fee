-- Settings with neither a purpose nor a host, and what they demand: they try the laws' definitions, not the code.
use Rattle.std.specs.Prelude.{[], None, pos}
use Rattle.certpath_c.specs.declared.times.Moment.{Moment}
use Rattle.certpath_c.specs.declared.asked.Settings.{Settings}
use Rattle.certpath_c.specs.declared.wanted.Wanted.{Wanted}

abbrev pub no_moment : Moment
no_moment = record { year = pos 0; month = pos 0; day = pos 0; hour = pos 0; minute = pos 0; second = pos 0 }

abbrev pub plain_settings : Settings
plain_settings = record {
  target = 0;
  limit = 0;
  demands_lists = 0;
  moment = no_moment;
  purpose = record { ref_ptr = (0, 0); now = [] };
  host = record { ref_ptr = (0, 0); now = [] };
}

abbrev pub nothing_wanted : Wanted
nothing_wanted = record { purpose = None; host = None }
