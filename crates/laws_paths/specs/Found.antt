-- A bundle that is read, a policy, and what is found: they try the laws' definitions, not the code.
use Rattle.std.specs.Prelude.{ℕ, pos, false, List, [], ◌∷◌, map}
use Rattle.std.specs.Borrow.{Bor}
use Rattle.std.specs.Global.{Vec, Global}
use Rattle.std.proofs.Common.{arith, refl}
use Rattle.std.proofs.Math.Dec.{lit<, lit≤}
use Rattle.std.proofs.lemmas.Int.{ints}
use Rattle.jiff_core.specs.Calendar.{IsYear}
use Rattle.jiff_core.specs.declared.civil.date.Date.{Date}
use Rattle.jiff_core.specs.declared.civil.time.Time.{Time}
use Rattle.cert_graph.specs.declared.answer.Answer.{Answer}
use Rattle.cert_graph.specs.declared.answer.Answer.TheVariants.{NoPath, Path}
use Rattle.cert_graph.specs.declared.changes.Change.{Change}
use Rattle.cert_graph.specs.declared.inventory.Inventory.{Inventory}
use Rattle.cert_graph.specs.declared.inventory.Verdict.TheVariants.{FirstPath, Pathless}
use Rattle.cert_graph.specs.declared.reach.Reach.TheVariants.{UpTo}
use Rattle.cert_model.specs.Octets.{certificate_octets}
use Rattle.cert_judge.specs.Examples.{anchor_named, limited_above}
use Rattle.cert_judge.specs.declared.policy.Policy.{Policy}
use Rattle.laws_graph.specs.Vectors.{vec_of}
use Rattle.laws_paths.specs.Worked.{no_row}

-- a certificate of b, b's own under c, and c's under d, with a path length that allows no authority below it; and the anchor d
abbrev pub limited_octets : List (List ℕ)
limited_octets = map certificate_octets limited_above

abbrev pub anchor_octets : List (List ℕ)
anchor_octets = certificate_octets (anchor_named 0x64) ∷ []

-- the first of June 2025 at midnight
pub is_year : IsYear (pos 2025)
is_year = (omega (arith, ints), omega (arith, ints))

abbrev pub june_first : Date
june_first = record { year = pos 2025; month = 6; day = 1; year_in = is_year; month_in = (lit≤ tt, lit≤ tt); day_in = (lit≤ tt, lit≤ tt) }

abbrev pub midnight : Time
midnight = record {
  hour = 0;
  minute = 0;
  second = 0;
  subsec_nanosecond = 0;
  hour_in = lit< tt;
  minute_in = lit< tt;
  second_in = lit< tt;
  subsec_in = lit< tt;
}

-- by that moment; no list is demanded
abbrev pub by_june : Bor Policy
by_june = record { ref_ptr = (0, 0); now = record { moment = record { date = june_first; time = midnight }; demand_lists = false; whole_seconds = refl } }

module _ (alloc : Global) where
  -- no path from the certificate of b, and one from b's own
  abbrev pub none_found : Answer
  none_found = NoPath (no_row alloc)

  abbrev pub path_found : Answer
  path_found = Path (vec_of alloc (1 ∷ 2 ∷ []) (lit< tt)) 0 (no_row alloc)

  -- the third leads to the anchor with nothing counted below it
  abbrev pub one_change : Vec Change
  one_change = vec_of alloc (record { position = 2; reach = UpTo 0 } ∷ []) (lit< tt)

  -- no path from the first, one from the second over the third, and one from the third alone
  abbrev pub all_found : Inventory
  all_found = record {
    steps = vec_of alloc (one_change ∷ []) (lit< tt);
    verdicts =
        vec_of alloc
        (Pathless ∷ FirstPath (vec_of alloc (1 ∷ 2 ∷ []) (lit< tt)) 0 ∷ FirstPath (vec_of alloc (2 ∷ []) (lit< tt)) 0 ∷ []) (lit< tt);
  }
