use Rattle.std.proofs.Common.{◌≡◌, ◌++◌, ◌≤◌, take, drop, filter}
use Rattle.certpath_pem.specs.Blocks.{is_symbol}
use Rattle.certpath_pem.proofs.pieces.next_symbols.Given as goal

abbrev pub invariant-loop-place : goal.invariant-loop-place
invariant-loop-place l = record {
  symbols : take l.used l.piece ++ filter is_symbol (drop l.place l.text) ≡ filter is_symbol l.text;
  within : l.used ≤ 4096;
  behind : l.used ≤ l.place;
}
