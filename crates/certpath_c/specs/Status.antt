-- The statuses of the header.
use Rattle.std.specs.Prelude.{ℤ, pos}

abbrev pub done : ℤ
done = pos 0

abbrev pub out_of_memory : ℤ
out_of_memory = pos 1

abbrev pub too_small : ℤ
too_small = pos 2

abbrev pub no_field : ℤ
no_field = pos 3

abbrev pub bad_name : ℤ
bad_name = pos 4

abbrev pub bad_moment : ℤ
bad_moment = pos 5

abbrev pub bad_answer : ℤ
bad_answer = pos 6

abbrev pub bad_line : ℤ
bad_line = pos 7

abbrev pub not_certificate : ℤ
not_certificate = pos 8

abbrev pub bad_host : ℤ
bad_host = pos 9
