-- The first octets of what a block holds. This page is to be believed.
use Rattle.std.specs.Prelude.{ℕ, length, take}
use Rattle.certpath_pem.specs.Blocks.{Content, octets, unended, headers, empty, no_base64}

-- what a block holds, with so many of its octets at most
abbrev pub first_of : ℕ → Content → Content
first_of limit (octets o) = octets (take limit o)
first_of limit unended = unended
first_of limit headers = headers
first_of limit empty = empty
first_of limit no_base64 = no_base64

-- how many octets it holds
abbrev pub count_of : Content → ℕ
count_of (octets o) = length o
count_of unended = 0
count_of headers = 0
count_of empty = 0
count_of no_base64 = 0

pub record Start : Type 0 where
  pub content : Content
  pub count : ℕ

abbrev pub start_of : ℕ → Content → Start
start_of limit content = record { content = first_of limit content; count = count_of content }

-- of what holds no octets
abbrev pub uncounted : Content → Start
uncounted content = record { content = content; count = 0 }
