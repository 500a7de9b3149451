-- How the machine's memory is laid out: a head, and behind it a record for each ground, by rising numbers. The code has the same numbers as constants.
use Rattle.std.specs.Prelude.{ℕ}

-- all that it may have, in numbers of 64 bits: what comes later takes its room behind the records, and nothing has to move
abbrev pub memory_length : ℕ
memory_length = 262144

-- at most so many grounds, and so many corners in all
abbrev pub most_grounds : ℕ
most_grounds = 1024

abbrev pub most_corners : ℕ
most_corners = 32768

-- THE HEAD, with room for more
abbrev pub head_length : ℕ
head_length = 16

-- how many grounds there are, and how many corners they have in all
abbrev pub at_grounds : ℕ
at_grounds = 0

abbrev pub at_corners : ℕ
at_corners = 1

-- the cursor of a listing: the record that it goes on with, or 0 where none is open; how many records it has yet to look at; the point
abbrev pub at_cursor : ℕ
at_cursor = 2

abbrev pub at_left : ℕ
at_left = 3

abbrev pub at_a : ℕ
at_a = 4

abbrev pub at_b : ℕ
at_b = 5

abbrev pub at_w : ℕ
at_w = 6

-- A RECORD: the ground's number, how many corners it has, its box (west, south, east, north), two numbers to spare, and the corners, two numbers each
abbrev pub record_length : ℕ
record_length = 8
