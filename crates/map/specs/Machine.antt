-- The machine: what it does at each event, for every content of its memory. Assumes nothing: these are definitions.
use Rattle.std.specs.Prelude.{ℕ, Bool, ◌&&◌, List, [], ◌∷◌, length, replicate, ◌==◌, nat_le, nat_lt, slice_index}
use Rattle.plane.specs.Lists.{pick}
use Rattle.ground.specs.Shapes.{Point, Shape, a_shape}
use Rattle.map.specs.House.{put, drop_it, at_point, how_lies, all_that, area_of}
use Rattle.map.specs.Promise.{Engine, Event, said, next, Act, shows, done, refused, Step}
use Rattle.map.specs.Sizes.{memory_length, head_length, at_grounds, at_cursor, at_left, at_a, at_b, at_w}
use Rattle.map.specs.Memory.{number_at, behind, Sought, seek, Listed, scan, with_record, without_record, opened, closed, has_room, within_count}

abbrev pub stepped : List ℕ → Act → Step
stepped m a = record { memory = m; act = a }

-- refused: nothing is changed
abbrev pub no : List ℕ → ℕ → Step
no m k = stepped m (refused k)

abbrev pub point : ℕ → ℕ → ℕ → Point
point a b w = record { px = a; py = b; w = w }

-- the range of points
abbrev pub small_point : Point → Bool
small_point v = (nat_le 1 v.w && nat_lt v.w 1048576) && (nat_lt v.px 1099511627776 && nat_lt v.py 1099511627776)

-- there is such a ground: 4; it's no shape: 5; there's no room: 7
unfoldable pub put_step : List ℕ → ℕ → Shape → Sought → Step
put_step m i s g =
    pick g.found (no m 4)
    (pick (a_shape s) (pick (has_room m g.place s) (stepped (with_record m g.place i s) done) (no m 7)) (no m 5))

unfoldable pub drop_step : List ℕ → Sought → Step
drop_step m g = pick (g.found && within_count m g.place) (stepped (without_record m g.place) done) (no m 3)

-- the number of the ground that was found is shown, and the cursor stands behind it; or the listing ends
unfoldable pub tell_step : List ℕ → Point → Listed → Step
tell_step m v l =
    pick l.found (stepped (opened m (behind m l.place) l.left v) (shows (number_at m l.place ∷ [])))
    (stepped (closed m) done)

unfoldable pub next_step : List ℕ → Point → Step
next_step m v =
    pick (slice_index m at_cursor == 0) (stepped m done)
    (pick (small_point v) (tell_step m v (scan m v (slice_index m at_left) (slice_index m at_cursor))) (stepped (closed m) done))

-- numbers beyond 64 bits never get into the memory; a point out of range is refused with 1; what isn't known yet with 2
unfoldable pub acts : List ℕ → Event → Step
acts m (said (put i s)) = pick (nat_lt i 18446744073709551616) (put_step m i s (seek m (slice_index m at_grounds) head_length i)) (no m 1)
acts m (said (drop_it i)) = drop_step m (seek m (slice_index m at_grounds) head_length i)
acts m (said (at_point a b w)) =
    pick (small_point (point a b w)) (tell_step m (point a b w) (scan m (point a b w) (slice_index m at_grounds) head_length)) (no m 1)
acts m (said (how_lies i j)) = no m 2
acts m (said (all_that i)) = no m 2
acts m (said (area_of i)) = no m 2
acts m next = next_step m (point (slice_index m at_a) (slice_index m at_b) (slice_index m at_w))

-- a memory of another length is no memory of this machine
unfoldable pub own : Engine
own = record { start = replicate memory_length 0; step = λ m ev. pick (length m == memory_length) (acts m ev) (no m 1) }
