-- Bounding boxes: of a row of corners, of a point, and which lies in which. Assumes nothing: these are definitions.
use Rattle.std.specs.Prelude.{ℕ, ◌+◌, ◌*◌, ◌/◌, ◌%◌, min, max, Bool, ◌&&◌, List, length, ◌==◌, nat_le, nat_lt}
use Rattle.plane.specs.Lists.{or}
use Rattle.plane.specs.Corners.{Corner}
use Rattle.ground.specs.Shapes.{Point, Shape}
use Rattle.ground.specs.Rows.{least, greatest}
use Rattle.ground.specs.declared.bounding.Extent.{Extent}

-- the least box with all corners in it
abbrev pub box_of : Shape → Extent
box_of s = record { west = least (λ c. c.x) s; south = least (λ c. c.y) s; east = greatest (λ c. c.x) s; north = greatest (λ c. c.y) s }

-- the least box around a box and a corner
abbrev pub grown_to : Extent → Corner → Extent
grown_to e c = record { west = min e.west c.x; south = min e.south c.y; east = max e.east c.x; north = max e.north c.y }

-- a row has a box if it has corners and no number is left over
abbrev pub has_box : List ℕ → Bool
has_box row = nat_le 2 (length row) && length row % 2 == 0

-- the least whole number not below n / w
abbrev pub raised : ℕ → ℕ → ℕ
raised n w = n / w + min 1 (n % w)

-- the least box of whole numbers with the point a / w, b / w in it
abbrev pub box_around : ℕ → ℕ → ℕ → Extent
box_around a b w = record { west = a / w; south = b / w; east = raised a w; north = raised b w }

-- the inner box lies in the outer one
abbrev pub holds : Extent → Extent → Bool
holds outer inner =
    (nat_le outer.west inner.west && nat_le inner.east outer.east) && (nat_le outer.south inner.south && nat_le inner.north outer.north)

-- the one box is all west of the other, or east, or south, or north of it
abbrev pub boxes_apart : Extent → Extent → Bool
boxes_apart a b = or (or (nat_lt a.east b.west) (nat_lt b.east a.west)) (or (nat_lt a.north b.south) (nat_lt b.north a.south))

-- the least box with both in it
abbrev pub box_together : Extent → Extent → Extent
box_together d e = record { west = min d.west e.west; south = min d.south e.south; east = max d.east e.east; north = max d.north e.north }

-- a box has the point, if all is grown by the point's w
abbrev pub in_box : (west south east north : ℕ) → Point → Bool
in_box west south east north p =
    (nat_le (p.w * west) p.px && nat_le p.px (p.w * east)) && (nat_le (p.w * south) p.py && nat_le p.py (p.w * north))
