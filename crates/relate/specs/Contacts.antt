-- What edges have in common. Assumes nothing: these are definitions.
use Rattle.std.specs.Prelude.{Bool, true, false}
use Rattle.plane.specs.Lists.{or}
use Rattle.plane.specs.Corners.{same_corner}
use Rattle.plane.specs.Edges.{Edge}
use Rattle.relate.specs.declared.contact.Contact.{Contact}
use Rattle.relate.specs.declared.contact.Contact.TheVariants.{Crossing, Meeting, Clear}

-- by whether two cross over, and whether two meet
abbrev pub contact : Bool → Bool → Contact
contact true m = Crossing
contact false true = Meeting
contact false false = Clear

-- both together: the closer of the two
abbrev pub joined : Contact → Contact → Contact
joined Crossing k = Crossing
joined Meeting Crossing = Crossing
joined Meeting Meeting = Meeting
joined Meeting Clear = Meeting
joined Clear k = k

abbrev pub is_crossing : Contact → Bool
is_crossing Crossing = true
is_crossing Meeting = false
is_crossing Clear = false

abbrev pub is_clear : Contact → Bool
is_clear Crossing = false
is_clear Meeting = false
is_clear Clear = true

-- an end of the one edge is an end of the other
abbrev pub shares_corner : Edge → Edge → Bool
shares_corner e f =
    or (same_corner e.one f.one) (or (same_corner e.one f.other) (or (same_corner e.other f.one) (same_corner e.other f.other)))
