-- What is seen beside the edges of one ring, of itself and of another. Assumes nothing: these are definitions.
use Rattle.std.specs.Prelude.{ℕ, Bool, true, false, not, ◌&&◌, ◌∷◌, nat_le, nat_lt}
use Rattle.plane.specs.Lists.{or, any, pick}
use Rattle.plane.specs.Corners.{Corner, same_corner}
use Rattle.plane.specs.Edges.{Edge}
use Rattle.plane.specs.Parity.{xor}
use Rattle.ground.specs.Shapes.{Shape}
use Rattle.relate.specs.Contacts.{is_crossing, is_clear}
use Rattle.relate.specs.declared.contact.Contact.{Contact}
use Rattle.relate.specs.Samples.{raw, starts, sample}
use Rattle.relate.specs.Finding.{found_at, found_along, found}
use Rattle.relate.specs.declared.parities.Parities.{Parities}
use Rattle.relate.specs.declared.sides.Sides.{Sides}

-- just after u, on the edge e, the row t has the parity j
abbrev pub has_parity : Shape → Bool → Edge → Corner → Bool
has_parity t j e u = starts e u && not (xor j (raw t (sample e u)))

-- the parities that t has after the first corner of e and after all corners of t
abbrev pub parities_of : Shape → Edge → Parities
parities_of t e = record { odd = any (has_parity t true e) (e.one ∷ t); even = any (has_parity t false e) (e.one ∷ t) }

-- after one corner, if that is not the first of e
abbrev pub later_parity : Shape → Bool → Edge → Corner → Bool
later_parity t j e u = not (same_corner e.one u) && has_parity t j e u

abbrev pub parities_later : Shape → Edge → Corner → Parities
parities_later t e u = record { odd = later_parity t true e u; even = later_parity t false e u }

-- the edge is not level, and goes on at the height: its end does not count
abbrev pub goes_on_at : Edge → ℕ → Bool
goes_on_at e h = or (nat_le e.one.y h && nat_lt h e.other.y) (nat_lt e.other.y h && nat_le h e.one.y)

abbrev pub both_parities : Parities → Parities → Parities
both_parities p q = record { odd = or p.odd q.odd; even = or p.even q.even }

-- what is seen beside one edge
abbrev pub beside : Shape → Bool → Bool → Edge → Bool
beside t i j e = any (found_at t i j e) (e.one ∷ t)

abbrev pub sides_of : Shape → Edge → Sides
sides_of t e = record { both = beside t true true e; own = beside t true false e; other = beside t false true e }

-- what is seen along the whole ring s
abbrev pub sides_along : Shape → Shape → Sides
sides_along s t = record { both = found_along s t true true; own = found_along s t true false; other = found_along s t false true }

abbrev pub both_sides : Sides → Sides → Sides
both_sides p q = record { both = or p.both q.both; own = or p.own q.own; other = or p.other q.other }

-- the same from the other ring
abbrev pub turned_sides : Sides → Sides
turned_sides p = record { both = p.both; own = p.other; other = p.own }

abbrev pub all_seen : Sides → Bool
all_seen p = p.both && (p.own && p.other)

-- what is seen along both rings
abbrev pub sides_both : Shape → Shape → Sides
sides_both s t = record { both = found s t true true; own = found s t true false; other = found s t false true }

-- the way by contacts and sides
abbrev pub way_so : Contact → Sides → ℕ
way_so k p =
    pick (is_crossing k) 5
    (pick p.both (pick p.own (pick p.other 5 3) (pick p.other 2 4)) (pick (is_clear k) 0 1))
