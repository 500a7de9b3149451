-- What the values of the code stand for. Assumes nothing: these are definitions.
use Rattle.std.specs.Prelude.{◌≡◌, ℕ, ◌+◌, ◌/◌, Bool, true, false, ◌&&◌, List, [], ◌∷◌, length, Some, None, Ok, Err, Option, Result, nat_le, nat_lt, slice_index}
use Rattle.terms.specs.Refusals.{refusal_number}
use Rattle.terms.specs.declared.point.Point.{Point}
use Rattle.map.specs.Memory.{number_at, behind, end_of, Sought, sought, Listed}
use Rattle.map.specs.Sizes.{most_grounds, most_corners, at_grounds, at_corners}
use Rattle.ground.specs.Shapes as shapes
use Rattle.ground.specs.declared.bounding.Extent.{Extent}
use Rattle.map.specs.Promise as promise
use Rattle.map.specs.Promise.{shows, done, refused, Step}
use Rattle.map.specs.Machine.{point}
use Rattle.map.specs.declared.scanning.Hit.{Hit}
use Rattle.map.specs.declared.act.Act.{Act}
use Rattle.map.specs.declared.act.Act.TheVariants.{Shows, Done, Refused}

abbrev pub point_of : Point → shapes.Point
point_of p = point p.a p.b p.w

-- the box of the record at p
abbrev pub box_at : List ℕ → ℕ → Extent
box_at m p = record { west = slice_index m (p + 2); south = slice_index m (p + 3); east = slice_index m (p + 4); north = slice_index m (p + 5) }

-- a record was found at a place, or it would stand there
abbrev pub Found : Result ℕ ℕ → Sought → Type 0
Found (Ok p) g = g ≡ sought true p
Found (Err p) g = g ≡ sought false p

abbrev pub act_of : Act → promise.Act
act_of (Shows n) = shows (n ∷ [])
act_of Done = done
act_of (Refused k) = refused (refusal_number k)

-- the code takes a step of the machine: this memory is left, and this is done
pub record Takes (a : Act) (memory₁ : List ℕ) (s : Step) : Type 0 where
  pub leaves : memory₁ ≡ s.memory
  pub does : act_of a ≡ s.act

-- the ground that was found: its number, where the next record begins, and how many are left; or none has the point
abbrev pub Hits : List ℕ → Option Hit → Listed → Type 0
Hits m None l = l.found ≡ false
Hits m (Some h) l = (l.found ≡ true) × (h.number ≡ number_at m l.place) × (h.next ≡ behind m l.place) × (h.left ≡ l.left)

-- there is room for a ground with so many corners, and p lies within the records
abbrev pub room_for : List ℕ → (p corners : ℕ) → Bool
room_for m p n = (nat_lt (slice_index m at_grounds) most_grounds && nat_le (slice_index m at_corners + n) most_corners) && nat_le p (end_of m)

-- a record, as its numbers are written
abbrev pub written : ℕ → Extent → List ℕ → List ℕ
written i e row = i ∷ length row / 2 ∷ e.west ∷ e.south ∷ e.east ∷ e.north ∷ 0 ∷ 0 ∷ row
