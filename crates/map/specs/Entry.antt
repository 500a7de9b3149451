-- How a step of the machine is told to the world outside. Assumes nothing: these are definitions.
use Rattle.std.specs.Prelude.{◌≡◌, ℕ, ◌/◌, ◌%◌, Bool, true, false, ◌&&◌, List, ◌++◌, length, drop, ◌==◌, nat_le}
use Rattle.plane.specs.Lists.{pick}
use Rattle.ground.specs.Rows.{corners}
use Rattle.map.specs.House.{put, drop_it, at_point, how_lies, all_that, area_of}
use Rattle.map.specs.Promise.{Event, said, next, Act, shows, done, refused}
use Rattle.map.specs.Machine.{own}
use Rattle.map.specs.declared.told.Told.{Told}
use Rattle.map.specs.declared.told.Told.TheVariants.{Shows, Done, No}

-- 0 put, with a number and a row of corners; 1 drop; 2 at a point, of three numbers; 3 how two lie; 4 all that; 5 area; 6 go on
unfoldable pub event_of : ℕ → ℕ → ℕ → ℕ → List ℕ → Event
event_of k a b c row =
    pick (k == 0) (said (put a (corners (length row / 2) row))) (pick (k == 1) (said (drop_it a)) (pick (k == 2) (said (at_point a b c))
    (pick (k == 3) (said (how_lies a b)) (pick (k == 4) (said (all_that a)) (pick (k == 5) (said (area_of a)) next)))))

-- an act, told as an enum and the numbers shown at the front of a lent row
unfoldable pub ActTold : Act → Told → (out out₁ : List ℕ) → Type 0
ActTold (shows s) r out out₁ = (r ≡ Shows (length s)) × (out₁ ≡ s ++ drop (length s) out)
ActTold done r out out₁ = (r ≡ Done) × (out₁ ≡ out)
ActTold (refused k) r out out₁ = (r ≡ No k) × (out₁ ≡ out)

-- one step: for memories of the machine's own length, rows of up to 512 numbers, an even number of them, and a lent row of two; for others number 0 is told
-- and nothing is changed
unfoldable pub StepSays : (memory : List ℕ) (kind a b c : ℕ) (row out : List ℕ) → Bool → Told → (memory₁ out₁ : List ℕ) → Type 0
StepSays memory kind a b c row out true r memory₁ out₁ =
    (memory₁ ≡ (own.step memory (event_of kind a b c row)).memory) × ActTold (own.step memory (event_of kind a b c row)).act r out out₁
StepSays memory kind a b c row out false r memory₁ out₁ = (r ≡ No 0) × (memory₁ ≡ memory) × (out₁ ≡ out)

-- what was lent beside the memory fits, whatever the kind of the event
abbrev pub lent_fits : (row out : List ℕ) → Bool
lent_fits row out = (nat_le (length row) 512 && length row % 2 == 0) && nat_le 2 (length out)

unfoldable pub step_fits : (memory : List ℕ) (kind : ℕ) (row out : List ℕ) → Bool
step_fits memory kind row out =
    (length memory == length own.start) && (nat_le kind 6 && ((nat_le (length row) 512 && length row % 2 == 0) && nat_le 2 (length out)))
