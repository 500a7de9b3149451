-- A request as an event, and what came of it. Assumes nothing: these are definitions.
use Rattle.std.specs.Prelude.{◌≡◌, ℕ, ◌%◌, ◌<◌, ◌&&◌, List, [], ◌∷◌, ◌++◌, length, Ok, Err, Result, ◌==◌, nat_le, codes, decimal}
use Rattle.plane.specs.Lists.{pick}
use Rattle.ground.specs.Shapes.{Shape}
use Rattle.ground.specs.Rows.{shape_of}
use Rattle.terms.specs.Refusals.{refusal_number}
use Rattle.terms.specs.declared.refusal.Refusal.{Refusal}
use Rattle.map.specs.House.{Map, put, drop_it, at_point, how_lies, all_that, area_of, refusal}
use Rattle.map.specs.Promise.{Event, said, next, runs}
use Rattle.map.specs.Machine.{own}
use Rattle.map.specs.declared.event.Request.{Request}
use Rattle.map.specs.declared.event.Request.TheVariants.{Put, Drop, AtPoint, HowLie, AllThatLie, AreaOf}
use Rattle.map.specs.declared.event.Event as heard
use Rattle.map.specs.declared.event.Event.TheVariants.{Asked, GoOn}
use Rattle.map.specs.declared.failing.AskError.{AskError}
use Rattle.map.specs.declared.failing.AskError.TheVariants.{Refused, OutOfMemory}

-- what the machine is handed of a row: all of it, or nothing if it is odd or too long, since neither can be a ground
abbrev pub handed : List ℕ → List ℕ
handed row = pick (nat_le (length row) 512 && length row % 2 == 0) row []

abbrev pub event_said : Request → Event
event_said (Put i row) = said (put i (shape_of (handed row.now)))
event_said (Drop i) = said (drop_it i)
event_said (AtPoint p) = said (at_point p.a p.b p.w)
event_said (HowLie i j) = said (how_lies i j)
event_said (AllThatLie i) = said (all_that i)
event_said (AreaOf i) = said (area_of i)

-- a request, or to go on
abbrev pub event_heard : heard.Event → Event
event_heard (Asked q) = event_said q
event_heard GoOn = next

-- rows one behind the other
unfoldable pub flattened : List (List ℕ) → List ℕ
flattened [] = []
flattened (r ∷ rs) = r ++ flattened rs

-- how a request ends: done, or refused
abbrev pub End : Type 0
End = Result (Unit {0}) Refusal

abbrev pub end_number : End → ℕ
end_number (Ok d) = 0
end_number (Err why) = refusal_number why

-- the machine went on with the event till it ended: after so many steps, with this memory, these numbers shown, and this end
unfoldable pub Went : List ℕ → Event → (memory shown : List ℕ) → End → Type 0
Went m ev m₁ shown e =
    (n : ℕ) × (ss : List (List ℕ)) × (shown ≡ flattened ss) × (runs n own m ev [] ≡ record { memory = m₁; showed = ss; end = end_number e })

-- what is answered of a request that ended so, after s was shown and t was added: that end, and then all of s was added; or memory was wanting
abbrev pub EndSaid : Result (Unit {0}) AskError → End → (s t : List ℕ) → Type 0
EndSaid (Ok d) e s t = (Ok tt ≡ e) × (t ≡ s)
EndSaid (Err (Refused why)) e s t = (Err why ≡ e) × (t ≡ s)
EndSaid (Err OutOfMemory) e s t = Unit {0}

-- the machine ended so; what it showed was added to what was shown before, or some of that, if it wasn't for want of room
unfoldable pub RanThrough : List ℕ → Event → (memory shown shown₁ : List ℕ) → Result (Unit {0}) AskError → Type 0
RanThrough m ev m₁ shown shown₁ r =
    (s : List ℕ) × (e : End) × (t : List ℕ) × Went m ev m₁ s e × (shown₁ ≡ shown ++ t) × EndSaid r e s t

-- why a request is not answered, in words
abbrev pub error_words : AskError → List ℕ
error_words (Refused why) = codes "refused " ++ decimal (refusal_number why)
error_words OutOfMemory = codes "memory allocation failed"

-- So a row of more than 256 corners is answered as the rule says: it's refused with the same number as no corners are.
unfoldable pub LongRows : Type 0
LongRows = (k : Map) (i : ℕ) (s : Shape) → 256 < length s → refusal k (put i s) ≡ refusal k (put i [])
