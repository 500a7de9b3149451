-- The text that a command is answered with, and what became of the machine.
use Rattle.std.specs.Prelude.{◌≡◌, ℕ, List, [], ◌++◌, IfOk, Some, None, Ok, Err, codes, decimal, Option, Result}
use Rattle.std.specs.declared.alloc.AllocError.{AllocError}
use Rattle.map.specs.Asking.{End, Went}
use Rattle.map.specs.Promise.{Event}
use Rattle.map.specs.declared.failing.AskError.{AskError}
use Rattle.map.specs.declared.failing.AskError.TheVariants.{Refused, OutOfMemory}
use Rattle.phrase.specs.Answers.{lie_line, all_lie_lines, point_line, area_line, unread_line}
use Rattle.phrase.specs.Commands.{Said}
use Rattle.terms.specs.Refusals.{refusal_number}
use Rattle.dialogue.specs.Replies.{Reply, done, refused, point, lie, all_lie, area, unread, answer_of}

abbrev pub reply_bytes : Reply → List ℕ
reply_bytes done = codes "done\n"
reply_bytes (refused k) = codes "refused " ++ (decimal k ++ codes "\n")
reply_bytes (point a b w grounds) = point_line a b w grounds
reply_bytes (lie m n way) = lie_line m n way
reply_bytes (all_lie n rows) = all_lie_lines n rows
reply_bytes (area n twice) = area_line n twice
reply_bytes (unread line) = unread_line line

-- how a request ended, if memory was not wanting
abbrev pub ended_as : Result (Unit {0}) AskError → Option End
ended_as (Ok d) = Some (Ok tt)
ended_as (Err (Refused why)) = Some (Err why)
ended_as (Err OutOfMemory) = None

-- an end, a refusal by its number
abbrev pub by_number : End → Result (Unit {0}) ℕ
by_number (Ok d) = Ok tt
by_number (Err why) = Err (refusal_number why)

-- The machine went on with what was asked till it ended so, after these numbers were shown, and the text is the answer to that. Where nothing is asked, the
-- machine stays as it was, and there is no text. The text alone may be missing, for want of memory.
abbrev pub Responded : {X : Type 0} → Option Event → Said → (memory memory₁ : List ℕ) → Result X AllocError → (X → List ℕ) → Type 0
Responded None c m m₁ r f = (m₁ ≡ m) × IfOk r (λ x. f x ≡ [])
Responded (Some ev) c m m₁ r f = (shown : List ℕ) × (e : End) × Went m ev m₁ shown e × IfOk r (λ x. f x ≡ reply_bytes (answer_of c (by_number e) shown))
