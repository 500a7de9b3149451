-- What a line comes to.
use Rattle.std.specs.Prelude.{◌≡◌, ℕ, true, ◌⊎◌, List, [], is_err, IfOk, Some, None, vec_items, Option, Result}
use Rattle.std.specs.declared.alloc.AllocError.{AllocError}
use Rattle.phrase.specs.Answers.{unread_line}
use Rattle.phrase.specs.Commands.{Said, put, drops, at_point, how_lie, all_that_lie, area_of, help, quit, nothing}
use Rattle.dialogue.specs.Requests.{request_of}
use Rattle.dialogue.specs.Responses.{Responded}
use Rattle.dialogue.specs.declared.outcome.Outcome.{Outcome}
use Rattle.dialogue.specs.declared.outcome.Outcome.TheVariants.{Text, Silence, Help, Quit}

-- what is answered: no answer is empty
abbrev pub text : Outcome → List ℕ
text (Text v) = vec_items v
text Silence = []
text Help = []
text Quit = []

-- nothing was asked of the machine, and it came to this
abbrev pub CameTo : Outcome → (memory memory₁ : List ℕ) → Result Outcome AllocError → Type 0
CameTo x m m₁ r = (m₁ ≡ m) × IfOk r (λ y. y ≡ x)

abbrev pub CommandAnswered : Said → (memory memory₁ : List ℕ) → Result Outcome AllocError → Type 0
CommandAnswered (put n row) m m₁ r = Responded (request_of (put n row)) (put n row) m m₁ r text
CommandAnswered (drops n) m m₁ r = Responded (request_of (drops n)) (drops n) m m₁ r text
CommandAnswered (at_point a b w) m m₁ r = Responded (request_of (at_point a b w)) (at_point a b w) m m₁ r text
CommandAnswered (how_lie i j) m m₁ r = Responded (request_of (how_lie i j)) (how_lie i j) m m₁ r text
CommandAnswered (all_that_lie n) m m₁ r = Responded (request_of (all_that_lie n)) (all_that_lie n) m m₁ r text
CommandAnswered (area_of n) m m₁ r = Responded (request_of (area_of n)) (area_of n) m m₁ r text
CommandAnswered help m m₁ r = CameTo Help m m₁ r
CommandAnswered quit m m₁ r = CameTo Quit m m₁ r
CommandAnswered nothing m m₁ r = CameTo Silence m m₁ r

-- a line that says nothing is told so
abbrev pub MeaningAnswered : Option Said → (line memory memory₁ : List ℕ) → Result Outcome AllocError → Type 0
MeaningAnswered None line m m₁ r = (m₁ ≡ m) × IfOk r (λ y. text y ≡ unread_line line)
MeaningAnswered (Some c) line m m₁ r = CommandAnswered c m m₁ r

-- what the line says is done; or it was given up for want of memory, before anything was asked
abbrev pub LineAnswered : Option Said → (line memory memory₁ : List ℕ) → Result Outcome AllocError → Type 0
LineAnswered o line m m₁ r = ((m₁ ≡ m) × (is_err r ≡ true)) ⊎ MeaningAnswered o line m m₁ r
