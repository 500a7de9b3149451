-- Why a ground was refused, in words.
use Rattle.std.specs.Prelude.{◌≡◌, ℕ, true, cond, List, ◌++◌, Some, None, codes, decimal, Option, ◌==◌}
use Rattle.ground.specs.Reasons.{reason_words}
use Rattle.ground.specs.Refusals.{is_ground, Wrong}
use Rattle.ground.specs.declared.refusal.NoGround.{NoGround}

abbrev pub number_words : ℕ → List ℕ
number_words k = codes "refused " ++ decimal k

abbrev pub ground_words : ℕ → Option NoGround → List ℕ
ground_words k None = number_words k
ground_words k (Some why) = reason_words why

-- refusal k of ground n: 4, there is one; 7, no room; 5, the row is no ground
abbrev pub refusal_words : ℕ → ℕ → Option NoGround → List ℕ
refusal_words k n why =
    cond (k == 4) (codes "there is a ground " ++ (decimal n ++ codes " already"))
    (cond (k == 7) (codes "no room: more than 1024 grounds or 32768 corners") (cond (k == 5) (ground_words k why) (number_words k)))

-- the row is a ground, or this is wrong with it
abbrev pub Blamed : List ℕ → Option NoGround → Type 0
Blamed row None = is_ground row ≡ true
Blamed row (Some why) = Wrong row why

abbrev pub SaysWhy : ℕ → ℕ → List ℕ → List ℕ → Type 0
SaysWhy k n row text = (why : Option NoGround) × Blamed row why × (text ≡ refusal_words k n why)
