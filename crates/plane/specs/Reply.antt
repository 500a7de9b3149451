-- What the entry that tells how three corners turn answers. Assumes nothing: these are definitions.
use Rattle.std.specs.Prelude.{◌≡◌, ℕ, Bool, true, false, List, nat_lt}
use Rattle.plane.specs.Lists.{pick, every}
use Rattle.plane.specs.Corners.{Corner, left_turn, right_turn}
use Rattle.plane.specs.declared.reply.Reply.{Reply}
use Rattle.plane.specs.declared.reply.Reply.TheVariants.{Left, Right, Straight, Refused}

abbrev pub turn_told : Corner → Corner → Corner → Reply
turn_told a b c = pick (left_turn a b c) Left (pick (right_turn a b c) Right Straight)

-- numbers below 2^31, else it's refused with 1
unfoldable pub TurnSays : Corner → Corner → Corner → Bool → Reply → Type 0
TurnSays a b c true r = r ≡ turn_told a b c
TurnSays a b c false r = r ≡ Refused 1

abbrev pub turn_fits : (xs : List ℕ) → Bool
turn_fits xs = every (λ n. nat_lt n 2147483648) xs
