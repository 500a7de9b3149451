use Rattle.std.proofs.Common.{◌≡◌, Bool, true, false, [], ◌∷◌, subst}
use Rattle.plane.specs.Lists.{pick, every}
use Rattle.plane.specs.Bounds.{all_within}
use Rattle.plane.specs.Corners.{Corner, corner}
use Rattle.plane.specs.Reply.{TurnSays, turn_fits, turn_told}
use Rattle.plane.specs.declared.reply.Reply.{Reply}
use Rattle.plane.specs.declared.reply.Reply.TheVariants.{Refused}
use Rattle.plane.proofs.Booleans.{and_assoc, and_true_right}
use Rattle.plane.proofs.entry.turn.Goals as goal

-- the six numbers fit exactly if the three corners do
fits_all : (a b c : Corner) → all_within 2147483648 a b c ≡ turn_fits (a.x ∷ a.y ∷ b.x ∷ b.y ∷ c.x ∷ c.y ∷ [])
unfolding every
fits_all a b c = simp (and_assoc, and_true_right)

picked_says : (a b c : Corner) (fits : Bool) (r : Reply) → r ≡ pick fits (turn_told a b c) (Refused 1) → TurnSays a b c fits r
unfolding TurnSays
picked_says a b c true r h = h
picked_says a b c false r h = h

pub returns : goal.returns
returns c =
    let a = corner c.args.ax c.args.ay in
    let b = corner c.args.bx c.args.by in
    let d = corner c.args.cx c.args.cy in
    subst (λ fits. TurnSays a b d fits c.reply_to.result) (fits_all a b d) (picked_says a b d (all_within 2147483648 a b d) c.reply_to.result c.reply_to.ensures)
