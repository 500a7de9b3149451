-- What a point with fractions sees: heights told by whole numbers, and sides told without the denominator.
use Rattle.std.proofs.Common.{◌≡◌, ℕ, ◌*◌, ◌<◌, ◌≤◌, Bool, true, false, ◌&&◌, ltb, leb, sym, ◌∙◌, inl, inr, mul-le-mul_left, arith}
use Rattle.std.proofs.lemmas.Bool.{ltb-true, lt-ltb, cases_lt}
use Rattle.std.proofs.lemmas.Bool.Decides.{nat_tests}
use Rattle.plane.specs.Lists.{or}
use Rattle.plane.specs.Corners.{Corner, grown, left_turn, right_turn, in_line, between}
use Rattle.plane.specs.Edges.{Edge, edge, grown_edge}
use Rattle.plane.specs.Levels.{Floors, Ceils}
use Rattle.plane.specs.Sights.{SeenAt}
use Rattle.plane.specs.declared.sight.Sight.{Sight}
use Rattle.plane.specs.declared.sight.Sight.TheVariants.{Border, Crossed, Missed}
use Rattle.plane.proofs.Chains.{reversed}
use Rattle.plane.proofs.Reversal.{on_edge_reversed, crosses_reversed}
use Rattle.plane.proofs.Booleans.{same_from_both}

-- y / w is below the whole height n exactly if its floor f is
pub floor_tells : (w f y n : ℕ) → Floors y w f → ltb f n ≡ ltb y (w * n)
floor_tells w f y n h =
    same_from_both _ _ (λ l. lt-ltb y (w * n) (omega (arith, mul-le-mul_left w (ltb-true f n l))))
    (λ l. lt-ltb f n (over (ltb-true y (w * n) l)))
  where
    over : y < w * n → f < n
    over l = elim (cases_lt f n) [ inl i ↦ i | inr i ↦ absurd (omega (arith, mul-le-mul_left w i)) ]

-- y / w is above the whole height n exactly if its ceiling k is
pub ceiling_tells : (w k y n : ℕ) → Ceils y w k → ltb n k ≡ ltb (w * n) y
ceiling_tells w k y n h =
    same_from_both _ _ (λ l. lt-ltb (w * n) y (omega (arith, mul-le-mul_left w (ltb-true n k l))))
    (λ l. lt-ltb n k (under (ltb-true (w * n) y l)))
  where
    under : w * n < y → n < k
    under l = elim (cases_lt n k) [ inl i ↦ i | inr i ↦ absurd (omega (arith, mul-le-mul_left w i)) ]

-- HEIGHTS ALONE. At a level outside the heights of an edge nothing is seen of it, wherever the point lies
module _ (l h y : ℕ) (line wide left right : Bool) (rise : l ≤ h) where
  abbrev Unseen : Type 0
  Unseen = (line && (wide && between l h y) ≡ false) × (or ((leb l y && ltb y h) && left) ((leb h y && ltb y l) && right) ≡ false)

  unseen_above : y < l → Unseen
  unseen_above k = (grind (arith, nat_tests), grind (arith, nat_tests))

  unseen_below : h < y → Unseen
  unseen_below k = (grind (arith, nat_tests), grind (arith, nat_tests))

module _ (w : ℕ) (low high p : Corner) (rise : low.y ≤ high.y) where
  -- the edge is above the point
  pub missed_above : ltb p.y (w * low.y) ≡ true → SeenAt w (edge low high) p Missed
  missed_above k =
      unseen_above (w * low.y) (w * high.y) p.y (in_line (grown w low) (grown w high) p) (between (w * low.x) (w * high.x) p.x)
      (left_turn (grown w low) (grown w high) p) (right_turn (grown w low) (grown w high) p) (mul-le-mul_left w rise) (ltb-true p.y (w * low.y) k)

  -- the edge is below the point
  pub missed_below : ltb (w * high.y) p.y ≡ true → SeenAt w (edge low high) p Missed
  missed_below k =
      unseen_below (w * low.y) (w * high.y) p.y (in_line (grown w low) (grown w high) p) (between (w * low.x) (w * high.x) p.x)
      (left_turn (grown w low) (grown w high) p) (right_turn (grown w low) (grown w high) p) (mul-le-mul_left w rise) (ltb-true (w * high.y) p.y k)

-- an edge is seen alike, whichever way it is gone
pub seen_reversed : (w : ℕ) (e : Edge) (p : Corner) (s : Sight) → SeenAt w (reversed e) p s → SeenAt w e p s
seen_reversed w e p Border h = (sym (on_edge_reversed (grown_edge w e) p) ∙ h.0, sym (crosses_reversed (grown_edge w e) p) ∙ h.1)
seen_reversed w e p Crossed h = (sym (on_edge_reversed (grown_edge w e) p) ∙ h.0, sym (crosses_reversed (grown_edge w e) p) ∙ h.1)
seen_reversed w e p Missed h = (sym (on_edge_reversed (grown_edge w e) p) ∙ h.0, sym (crosses_reversed (grown_edge w e) p) ∙ h.1)
