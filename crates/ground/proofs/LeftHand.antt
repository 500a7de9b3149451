-- A ground is on the left hand of each of its edges.
use Rattle.std.proofs.Common.{◌≡◌, ℕ, ◌≤◌, Bool, true, false, not, ◌&&◌, ◌⊎◌, List, [], ◌∷◌, ◌++◌, sym, refl, ap, ◌∙◌, subst, ap₂, inl, inr, ⊎_elim, arith}
use Rattle.std.specs.List.{AllByRecursion}
use Rattle.std.proofs.lemmas.Bool.{leb-true, and_left, not-true}
use Rattle.plane.specs.Lists.{or}
use Rattle.plane.specs.Corners.{Corner, grown, left_turn, right_turn, in_line}
use Rattle.plane.specs.Edges.{Edge, edge, grown_edge, on_edge, cross_over, meet}
use Rattle.plane.specs.Parity.{xor, xors, crosses, parity, touches}
use Rattle.plane.specs.Orientation.{upward, amid}
use Rattle.plane.proofs.Booleans.{xor_false_right, differ_from_xor, or_cases, or_parts, or_from, not_both, false_from}
use Rattle.plane.proofs.Lists.{In, in_each, in_left, in_right, in_append, any_false_from}
use Rattle.plane.proofs.Xors.{odd_those, xors_in, xors_never, xors_each, xors_turned}
use Rattle.plane.proofs.Segments.{untouched}
use Rattle.plane.proofs.Meeting.{met_at}
use Rattle.plane.proofs.Bends.{bend, parity_bends, bend_unmet, straight}
use Rattle.plane.proofs.Pieces.{amid_parts, on_first, on_second}
use Rattle.plane.proofs.Banks.{bank_left, bank_right}
use Rattle.ground.specs.Shapes.{Point, Shape, edges, as_corner, inside, in_shape, on_border, neighbours_fine}
use Rattle.ground.specs.Orientation.{AmidOdd, point_at, Beside, LeftHand}
use Rattle.ground.proofs.Rings.{Shaped, shape_parts}
use Rattle.ground.proofs.Points.{seen_from, touched_by, enlarged, closed_enlarged, inside_parity}
use Rattle.ground.proofs.Clearance.{fine, fine_comm, ring_fine, pairwise, pairwise_around, split_in, neighbours_parts}
use Rattle.ground.proofs.Orientation.{amid_sense}
use Rattle.ground.proofs.Enlarging.{ring_grown, sense_grown, upward_grown}
use Rattle.ground.proofs.Areas.{ground_ring, ground_sense}

-- WHAT HOLDS OF ALL
all_from : {A : Type 0} (P : A → Type 0) (xs : List A) → ((x : A) → In x xs → P x) → AllByRecursion P xs
all_from P [] h = tt
all_from P (x ∷ xs) h = (h x (inl refl), all_from P xs (λ y m. h y (inr m)))

-- and the other way round
all_at : {A : Type 0} (P : A → Type 0) (x : A) (xs : List A) → AllByRecursion P xs → In x xs → P x
all_at P x [] h m = absurd m
all_at P x (y ∷ ys) h (inl e) = subst P (sym e) h.0
all_at P x (y ∷ ys) h (inr m) = all_at P x ys h.1 m

-- AMID AN EDGE
module _ (s : Shape) (shaped : Shaped s) (p : Point) (above : 1 ≤ p.w) (e : Edge) (here : In e (edges s))
    (middle : amid (grown_edge p.w e) (as_corner p) ≡ true) where
  -- the parity there says whether the edge goes down
  pub amid_parity : parity (enlarged s p) (as_corner p) ≡ not (upward e)
  amid_parity =
      let m = amid_parts (grown_edge p.w e) (as_corner p) middle in
      differ_from_xor (parity (enlarged s p) (as_corner p)) (upward (grown_edge p.w e))
      (amid_sense (enlarged s p) (grown_edge p.w e) (as_corner p) (ring_grown p.w above (edges s) (ground_ring s shaped))
      (in_each (grown_edge p.w) e (edges s) here) m.0 m.1 m.2
      ∙ sense_grown p.w above (edges s) ∙ ground_sense s shaped)
      ∙ ap not (upward_grown p.w above e)

-- amid an edge the number of crossings is odd if the edge goes down
pub amid_odd : AmidOdd
unfolding AmidOdd
amid_odd s p ground pointed =
    all_from _ (edges s)
    (λ e m middle.
    odd_those (seen_from p) (edges s) ∙ sym (xors_each (λ f. crosses f (as_corner p)) (grown_edge p.w) (edges s))
    ∙ amid_parity s (shape_parts s ground) p (leb-true 1 p.w pointed) e m middle)

-- BESIDE AN EDGE
-- an edge doesn't stand beside itself
not_fine_itself : (e : Edge) → fine e e ≡ true → ⊥
not_fine_itself e h =
    ⊎_elim (λ k. not_both (meet e e) (met_at e e e.one (on_first e.one e.other) (on_first e.one e.other)) (not-true (meet e e) k))
    (λ k. ⊎_elim joined joined (or_cases (neighbours_fine e e) (neighbours_fine e e) k))
    (or_cases (not (meet e e)) (or (neighbours_fine e e) (neighbours_fine e e)) h)
  where
    joined : neighbours_fine e e ≡ true → ⊥
    joined k = not_both (on_edge e e.other) (on_second e.one e.other) (neighbours_parts e e k).1

-- the parity at the end of a way, from that at its beginning and what is added on it
inside_after : (p q up : Bool) → xor p q ≡ up → p ≡ not up → q ≡ true
inside_after p q up h k = grind arith

outside_after : (p q up : Bool) → xor p q ≡ not up → p ≡ not up → q ≡ false
outside_after p q up h k = grind arith

module _ (s : Shape) (shaped : Shaped s) (w : ℕ) (above : 1 ≤ w) (p q : Corner) (e : Edge) (here : In e (edges s)) (beside : Beside s w e p q) where
  -- the other edges are not met on the way
  others : (f : Edge) → In f (edges s) → (f ≡ e → ⊥) → meet (grown_edge w f) (edge p q) ≡ false
  others f m off =
      ⊎_elim (λ k. absurd (off k)) (λ k. k) (all_at (λ f₁. (f₁ ≡ e) ⊎ (meet (grown_edge w f₁) (edge p q) ≡ false)) f (edges s) beside.1 m)

  -- so only the edge itself adds to the parity
  on_the_way : xor (parity (enlarged s (point_at w p)) p) (parity (enlarged s (point_at w q)) q) ≡ bend p q (grown_edge w e)
  unfolding xors
  on_the_way =
      parity_bends (enlarged s (point_at w p)) p q (closed_enlarged s (point_at w p))
      ∙ xors_each (bend p q) (grown_edge w) (edges s)
      ∙ ap (xors added) split.2 ∙ xors_turned added split.0 (e ∷ split.1)
      ∙ ap (xor (added e)) (xors_in added (λ f. false) (split.1 ++ split.0) nothing ∙ xors_never (split.1 ++ split.0)) ∙ xor_false_right (added e)
    where
      added : Edge → Bool
      added f = bend p q (grown_edge w f)

      split : (before : List Edge) × (after : List Edge) × (edges s ≡ before ++ e ∷ after)
      split = split_in e (edges s) here

      around : ((f : Edge) → In f split.0 → fine e f ≡ true) × ((f : Edge) → In f split.1 → fine e f ≡ true)
      around = pairwise_around fine fine_comm split.0 e split.1 (subst (λ fs. pairwise fine fs ≡ true) split.2 (ring_fine (edges s) shaped.clear))

      nothing : (f : Edge) → In f (split.1 ++ split.0) → added f ≡ false
      nothing f m =
          ⊎_elim
          (λ a. free (around.1 f a) (in_right f split.0 (e ∷ split.1) (inr a))) (λ b. free (around.0 f b) (in_left f split.0 (e ∷ split.1) b))
          (in_append f split.1 split.0 m)
        where
          free : fine e f ≡ true → In f (split.0 ++ e ∷ split.1) → added f ≡ false
          free k i = bend_unmet p q (grown_edge w f) (others f (subst (In f) (sym split.2) i) (λ same. not_fine_itself e (ap (fine e) (sym same) ∙ k)))

  -- what is off the line of the edge is on no border
  off_border : on_edge (grown_edge w e) q ≡ false → on_border s (point_at w q) ≡ false
  off_border off = any_false_from (touched_by (point_at w q)) (edges s) clear
    where
      clear : (f : Edge) → In f (edges s) → on_edge (grown_edge w f) q ≡ false
      clear f m =
          ⊎_elim (λ same. ap (λ g. on_edge (grown_edge w g) q) same ∙ off)
          (λ unmet. (untouched p q (grown_edge w f) (or_parts (cross_over (grown_edge w f) (edge p q)) (touches p q (grown_edge w f)) unmet).1).1)
          (all_at (λ f₁. (f₁ ≡ e) ⊎ (meet (grown_edge w f₁) (edge p q) ≡ false)) f (edges s) beside.1 m)

  -- what is on a side of the edge is not on it
  off_edge : (in_line (grown w e.one) (grown w e.other) q ≡ true → ⊥) → on_edge (grown_edge w e) q ≡ false
  off_edge turned = and_left (in_line (grown w e.one) (grown w e.other) q) _ (false_from (in_line (grown w e.one) (grown w e.other) q) turned)

  -- to the left the way leads inside
  left_inside : left_turn (grown w e.one) (grown w e.other) q ≡ true → inside s (point_at w q) ≡ true
  left_inside turn =
      let m = amid_parts (grown_edge w e) p beside.0 in
      inside_parity s (point_at w q)
      ∙ ap₂ (λ t b. t && not b)
      (inside_after (parity (enlarged s (point_at w p)) p) (parity (enlarged s (point_at w q)) q) (upward e)
      (on_the_way ∙ bank_left (grown w e.one) (grown w e.other) p q m.0 m.1 m.2 turn ∙ upward_grown w above e)
      (amid_parity s shaped (point_at w p) above e here beside.0))
      (off_border (off_edge (λ h. not_both _ turn (straight (grown w e.one) (grown w e.other) q h).0)))

  -- to the right, outside
  right_outside : right_turn (grown w e.one) (grown w e.other) q ≡ true → in_shape s (point_at w q) ≡ false
  right_outside turn =
      let m = amid_parts (grown_edge w e) p beside.0 in
      let border = off_border (off_edge (λ h. not_both _ turn (straight (grown w e.one) (grown w e.other) q h).1)) in
      or_from (inside s (point_at w q)) (on_border s (point_at w q))
      (inside_parity s (point_at w q)
      ∙ ap₂ (λ t b. t && not b)
      (outside_after (parity (enlarged s (point_at w p)) p) (parity (enlarged s (point_at w q)) q) (upward e)
      (on_the_way ∙ bank_right (grown w e.one) (grown w e.other) p q m.0 m.1 m.2 turn ∙ ap not (upward_grown w above e))
      (amid_parity s shaped (point_at w p) above e here beside.0))
      border)
      border

-- what is beside an edge is inside on its left, and outside on its right
pub left_hand : LeftHand
unfolding LeftHand
left_hand s w p q ground above =
    all_from _ (edges s)
    (λ e m beside. (left_inside s (shape_parts s ground) w above p q e m beside, right_outside s (shape_parts s ground) w above p q e m beside))
