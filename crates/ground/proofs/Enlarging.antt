-- A ring made w times as large, w at least 1, is as clear as it was, and has the same sense.
use Rattle.std.proofs.Common.{◌≡◌, ℕ, ◌≤◌, not, ◌&&◌, List, [], ◌∷◌, sym, refl, ap, ◌∙◌, subst, ap₂}
use Rattle.plane.specs.Lists.{or, each}
use Rattle.plane.specs.Corners.{Corner, grown}
use Rattle.plane.specs.Edges.{Edge, grown_edge}
use Rattle.plane.specs.Parity.{xor, crosses, parity}
use Rattle.plane.specs.Orientation.{upward}
use Rattle.plane.proofs.Products.{ltb_times, leb_times, eqb_times}
use Rattle.plane.proofs.Lists.{length_each}
use Rattle.plane.proofs.Xors.{xors_each, xors_same}
use Rattle.plane.proofs.Chains.{closed_grown}
use Rattle.plane.proofs.Growth.{left_turn_grown, right_turn_grown, same_corner_grown, on_edge_grown, crosses_grown, meet_grown}
use Rattle.plane.proofs.Bends.{next_bend}
use Rattle.ground.specs.Shapes.{neighbours_fine, clear_of, last_edge, all_but_last, path_clear, ring_clear}
use Rattle.ground.proofs.Orientation.{Ring, sense}

module _ (w : ℕ) (above : 1 ≤ w) where
  -- CLEAR RINGS
  neighbours_grown : (e f : Edge) → neighbours_fine (grown_edge w e) (grown_edge w f) ≡ neighbours_fine e f
  neighbours_grown e f =
      ap₂ ◌&&◌ (same_corner_grown w above e.other f.one)
      (ap₂ ◌&&◌ (ap not (on_edge_grown w above e f.other))
      (ap₂ ◌&&◌ (ap not (on_edge_grown w above f e.one)) (ap not (same_corner_grown w above e.one e.other))))

  -- what an edge is clear of
  clear_grown : (e : Edge) (es : List Edge) → clear_of (grown_edge w e) (each (grown_edge w) es) ≡ clear_of e es
  unfolding clear_of each
  clear_grown e [] = refl
  clear_grown e (f ∷ es) = ap₂ ◌&&◌ (ap not (meet_grown w above e f)) (clear_grown e es)

  -- the last edge
  last_grown : (e : Edge) (es : List Edge) → last_edge (grown_edge w e) (each (grown_edge w) es) ≡ grown_edge w (last_edge e es)
  unfolding last_edge each
  last_grown e [] = refl
  last_grown e (f ∷ es) = last_grown f es

  -- the others
  all_but_last_grown : (es : List Edge) → all_but_last (each (grown_edge w) es) ≡ each (grown_edge w) (all_but_last es)
  unfolding all_but_last each
  all_but_last_grown [] = refl
  all_but_last_grown (e ∷ []) = refl
  all_but_last_grown (e ∷ f ∷ es) = ap (◌∷◌ (grown_edge w e)) (all_but_last_grown (f ∷ es))

  -- a clear path
  path_grown : (es : List Edge) → path_clear (each (grown_edge w) es) ≡ path_clear es
  unfolding path_clear each
  path_grown [] = refl
  path_grown (e ∷ []) = refl
  path_grown (e ∷ f ∷ es) = ap₂ ◌&&◌ (neighbours_grown e f) (ap₂ ◌&&◌ (clear_grown e es) (path_grown (f ∷ es)))

  -- a clear ring
  ring_clear_grown : (es : List Edge) → ring_clear (each (grown_edge w) es) ≡ ring_clear es
  unfolding ring_clear each
  ring_clear_grown [] = refl
  ring_clear_grown (e ∷ []) = refl
  ring_clear_grown (e ∷ f ∷ es) =
      ap₂ ◌&&◌ (ap₂ ◌&&◌ (neighbours_grown e f) (ap (clear_of (grown_edge w e)) (all_but_last_grown es) ∙ clear_grown e (all_but_last es)))
      (ap₂ ◌&&◌ (ap (λ t. neighbours_fine t (grown_edge w e)) (last_grown f es) ∙ neighbours_grown (last_edge f es) e) (path_grown (f ∷ es)))

  -- a ring made larger is a ring
  pub ring_grown : (es : List Edge) → Ring es → Ring (each (grown_edge w) es)
  ring_grown es ring =
      record {
        closed = closed_grown w es ring.closed;
        clear = ring_clear_grown es ∙ ring.clear;
        long = subst (λ n. 3 ≤ n) (sym (length_each (grown_edge w) es)) ring.long;
      }

  -- THE SENSE
  pub upward_grown : (e : Edge) → upward (grown_edge w e) ≡ upward e
  upward_grown e =
      ap₂ or (ltb_times w above e.one.y e.other.y) (ap₂ ◌&&◌ (eqb_times w above e.one.y e.other.y)
      (ltb_times w above e.other.x e.one.x))

  -- the bends
  next_bend_grown : (a b c : Corner) → next_bend (grown w a) (grown w b) (grown w c) ≡ next_bend a b c
  next_bend_grown a b c =
      ap₂ or (ap₂ ◌&&◌ (ltb_times w above a.y b.y) (ap₂ ◌&&◌ (leb_times w above c.y b.y) (right_turn_grown w above a b c)))
      (ap₂ ◌&&◌ (leb_times w above b.y a.y) (ap₂ ◌&&◌ (ltb_times w above b.y c.y) (left_turn_grown w above a b c)))

  -- the parity at a corner
  pub parity_grown : (es : List Edge) (c : Corner) → parity (each (grown_edge w) es) (grown w c) ≡ parity es c
  parity_grown es c =
      xors_each (λ e. crosses e (grown w c)) (grown_edge w) es
      ∙ xors_same (λ e. crosses (grown_edge w e) (grown w c)) (λ e. crosses e c) es (λ e. crosses_grown w above e c)

  -- so the sense is the same
  pub sense_grown : (es : List Edge) → sense (each (grown_edge w) es) ≡ sense es
  unfolding sense each
  sense_grown [] = refl
  sense_grown (e ∷ []) = refl
  sense_grown (e ∷ f ∷ es) =
      ap₂ xor (parity_grown (e ∷ f ∷ es) e.other) (ap₂ xor (next_bend_grown e.one e.other f.other) (upward_grown e))
