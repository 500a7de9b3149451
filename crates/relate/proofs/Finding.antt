-- The way as it is found is the way by the samples: amid an edge of a ground the edge's direction tells the ground's parity, and of the ground's own corners only
-- the edge's beginning starts on it.
use Rattle.std.proofs.Common.{◌≡◌, Bool, true, false, not, ◌&&◌, eqb, ◌⊎◌, List, ◌∷◌, ◌++◌, sym, ap, ◌∙◌, subst, ap₂, inl, inr, ⊎_elim, arith}
use Rattle.std.proofs.lemmas.Bool.{cases_Bool, and_parts, and_from, and_left, and_right, not-true, not_from_false, eq-eqb, ne_eqb}
use Rattle.plane.specs.Lists.{or, any}
use Rattle.plane.specs.Corners.{Corner, grown, same_corner}
use Rattle.plane.specs.Edges.{Edge, grown_edge, on_edge}
use Rattle.plane.specs.Orientation.{upward, amid}
use Rattle.plane.specs.Parity.{xor}
use Rattle.plane.proofs.Booleans.{true_from, not_both, same_from_both, and_comm, or_comm}
use Rattle.plane.proofs.Lists.{In, in_append, any_in, any_same, any_append, any_at, any_one}
use Rattle.plane.proofs.Growth.{on_edge_grown}
use Rattle.plane.proofs.Crossings.{one_on}
use Rattle.plane.proofs.Alongside.{Amidst}
use Rattle.ground.specs.Shapes.{Shape, edges, as_corner, a_shape}
use Rattle.ground.specs.Ways.{Lies}
use Rattle.ground.proofs.Rings.{edge_ends, corner_begins, shape_parts}
use Rattle.ground.proofs.Clearance.{fine, fine_comm, ring_fine, pairwise, pairwise_around, split_in, alone, one_corner}
use Rattle.ground.proofs.LeftHand.{amid_parity}
use Rattle.relate.specs.Samples.{raw, starts, sample, shows, seen, way_of}
use Rattle.relate.specs.Finding.{found_at, found_along, found, way_found}
use Rattle.relate.specs.Statements.{WayTells, WayFoundTells}
use Rattle.relate.proofs.Pairs.{raw_parity}
use Rattle.relate.proofs.Starts.{sample_amid}
use Rattle.relate.proofs.Telling.{way_tells}

-- where an edge starts: the corner is on it, and at another height than its end
starts_parts : (e : Edge) (u : Corner) → starts e u ≡ true → (on_edge e u ≡ true) × (u.y ≡ e.other.y → ⊥)
starts_parts e u h =
    let z = and_parts (on_edge e u) (not (eqb u.y e.other.y)) h in
    (z.0, λ same. not_both (eqb u.y e.other.y) (eq-eqb u.y e.other.y same) (not-true _ z.1))

-- what is amid an edge at the height of neither end is none of its ends
amidst_amid : (e : Edge) (m : Corner) → Amidst e m → amid e m ≡ true
amidst_amid e m mid =
    and_from (on_edge e m) _ mid.on
    (and_from (not (same_corner e.one m)) (not (same_corner e.other m)) (not_from_false _ (and_right _ _ (ne_eqb e.one.y m.y mid.off_one)))
    (not_from_false _ (and_right _ _ (ne_eqb e.other.y m.y mid.off_other))))

-- two edges of a ground are one, or may stand in one ground
two_fine : (s : Shape) → a_shape s ≡ true → (e f : Edge) → In e (edges s) → In f (edges s) → (f ≡ e) ⊎ (fine e f ≡ true)
two_fine s shaped e f i j =
    ⊎_elim (λ k. inr (around.0 f k)) (λ k. ⊎_elim (λ d. inl d) (λ l. inr (around.1 f l)) k)
    (in_append f cut.0 (e ∷ cut.1) (subst (In f) cut.2 j))
  where
    cut : (before : List Edge) × (after : List Edge) × (edges s ≡ before ++ e ∷ after)
    cut = split_in e (edges s) i

    around : ((g : Edge) → In g cut.0 → fine e g ≡ true) × ((g : Edge) → In g cut.1 → fine e g ≡ true)
    around = pairwise_around fine fine_comm cut.0 e cut.1 (subst (λ fs. pairwise fine fs ≡ true) cut.2 (ring_fine (edges s) (shape_parts s shaped).clear))

-- of such an edge only the ends may be on the other: where it begins, the other begins or ends
begins_at_end : (e f : Edge) → fine e f ≡ true → on_edge e f.one ≡ true → (f.one.y ≡ e.other.y → ⊥) → f.one ≡ e.one
begins_at_end e f h on short =
    one_corner f.one e.one
    (true_from (same_corner f.one e.one)
    (λ off. not_both (on_edge (grown_edge 1 f) (grown 1 f.one)) (on_edge_grown 1 (omega arith) f f.one ∙ one_on f)
    (alone 1 (omega arith) (grown 1 f.one) e (on_edge_grown 1 (omega arith) e f.one ∙ on)
    (λ x y.
    not_both (same_corner f.one e.one) (and_from _ _ (eq-eqb f.one.x e.one.x (omega arith)) (eq-eqb f.one.y e.one.y (omega arith))) off)
    (λ x y. short (omega arith)) f h)))

module _ (s : Shape) (shaped : a_shape s ≡ true) (e : Edge) (i : In e (edges s)) (u : Corner) (begun : starts e u ≡ true) where
  -- THE EDGE'S OWN GROUND: at a sample its parity is told by the edge's direction
  own_odd : raw s (sample e u) ≡ not (upward e)
  own_odd =
      let z = starts_parts e u begun in
      raw_parity s (sample e u)
      ∙ amid_parity s (shape_parts s shaped) (sample e u) (omega arith) e i (amidst_amid (grown_edge 1048576 e) (as_corner (sample e u)) (sample_amid e u z.0 z.1))

  -- of the ground's own corners only the edge's beginning starts on it
  own_start : In u s → u ≡ e.one
  own_start k = told (corner_begins s u k)
    where
      told : (f : Edge) × In f (edges s) × (f.one ≡ u) → u ≡ e.one
      told (f, j, d) =
          let z = starts_parts e u begun in
          sym d
          ∙ ⊎_elim (ap (λ g. g.one)) (λ h. begins_at_end e f h (ap (on_edge e) d ∙ z.0) (λ same. z.1 (ap (λ c. c.y) (sym d) ∙ same)))
          (two_fine s shaped e f i j)

-- ALONG AN EDGE of the first ground, what is shown is what is found
module _ (s t : Shape) (shaped : a_shape s ≡ true) (i j : Bool) (e : Edge) (k : In e (edges s)) where
  -- at each sample
  found_shown : (u : Corner) → found_at t i j e u ≡ shows s t i j e u
  found_shown u =
      ⊎_elim (λ h. ap (λ odd. starts e u && (not (xor i odd) && not (xor j (raw t (sample e u))))) (sym (own_odd s shaped e k u h)))
      (λ h. and_left (starts e u) _ h ∙ sym (and_left (starts e u) _ h)) (cases_Bool (starts e u))

  -- after the ground's own corners it is found only after the edge's beginning
  own_found : found_at t i j e e.one ≡ any (found_at t i j e) s
  own_found = same_from_both (found_at t i j e e.one) (any (found_at t i j e) s) (any_at (found_at t i j e) e.one s (edge_ends s e k).0) first
    where
      first : any (found_at t i j e) s ≡ true → found_at t i j e e.one ≡ true
      first h =
          let w = any_one (found_at t i j e) s h in
          ap (found_at t i j e) (sym (own_start s shaped e k w.0 (and_parts (starts e w.0) _ w.2).0 w.1)) ∙ w.2

  found_shown_any : any (found_at t i j e) (e.one ∷ t) ≡ any (shows s t i j e) (s ++ t)
  unfolding any
  found_shown_any =
      ap (λ z. or z (any (found_at t i j e) t)) own_found ∙ sym (any_append (found_at t i j e) s t)
      ∙ any_same (found_at t i j e) (shows s t i j e) (s ++ t) found_shown

-- seen from the other side, with the corners in the other order
shows_turned : (s t : Shape) (i j : Bool) (e : Edge) → any (shows t s j i e) (t ++ s) ≡ any (shows s t i j e) (s ++ t)
shows_turned s t i j e =
    any_same (shows t s j i e) (shows s t i j e) (t ++ s) (λ u. ap (◌&&◌ (starts e u)) (and_comm (not (xor j (raw t (sample e u)))) (not (xor i (raw s (sample e u))))))
    ∙ any_append (shows s t i j e) t s ∙ or_comm (any (shows s t i j e) t) (any (shows s t i j e) s) ∙ sym (any_append (shows s t i j e) s t)

-- WHAT IS FOUND IS WHAT IS SEEN
pub found_seen : (s t : Shape) → a_shape s ≡ true → a_shape t ≡ true → (i j : Bool) → found s t i j ≡ seen s t i j
unfolding found found_along seen
found_seen s t shaped_s shaped_t i j =
    ap₂ or
    (any_in (λ e. any (found_at t i j e) (e.one ∷ t)) sampled (edges s) (λ e k. found_shown_any s t shaped_s i j e k))
    (any_in (λ e. any (found_at s j i e) (e.one ∷ s)) sampled (edges t) (λ e k. found_shown_any t s shaped_t j i e k ∙ shows_turned s t i j e))
    ∙ sym (any_append sampled (edges s) (edges t))
  where
    sampled : Edge → Bool
    sampled e = any (shows s t i j e) (s ++ t)

-- so the ways are the same
pub way_found_of : (s t : Shape) → a_shape s ≡ true → a_shape t ≡ true → way_found s t ≡ way_of s t
unfolding way_found way_of
way_found_of s t shaped_s shaped_t =
    let a = found_seen s t shaped_s shaped_t true true in
    let b = found_seen s t shaped_s shaped_t true false in
    let c = found_seen s t shaped_s shaped_t false true in
    cc

-- and it is the way that all points tell
pub way_found_lies : WayFoundTells
unfolding WayFoundTells WayTells
way_found_lies s t shaped_s shaped_t = subst (Lies s t) (sym (way_found_of s t shaped_s shaped_t)) (way_tells s t shaped_s shaped_t)
