-- A level line through a ring at height k + 1/2: from the far east to the west, the edges that go up and those that go down take turns.
use Rattle.std.proofs.Common.{◌≡◌, ℕ, suc, ◌+◌, ◌*◌, ◌≤◌, Bool, true, false, not, ◌&&◌, eqb, ltb, List, ◌∷◌, ◌++◌, sym, refl, ap, ◌∙◌, subst, ap₂, ⊎_elim, arith}
use native.Mathlib.Nat.{eq_of_mul-eq-mul_left}
use Rattle.std.proofs.lemmas.Bool.{and_right, ne_eqb, le-ltb}
use Rattle.std.proofs.lemmas.Bool.Decides.{nat_tests}
use Rattle.plane.specs.Lists.{or, each}
use Rattle.plane.specs.Corners.{Corner, corner, grown, same_corner}
use Rattle.plane.specs.Edges.{Edge, grown_edge, on_edge, rises, falls}
use Rattle.plane.specs.Parity.{xor, xors, crosses}
use Rattle.plane.specs.Orientation.{upward}
use Rattle.plane.specs.Multiples.{DividesAll}
use Rattle.plane.proofs.Booleans.{or_comm, not_not, same_from_xor, differ_from_xor}
use Rattle.plane.proofs.Products.{ltb_times, eqb_times}
use Rattle.plane.proofs.Lists.{In, in_each, in_append}
use Rattle.plane.proofs.Xors.{xors_each, xors_same}
use Rattle.plane.proofs.Passages.{spans, wall, rises_at, falls_at, on_at}
use Rattle.plane.proofs.Cells.{wall_held}
use Rattle.plane.proofs.Shoelace.{Near}
use Rattle.ground.proofs.Clearance.{fine, fine_comm, ring_fine, pairwise, pairwise_around, alone}
use Rattle.ground.proofs.Orientation.{Ring, sense, amid_sense}
use Rattle.ground.proofs.Enlarging.{ring_grown, sense_grown, upward_grown}
use Rattle.ground.proofs.Winding.{Wound, Walked, wound}

-- OVER PLAIN NUMBERS: an edge goes up past the height and is at x, or down past it and is at x₁
stays_put : (s s₁ : Bool) (x x₁ t : ℕ) → or (s && eqb (suc t) x) (s₁ && eqb (suc t) x₁) ≡ false → (s && ltb t x) ≡ (s && ltb (suc t) x)
stays_put s s₁ x x₁ t h = grind (arith, nat_tests)

-- an edge that is passed was not further east, and is so now: as one that goes up, or as one that goes down
comes_past : (s s₁ up : Bool) (x x₁ t : ℕ) → (s ≡ true → up ≡ true) → (s₁ ≡ true → up ≡ false) → or (s && eqb (suc t) x) (s₁ && eqb (suc t) x₁) ≡ true →
    (((s && ltb (suc t) x) ≡ false) × ((s₁ && ltb (suc t) x₁) ≡ false)) × (((s && ltb t x) ≡ up) × ((s₁ && ltb t x₁) ≡ not up))
comes_past s s₁ up x x₁ t hs hs₁ h = ((grind (arith, nat_tests), grind (arith, nat_tests)), (grind (arith, nat_tests), grind (arith, nat_tests)))

-- an edge that passes the height from below goes up
goes_up : (e : Edge) (k : ℕ) → spans e.one.y e.other.y k ≡ true → upward e ≡ true
goes_up e k h = grind (arith, nat_tests)

-- from above, down
goes_down : (e : Edge) (k : ℕ) → spans e.other.y e.one.y k ≡ true → upward e ≡ false
goes_down e k h = grind (arith, nat_tests)

-- halves of d-th parts
halves : (d x : ℕ) → 2 * d * x ≡ d * (2 * x)
halves d x = omega arith

-- an odd number of halves is no corner's height
between_heights : (d k y : ℕ) → 1 ≤ d → d * (2 * k + 1) ≡ 2 * d * y → ⊥
between_heights d k y fine e = omega (arith, eq_of_mul-eq-mul_left d fine (2 * k + 1) (2 * y) (e ∙ halves d y))

-- in halves of d-th parts
before : (d : ℕ) → 1 ≤ d → (t x : ℕ) → ltb (d * t) (2 * d * x) ≡ ltb t (2 * x)
before d fine t x = ap (ltb (d * t)) (halves d x) ∙ ltb_times d fine t (2 * x)

-- at a place
there : (d : ℕ) → 1 ≤ d → (t x : ℕ) → eqb (d * t) (2 * d * x) ≡ eqb t (2 * x)
there d fine t x = ap (eqb (d * t)) (halves d x) ∙ eqb_times d fine t (2 * x)

-- places along the line, all made 2 * d times as large
abbrev pub place : ℕ → ℕ → ℕ → Corner
place d k t = corner t (d * (2 * k + 1))

module _ (d n k : ℕ) (fine_enough : 1 ≤ d) (divides : DividesAll d n) where
  module _ (e : Edge) (near : Near n e) (t : ℕ) where
    -- which edges are further east and go up
    up_at : rises (grown_edge (2 * d) e) (place d k t) ≡ (spans e.one.y e.other.y k && ltb t (2 * wall d e.one e.other k))
    up_at =
        rises_at d n (2 * d) k (place d k t) fine_enough divides (omega arith) (omega arith) e.one e.other near.1.1
        ∙ ap (◌&&◌ (spans e.one.y e.other.y k)) (before d fine_enough t (wall d e.one e.other k))

    -- which go down
    down_at : falls (grown_edge (2 * d) e) (place d k t) ≡ (spans e.other.y e.one.y k && ltb t (2 * wall d e.other e.one k))
    down_at =
        falls_at d n (2 * d) k (place d k t) fine_enough divides (omega arith) (omega arith) e near.0.1 near.1.1
        ∙ ap (◌&&◌ (spans e.other.y e.one.y k)) (before d fine_enough t (wall d e.other e.one k))

    -- and which are there
    there_at : on_edge (grown_edge (2 * d) e) (place d k t)
        ≡ or (spans e.one.y e.other.y k && eqb t (2 * wall d e.one e.other k))
        (spans e.other.y e.one.y k && eqb t (2 * wall d e.other e.one k))
    there_at =
        on_at d n (2 * d) k (place d k t) fine_enough divides (omega arith) (omega arith) e near.0.1 near.1.1
        ∙ ap₂ or (ap (◌&&◌ (spans e.one.y e.other.y k)) (there d fine_enough t (wall d e.one e.other k)))
        (ap (◌&&◌ (spans e.other.y e.one.y k)) (there d fine_enough t (wall d e.other e.one k)))

  -- A RING ALONG THE LINE
  module _ (es : List Edge) (ring : Ring es) (all_Near : (e : Edge) → In e es → Near n e) where
    -- e goes up past the height, further east than t; goes down; is at t
    up : ℕ → Edge → Bool
    up t e = rises (grown_edge (2 * d) e) (place d k t)

    down : ℕ → Edge → Bool
    down t e = falls (grown_edge (2 * d) e) (place d k t)

    at : ℕ → Edge → Bool
    at t e = on_edge (grown_edge (2 * d) e) (place d k t)

    -- beyond the far end there is nothing
    nothing_beyond : (t : ℕ) → 2 * (d * n) ≤ t → (e : Edge) → In e es → (up t e ≡ false) × (down t e ≡ false)
    unfolding up down
    nothing_beyond t far e m = (
      up_at e near t ∙ none (spans e.one.y e.other.y k) (wall d e.one e.other k)
          (wall_held d n fine_enough divides e.one e.other near.1.1 k near.0.0 near.1.0),
      down_at e near t ∙ none (spans e.other.y e.one.y k) (wall d e.other e.one k)
          (wall_held d n fine_enough divides e.other e.one near.0.1 k near.1.0 near.0.0),
    )
      where
        near : Near n e
        near = all_Near e m

        none : (s : Bool) (x : ℕ) → (s ≡ true → x ≤ d * n) → (s && ltb t (2 * x)) ≡ false
        none true x h = le-ltb t (2 * x) (omega (arith, h refl))
        none false x h = refl

    -- an edge that is not at a place is on the same side of its two neighbours
    unpassed : (t : ℕ) (e : Edge) → In e es → at (suc t) e ≡ false → (up t e ≡ up (suc t) e) × (down t e ≡ down (suc t) e)
    unfolding up down at
    unpassed t e m h =
        let near = all_Near e m in
        let off = sym (there_at e near (suc t)) ∙ h in
        let s = spans e.one.y e.other.y k in
        let s₁ = spans e.other.y e.one.y k in
        let x = 2 * wall d e.one e.other k in
        let x₁ = 2 * wall d e.other e.one k in (
          up_at e near t ∙ stays_put s s₁ x x₁ t off ∙ sym (up_at e near (suc t)),
          down_at e near t ∙ stays_put s₁ s x₁ x t (or_comm (s₁ && eqb (suc t) x₁) (s && eqb (suc t) x) ∙ off) ∙ sym (down_at e near (suc t)),
        )

    -- an edge that is there is passed
    passed_by : (t : ℕ) (e : Edge) → In e es → at (suc t) e ≡ true →
        ((up (suc t) e ≡ false) × (down (suc t) e ≡ false)) × ((up t e ≡ upward e) × (down t e ≡ not (upward e)))
    unfolding up down at
    passed_by t e m h =
        let near = all_Near e m in
        let c = comes_past (spans e.one.y e.other.y k) (spans e.other.y e.one.y k) (upward e) (2 * wall d e.one e.other k)
        (2 * wall d e.other e.one k) t
        (goes_up e k) (goes_down e k) (sym (there_at e near (suc t)) ∙ h) in
        ((up_at e near (suc t) ∙ c.0.0, down_at e near (suc t) ∙ c.0.1), (up_at e near t ∙ c.1.0, down_at e near t ∙ c.1.1))

    -- no two edges of a ring are at one place between the heights of corners
    one_at_once : (t : ℕ) (e : Edge) (before after : List Edge) → es ≡ before ++ e ∷ after → at (suc t) e ≡ true → (f : Edge) → In f (after ++ before) →
        at (suc t) f ≡ false
    unfolding at
    one_at_once t e before after split here f m =
        alone (2 * d) (omega arith) (place d k (suc t)) e here (λ _. between_heights d k e.one.y fine_enough) (λ _. between_heights d k e.other.y fine_enough) f
        (⊎_elim (λ a. around.1 f a) (λ b. around.0 f b) (in_append f after before m))
      where
        around : ((f₁ : Edge) → In f₁ before → fine e f₁ ≡ true) × ((f₁ : Edge) → In f₁ after → fine e f₁ ≡ true)
        around = pairwise_around fine fine_comm before e after (subst (λ fs. pairwise fine fs ≡ true) split (ring_fine es ring.clear))

    -- where an edge is passed, the parity is that amid it
    seen_there : (t : ℕ) (e : Edge) → In e es → at (suc t) e ≡ true → xor (xors (λ f. or (up (suc t) f) (down (suc t) f)) es) (upward e) ≡ sense es
    unfolding up down at
    seen_there t e m here =
        ap₂ xor (sym (xors_each (λ f. crosses f (place d k (suc t))) (grown_edge (2 * d)) es)) (sym (upward_grown (2 * d) (omega arith) e))
        ∙ amid_sense (each (grown_edge (2 * d)) es) (grown_edge (2 * d) e) (place d k (suc t)) (ring_grown (2 * d) (omega arith) es ring)
        (in_each (grown_edge (2 * d)) e es m) here
        (off_corner e.one) (off_corner e.other)
        ∙ sense_grown (2 * d) (omega arith) es
      where
        off_corner : (c : Corner) → same_corner (place d k (suc t)) (grown (2 * d) c) ≡ false
        off_corner c =
            and_right (eqb (suc t) (2 * d * c.x)) (eqb (d * (2 * k + 1)) (2 * d * c.y))
            (ne_eqb (d * (2 * k + 1)) (2 * d * c.y) (between_heights d k c.y fine_enough))

    -- the walk through a ring of the one sense
    walk_left : sense es ≡ true → Walked es up down at upward (2 * (d * n))
    walk_left s = record {
      beyond = nothing_beyond;
      stays = unpassed;
      comes = passed_by;
      alone = one_at_once;
      sensed = λ t e m h. differ_from_xor (xors (λ f. or (up (suc t) f) (down (suc t) f)) es) (upward e) (seen_there t e m h ∙ s);
    }

    -- with the other sense the two kinds change places
    walk_right : sense es ≡ false → Walked es down up at (λ e. not (upward e)) (2 * (d * n))
    walk_right s = record {
      beyond = λ t far e m. let w = nothing_beyond t far e m in (w.1, w.0);
      stays = λ t e m h. let w = unpassed t e m h in (w.1, w.0);
      comes = λ t e m h. let w = passed_by t e m h in ((w.0.1, w.0.0), (w.1.1, w.1.0 ∙ sym (not_not (upward e))));
      alone = one_at_once;
      sensed = λ t e m h.
          xors_same (λ f. or (down (suc t) f) (up (suc t) f)) (λ f. or (up (suc t) f) (down (suc t) f)) es (λ f. or_comm (down (suc t) f) (up (suc t) f))
          ∙ same_from_xor (xors (λ f. or (up (suc t) f) (down (suc t) f)) es) (upward e) (seen_there t e m h ∙ s) ∙ sym (not_not (upward e));
    }

    -- from every place: one more edge that goes up than edges that go down is further east if an odd number of edges is, else as many; or so the other way round
    pub wound_left : sense es ≡ true → (t : ℕ) → Wound (λ e. rises (grown_edge (2 * d) e) (place d k t)) (λ e. falls (grown_edge (2 * d) e) (place d k t)) es
    unfolding up down
    wound_left s t = wound es up down at upward (2 * (d * n)) (walk_left s) t

    pub wound_right : sense es ≡ false → (t : ℕ) → Wound (λ e. falls (grown_edge (2 * d) e) (place d k t))
        (λ e. rises (grown_edge (2 * d) e) (place d k t)) es
    unfolding up down
    wound_right s t = wound es down up at (λ e. not (upward e)) (2 * (d * n)) (walk_right s) t
