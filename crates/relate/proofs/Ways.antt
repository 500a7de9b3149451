-- Two grounds lie to each other in one way only; and what that says of within and of touching.
use Rattle.std.proofs.Common.{◌≡◌, ℕ, Bool, true, false, ◌&&◌, ◌⊎◌, sym, refl, ap, ◌∙◌, subst, ap₂, inl, inr, ⊎_elim, arith}
use Rattle.std.proofs.lemmas.Bool.{and_from}
use Rattle.plane.specs.Lists.{pick}
use Rattle.plane.proofs.Booleans.{and_comm, not_both, or_cases}
use Rattle.ground.specs.Shapes.{Point, a_point, Shape, on_border, inside, in_shape, a_shape}
use Rattle.ground.specs.Ways.{Within, SticksOut, Shares, Apart, Overlaps, OnlyBorders, Lies}
use Rattle.ground.specs.Statements.{OneWay, TurnedRound, SomeInside, turned}
use Rattle.ground.proofs.Insides.{some_inside}
use Rattle.relate.specs.Samples.{way_of}
use Rattle.relate.specs.Statements.{WayTells, ProperlyWithin, TouchInBorders}
use Rattle.relate.proofs.Pairs.{inside_parts, inside_from, in_from_inside, Beside, border_there}
use Rattle.relate.proofs.Telling.{way_tells}

-- FROM THE OTHER SIDE
apart_turned : (s t : Shape) → Apart s t → Apart t s
unfolding Apart
apart_turned s t h p pointed = and_comm (in_shape t p) (in_shape s p) ∙ h p pointed

-- a common point is common from both sides
shares_turned : (s t : Shape) → Shares s t → Shares t s
unfolding Shares
shares_turned s t (p, pointed, first, second) = (p, pointed, second, first)

-- and so is a point inside both
pub overlaps_turned : (s t : Shape) → Overlaps s t → Overlaps t s
unfolding Overlaps
overlaps_turned s t (p, pointed, first, second) = (p, pointed, second, first)

-- or the lack of one
only_borders_turned : (s t : Shape) → OnlyBorders s t → OnlyBorders t s
unfolding OnlyBorders
only_borders_turned s t h p pointed = and_comm (inside t p) (inside s p) ∙ h p pointed

-- the way turned round
pub turned_round : TurnedRound
unfolding TurnedRound Lies
turned_round s t k (inl (e, a)) = inl (ap turned e, apart_turned s t a)
turned_round s t k (inr (inl (e, a, b))) = inr (inl (ap turned e, shares_turned s t a, only_borders_turned s t b))
turned_round s t k (inr (inr (inl (e, a, b)))) = inr (inr (inr (inl (ap turned e, a, b))))
turned_round s t k (inr (inr (inr (inl (e, a, b))))) = inr (inr (inl (ap turned e, a, b)))
turned_round s t k (inr (inr (inr (inr (inl (e, a, b)))))) = inr (inr (inr (inr (inl (ap turned e, b, a)))))
turned_round s t k (inr (inr (inr (inr (inr (e, a, b, c)))))) = inr (inr (inr (inr (inr (ap turned e, overlaps_turned s t a, c, b)))))

-- WHAT EXCLUDES WHAT
-- what is within does not stick out
pub within_not_out : (s t : Shape) → Within s t → SticksOut s t → ⊥
unfolding Within SticksOut
within_not_out s t h (p, pointed, here, out) = not_both (in_shape t p) (h p pointed here) out

-- what is inside both is in both
pub overlaps_shares : (s t : Shape) → Overlaps s t → Shares s t
unfolding Overlaps Shares
overlaps_shares s t (p, pointed, first, second) = (p, pointed, in_from_inside s p first, in_from_inside t p second)

-- what is apart has no common point
apart_not_shares : (s t : Shape) → Apart s t → Shares s t → ⊥
unfolding Apart Shares
apart_not_shares s t h (p, pointed, first, second) = not_both (in_shape s p && in_shape t p) (and_from _ _ first second) (h p pointed)

-- what has only borders in common has no point inside both
borders_not_overlaps : (s t : Shape) → OnlyBorders s t → Overlaps s t → ⊥
unfolding OnlyBorders Overlaps
borders_not_overlaps s t h (p, pointed, first, second) = not_both (inside s p && inside t p) (and_from _ _ first second) (h p pointed)

-- a point inside the one that is on the border of the other: some point is inside both
pub inside_border_overlaps : (s t : Shape) → a_shape s ≡ true → a_shape t ≡ true → (p : Point) → a_point p ≡ true → inside s p ≡ true →
    on_border t p ≡ true → Overlaps s t
unfolding Overlaps
inside_border_overlaps s t shaped_s shaped_t p pointed within on =
    let w = inside_parts s p within in
    told (subst (Beside t s) w.0 (border_there t s shaped_t shaped_s p pointed on w.1))
  where
    told : Beside t s true → (q : Point) × (a_point q ≡ true) × (inside s q ≡ true) × (inside t q ≡ true)
    told (q, pointed₁, within₁, odd, off) = (q, pointed₁, inside_from s q odd off, within₁)

-- what is inside one and in the other
pub inside_in_overlaps : (s t : Shape) → a_shape s ≡ true → a_shape t ≡ true → (p : Point) → a_point p ≡ true → inside s p ≡ true →
    in_shape t p ≡ true → Overlaps s t
unfolding Overlaps
inside_in_overlaps s t shaped_s shaped_t p pointed within here =
    ⊎_elim (λ h. (p, pointed, within, h)) (λ h. inside_border_overlaps s t shaped_s shaped_t p pointed within h) (or_cases (inside t p) (on_border t p) here)

-- a ground within another overlaps it
pub within_overlaps : (s t : Shape) → a_shape s ≡ true → a_shape t ≡ true → Within s t → Overlaps s t
unfolding Within SomeInside
within_overlaps s t shaped_s shaped_t h =
    let w = some_inside s shaped_s in
    inside_in_overlaps s t shaped_s shaped_t w.0 w.1 w.2 (h w.0 w.1 (in_from_inside s w.0 w.2))

-- ONE WAY
-- within or sticking out
abbrev Side : Shape → Shape → Bool → Type 0
Side s t true = Within s t
Side s t false = SticksOut s t

-- not both at once
one_side : (s t : Shape) (a b : Bool) → Side s t a → Side s t b → a ≡ b
one_side s t true true h k = refl
one_side s t true false h k = absurd (within_not_out s t h k)
one_side s t false true h k = absurd (within_not_out s t k h)
one_side s t false false h k = refl

-- the way, by what is within: apart, touching, or over with one of four
abbrev Told : Shape → Shape → ℕ → Type 0
Told s t k =
    ((k ≡ 0) × Apart s t)
    ⊎ (((k ≡ 1) × Shares s t × OnlyBorders s t)
    ⊎ ((a : Bool) × (b : Bool) × (k ≡ pick a (pick b 4 2) (pick b 3 5)) × Overlaps s t × Side s t a × Side t s b))

-- each way is one of these
sorted : (s t : Shape) → a_shape s ≡ true → a_shape t ≡ true → (k : ℕ) → Lies s t k → Told s t k
unfolding Lies
sorted s t shaped_s shaped_t k (inl h) = inl h
sorted s t shaped_s shaped_t k (inr (inl h)) = inr (inl h)
sorted s t shaped_s shaped_t k (inr (inr (inl (e, a, b)))) = inr (inr (true, false, e, within_overlaps s t shaped_s shaped_t a, a, b))
sorted s t shaped_s shaped_t k (inr (inr (inr (inl (e, a, b))))) =
    inr (inr (false, true, e, overlaps_turned t s (within_overlaps t s shaped_t shaped_s a), b, a))
sorted s t shaped_s shaped_t k (inr (inr (inr (inr (inl (e, a, b)))))) = inr (inr (true, true, e, within_overlaps s t shaped_s shaped_t a, a, b))
sorted s t shaped_s shaped_t k (inr (inr (inr (inr (inr (e, o, a, b)))))) = inr (inr (false, false, e, o, a, b))

-- and no two of them hold at once
sorted_once : (s t : Shape) (j k : ℕ) → Told s t j → Told s t k → j ≡ k
sorted_once s t j k (inl h) (inl l) = h.0 ∙ sym l.0
sorted_once s t j k (inl h) (inr (inl l)) = absurd (apart_not_shares s t h.1 l.1)
sorted_once s t j k (inl h) (inr (inr (a, b, e, o, x, y))) = absurd (apart_not_shares s t h.1 (overlaps_shares s t o))
sorted_once s t j k (inr (inl h)) (inl l) = absurd (apart_not_shares s t l.1 h.1)
sorted_once s t j k (inr (inl h)) (inr (inl l)) = h.0 ∙ sym l.0
sorted_once s t j k (inr (inl h)) (inr (inr (a, b, e, o, x, y))) = absurd (borders_not_overlaps s t h.2 o)
sorted_once s t j k (inr (inr (a, b, e, o, x, y))) (inl l) = absurd (apart_not_shares s t l.1 (overlaps_shares s t o))
sorted_once s t j k (inr (inr (a, b, e, o, x, y))) (inr (inl l)) = absurd (borders_not_overlaps s t l.2 o)
sorted_once s t j k (inr (inr (a, b, e, o, x, y))) (inr (inr (a₁, b₁, e₁, o₁, x₁, y₁))) =
    e ∙ ap₂ (λ u v. pick u (pick v 4 2) (pick v 3 5)) (one_side s t a a₁ x x₁) (one_side t s b b₁ y y₁) ∙ sym e₁

-- two ways in which two grounds lie are one
pub lies_once : (s t : Shape) → a_shape s ≡ true → a_shape t ≡ true → (j k : ℕ) → Lies s t j → Lies s t k → j ≡ k
lies_once s t shaped_s shaped_t j k h l = sorted_once s t j k (sorted s t shaped_s shaped_t j h) (sorted s t shaped_s shaped_t k l)

-- the way that the samples tell is the one
pub one_way : OneWay
unfolding OneWay WayTells
one_way s t shaped_s shaped_t =
    (way_of s t, way_tells s t shaped_s shaped_t, λ j h. lies_once s t shaped_s shaped_t j (way_of s t) h (way_tells s t shaped_s shaped_t))

-- PROPERLY WITHIN
pub properly_within : ProperlyWithin
unfolding ProperlyWithin WayTells Lies
properly_within s t shaped_s shaped_t within other = by (sorted s t shaped_s shaped_t (way_of s t) (way_tells s t shaped_s shaped_t))
  where
    o : Overlaps s t
    o = within_overlaps s t shaped_s shaped_t within

    by : Told s t (way_of s t) → SticksOut t s × Lies s t 2
    by (inl h) = absurd (apart_not_shares s t h.1 (overlaps_shares s t o))
    by (inr (inl h)) = absurd (borders_not_overlaps s t h.2 o)
    by (inr (inr (a, true, e, o₁, x, y))) = absurd (other y)
    by (inr (inr (a, false, e, o₁, x, y))) = (y, inr (inr (inl (refl, within, y))))

-- TOUCHING: a common point is on both borders
pub touch_in_borders : TouchInBorders
unfolding TouchInBorders
touch_in_borders s t shaped_s shaped_t touching p pointed in_s in_t = (
  ⊎_elim (λ h. absurd (none (inside_in_overlaps s t shaped_s shaped_t p pointed h in_t))) (λ h. h) (or_cases (inside s p) (on_border s p) in_s),
  ⊎_elim (λ h. absurd (none (overlaps_turned t s (inside_in_overlaps t s shaped_t shaped_s p pointed h in_s)))) (λ h. h) (or_cases (inside t p) (on_border t p) in_t),
)
  where
    none : Overlaps s t → ⊥
    none o = by (sorted s t shaped_s shaped_t 1 touching)
      where
        by : Told s t 1 → ⊥
        by (inl h) = let e = h.0 in omega arith
        by (inr (inl h)) = borders_not_overlaps s t h.2 o
        by (inr (inr (true, true, e, o₁, x, y))) = omega arith
        by (inr (inr (true, false, e, o₁, x, y))) = omega arith
        by (inr (inr (false, true, e, o₁, x, y))) = omega arith
        by (inr (inr (false, false, e, o₁, x, y))) = omega arith
