-- The parities of a ring at the samples of an edge: after its first corner, and after each corner of the ring that lies on it.
use Rattle.std.proofs.Common.{◌≡◌, ℕ, Bool, true, false, not, ◌&&◌, eqb, ltb, leb, [], ◌∷◌, sym, refl, ap, ◌∙◌, ⊎_elim, arith}
use Rattle.std.proofs.lemmas.Bool.Decides.{nat_tests}
use Rattle.std.proofs.lemmas.Bool.{and_from, and_left, and_right, cases_Bool, not_from_false}
use Rattle.plane.specs.Lists.{or, any}
use Rattle.plane.specs.Corners.{Corner, same_corner, between}
use Rattle.plane.specs.Edges.{Edge, on_edge}
use Rattle.plane.specs.Parity.{xor, xors}
use Rattle.plane.proofs.Booleans.{or_assoc, or_false_right, not_not}
use Rattle.plane.proofs.Lists.{any_false_from, any_same}
use Rattle.plane.proofs.Crossings.{one_on}
use Rattle.plane.proofs.Sides.{on_edge_parts}
use Rattle.ground.specs.Shapes.{Shape, edges}
use Rattle.ground.proofs.Clearance.{one_corner}
use Rattle.relate.specs.Samples.{raw, starts, sample}
use Rattle.relate.specs.Finding.{misses}
use Rattle.relate.specs.Fitting.{bounds_of}
use Rattle.relate.specs.Siding.{has_parity, parities_of, later_parity, parities_later, both_parities, goes_on_at}
use Rattle.relate.specs.declared.parities.Parities.{Parities}
use Rattle.relate.proofs.Outside.{missed_raw}

-- WHERE AN EDGE GOES ON: at each height but that of its end, on its way
pub starts_off : (e : Edge) (u : Corner) → goes_on_at e u.y ≡ false → false ≡ starts e u
starts_off e u h =
    sym
    (⊎_elim (λ on. and_right (on_edge e u) _ (at_end e.one.y e.other.y u.y h (on_edge_parts e u on).2)) (λ off. and_left (on_edge e u) _ off)
    (cases_Bool (on_edge e u)))
  where
    at_end : (a b y : ℕ) → or (leb a y && ltb y b) (ltb b y && leb y a) ≡ false → between a b y ≡ true → not (eqb y b) ≡ false
    at_end a b y k l = grind (arith, nat_tests)

-- a level edge goes on nowhere
pub level_starts : (e : Edge) → e.one.y ≡ e.other.y → (u : Corner) → starts e u ≡ false
level_starts e h u = sym (starts_off e u (nowhere e.one.y e.other.y u.y h))
  where
    nowhere : (a b y : ℕ) → a ≡ b → or (leb a y && ltb y b) (ltb b y && leb y a) ≡ false
    nowhere a b y k = grind (arith, nat_tests)

-- ONE SAMPLE
abbrev pub one_parity : Bool → Parities
one_parity b = record { odd = b; even = not b }

abbrev pub no_parity : Parities
no_parity = record { odd = false; even = false }

same_parities : (p q : Parities) → p.odd ≡ q.odd → p.even ≡ q.even → p ≡ q
same_parities p q o v = ap (λ b. record { odd = b; even = p.even }) o ∙ ap (λ b. record { odd = q.odd; even = b }) v

module _ (t : Shape) (e : Edge) (u : Corner) where
  -- where the edge goes on there is one parity
  shown : (j b : Bool) → b ≡ raw t (sample e u) → starts e u ≡ true → not (xor j b) ≡ has_parity t j e u
  shown j b is h = ap (λ v. not (xor j v)) is ∙ sym (ap (λ v. v && not (xor j (raw t (sample e u)))) h)

  pub later_off : starts e u ≡ false → no_parity ≡ parities_later t e u
  later_off h = same_parities no_parity (parities_later t e u) (none true) (none false)
    where
      none : (j : Bool) → false ≡ later_parity t j e u
      none j = sym (and_right (not (same_corner e.one u)) _ (and_left (starts e u) _ h))

-- SEVERAL SAMPLES: after each of some corners that are not the edge's first
abbrev pub parities_in : Shape → Edge → Shape → Parities
parities_in t e us = record { odd = any (later_parity t true e) us; even = any (later_parity t false e) us }

parities_assoc : (p q r : Parities) → both_parities (both_parities p q) r ≡ both_parities p (both_parities q r)
parities_assoc p q r = let o = or_assoc p.odd q.odd r.odd in let e = or_assoc p.even q.even r.even in cc

-- a corner that has been looked at need not be looked at again
looked_at : (f : Corner → Bool) (c : Corner) (us : Shape) → or (f c) (any (λ u. not (same_corner c u) && f u) us) ≡ or (f c) (any f us)
looked_at f c us = ⊎_elim (λ h. ap (λ b. or b (any (λ u. not (same_corner c u) && f u) us)) h ∙ sym (ap (λ b. or b (any f us)) h)) (λ h. ap (or (f c)) (fails h)) (cases_Bool (f c))
  where
    fails : f c ≡ false → any (λ u. not (same_corner c u) && f u) us ≡ any f us
    fails h = any_same (λ u. not (same_corner c u) && f u) f us (λ u. ⊎_elim (same u) (λ k. ap (λ x. not x && f u) k) (cases_Bool (same_corner c u)))
      where
        same : (u : Corner) → same_corner c u ≡ true → (not (same_corner c u) && f u) ≡ f u
        same u k = and_right (not (same_corner c u)) (f u) (ap f (sym (one_corner c u k)) ∙ h) ∙ sym (ap f (sym (one_corner c u k)) ∙ h)

pub parities_begin : (t : Shape) (e : Edge) (b : Bool) (p : Parities) → eqb e.one.y e.other.y ≡ false → b ≡ raw t (sample e e.one) → p ≡ one_parity b →
    both_parities p (parities_in t e t) ≡ parities_of t e
unfolding any
parities_begin t e b p slants is made =
    ap (λ v. both_parities v (parities_in t e t)) (made ∙ same_parities (one_parity b) first (sym (not_not b) ∙ shown t e e.one true b is on) (shown t e e.one false b is on))
    ∙ same_parities (both_parities first (parities_in t e t)) (parities_of t e) (looked_at (has_parity t true e) e.one t) (looked_at (has_parity t false e) e.one t)
  where
    first : Parities
    first = record { odd = has_parity t true e e.one; even = has_parity t false e e.one }

    on : starts e e.one ≡ true
    on = and_from (on_edge e e.one) _ (one_on e) (not_from_false _ slants)

pub parities_go_on : (t : Shape) (e : Edge) (p q : Parities) (u : Corner) (us : Shape) → q ≡ both_parities p (parities_later t e u) →
    both_parities q (parities_in t e us) ≡ both_parities p (parities_in t e (u ∷ us))
unfolding any
parities_go_on t e p q u us is =
    ap (λ v. both_parities v (parities_in t e us)) is ∙ parities_assoc p (parities_later t e u) (parities_in t e us)

no_more : (p : Parities) → both_parities p no_parity ≡ p
no_more p = same_parities (both_parities p no_parity) p (or_false_right p.odd) (or_false_right p.even)

-- a corner at a height where the edge does not go on is passed over
pub parities_skip : (t : Shape) (e : Edge) (p : Parities) (u : Corner) (us : Shape) → goes_on_at e u.y ≡ false →
    both_parities p (parities_in t e us) ≡ both_parities p (parities_in t e (u ∷ us))
parities_skip t e p u us off =
    parities_go_on t e p p u us (sym (no_more p) ∙ ap (both_parities p) (later_off t e u (sym (starts_off e u off))))

pub parities_end : (t : Shape) (e : Edge) (p : Parities) → p ≡ both_parities p (parities_in t e [])
unfolding any
parities_end t e p = sym (no_more p)

-- AN EDGE OUTSIDE THE BOX has only even samples
raw_missed : (t : Shape) (e : Edge) → misses (bounds_of t) e ≡ true → (u : Corner) → on_edge e u ≡ true → raw t (sample e u) ≡ false
unfolding edges xors
raw_missed [] e out u on = refl
raw_missed (c ∷ cs) e out u on = missed_raw (c ∷ cs) e out u on

-- if it is not level, after its first corner all is even, and no other corner lies on it
module _ (t : Shape) (e : Edge) (outside : misses (bounds_of t) e ≡ true) where
  never_odd : (u : Corner) → has_parity t true e u ≡ false
  never_odd u = ⊎_elim (λ on. and_right (starts e u) _ (even on)) (λ off. and_left (starts e u) _ (and_left (on_edge e u) _ off)) (cases_Bool (on_edge e u))
    where
      even : on_edge e u ≡ true → not (xor true (raw t (sample e u))) ≡ false
      even on = ap (λ b. not (xor true b)) (raw_missed t e outside u on)

  first_even : eqb e.one.y e.other.y ≡ false → has_parity t false e e.one ≡ true
  first_even slants =
      and_from (starts e e.one) _ (and_from (on_edge e e.one) _ (one_on e) (not_from_false _ slants))
      (ap (λ b. not (xor false b)) (raw_missed t e outside e.one (one_on e)))

  pub parities_outside : eqb e.one.y e.other.y ≡ false → record { odd = false; even = true } ≡ parities_of t e
  unfolding any
  parities_outside slants =
      let o = any_false_from (has_parity t true e) (e.one ∷ t) (λ u _. never_odd u) in
      let v : or (has_parity t false e e.one) (any (has_parity t false e) t) ≡ true = ap (λ b. or b (any (has_parity t false e) t)) (first_even slants) in
      sym (ap (λ b. record { odd = b; even = any (has_parity t false e) (e.one ∷ t) }) o ∙ ap (λ b. record { odd = false; even = b }) v)
