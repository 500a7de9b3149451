-- The ground of a number: what a put or a drop makes of it, and whether a listing shows it.
use Rattle.std.proofs.Common.{◌≡◌, ℕ, Bool, true, false, not, ◌&&◌, eqb, ltb, [], ◌∷◌, get_or, sym, refl, ap, ◌∙◌, arith}
use Rattle.std.proofs.lemmas.Bool.{and_parts, and_from}
use Rattle.std.proofs.lemmas.Bool.Decides.{nat_tests}
use Rattle.plane.specs.Lists.{pick, or, every, any, those, each}
use Rattle.plane.proofs.Booleans.{or_parts, or_false_right}
use Rattle.plane.proofs.Lists.{every_each, any_each, any_same}
use Rattle.ground.specs.Shapes.{Shape}
use Rattle.map.specs.House.{Kept, Map, there, shape_at, put_kept}
use Rattle.map.specs.History.{rising_rows}
use Rattle.map.proofs.Passing.{any_those}
use Rattle.map.proofs.Kept.{rising, above_other}

-- PUT
-- the new number is there, and all others as before
pub there_put : (k : Kept) (ks : Map) (i : ℕ) → there (put_kept k ks) i ≡ or (eqb k.id i) (there ks i)
unfolding put_kept any
there_put k [] i = refl
there_put k (l ∷ ls) i = let r = there_put k ls i in grind arith

-- its ground is the new one, and all others have theirs
pub shape_put : (k : Kept) (ks : Map) (i : ℕ) → there ks k.id ≡ false → shape_at (put_kept k ks) i ≡ pick (eqb k.id i) k.shape (shape_at ks i)
unfolding put_kept any shape_at
shape_put k [] i h = refl
shape_put k (l ∷ ls) i h =
    let p = or_parts (eqb l.id k.id) (there ls k.id) h in
    let r = shape_put k ls i p.1 in
    grind (arith, nat_tests)

-- DROP
-- the dropped number is gone, and all others are there as before, with their grounds
pub there_drop : (j : ℕ) (ks : Map) (i : ℕ) → there (those (λ l. not (eqb l.id j)) ks) i ≡ (there ks i && not (eqb i j))
unfolding those any
there_drop j [] i = refl
there_drop j (l ∷ ls) i = let r = there_drop j ls i in grind (arith, nat_tests)

pub shape_drop : (j : ℕ) (ks : Map) (i : ℕ) → eqb i j ≡ false → shape_at (those (λ l. not (eqb l.id j)) ks) i ≡ shape_at ks i
unfolding those shape_at
shape_drop j [] i h = refl
shape_drop j (l ∷ ls) i h = let r = shape_drop j ls i h in grind (arith, nat_tests)

-- A LISTING
-- since each number stands once
one_of : (f : Shape → Bool) (i : ℕ) (ks : Map) → rising ks ≡ true → any (λ k. f k.shape && eqb k.id i) ks ≡ (there ks i && f (shape_at ks i))
unfolding any shape_at
one_of f i [] h = refl
one_of f i (k ∷ ks) h =
    let p = and_parts (every (λ l. ltb k.id l.id) ks) (rising ks) h in
    let r = one_of f i ks p.1 in
    let alone : k.id ≡ i → there ks i ≡ false = λ e. ap (there ks) (sym e) ∙ above_other k.id ks p.0 in
    grind (arith, nat_tests)

-- a number is shown exactly if it is on the map and its ground passes the test
pub told_of : (f : Shape → Bool) (i : ℕ) (ks : Map) → rising ks ≡ true
    → any (λ row. any (λ n. eqb n i) row) (each (λ k. k.id ∷ []) (those (λ k. f k.shape) ks)) ≡ (there ks i && f (shape_at ks i))
unfolding any
told_of f i ks h =
    any_each (λ row. any (λ n. eqb n i) row) (λ k. k.id ∷ []) (those (λ k. f k.shape) ks)
    ∙ any_those (λ k. f k.shape) (λ k. or (eqb k.id i) false) ks
    ∙ any_same (λ k. f k.shape && or (eqb k.id i) false) (λ k. f k.shape && eqb k.id i) ks (λ k. ap (◌&&◌ (f k.shape)) (or_false_right (eqb k.id i)))
    ∙ one_of f i ks h

-- the numbers of a map, in a row each, rise
pub rows_rise : (ks : Map) → rising ks ≡ true → rising_rows (each (λ k. k.id ∷ []) ks) ≡ true
unfolding rising_rows each
rows_rise [] h = refl
rows_rise (k ∷ ks) h =
    let p = and_parts (every (λ l. ltb k.id l.id) ks) (rising ks) h in
    and_from (every (λ q. ltb k.id (get_or q 0 0)) (each (λ l. l.id ∷ []) ks)) (rising_rows (each (λ l. l.id ∷ []) ks))
    (every_each (λ q. ltb k.id (get_or q 0 0)) (λ l. l.id ∷ []) ks ∙ p.0) (rows_rise ks p.1)
