-- A map as a list of grounds by rising numbers: where a number stands or would stand, what is put there, and what a drop leaves.
use Rattle.std.proofs.Common.{◌≡◌, ℕ, suc, ◌+◌, ◌<◌, Bool, true, false, not, ◌&&◌, eqb, ltb, [], ◌∷◌, ◌++◌, length, sym, refl, ap, ◌∙◌, arith}
use Rattle.std.proofs.lemmas.Bool.{and_parts, and_from, lt-ltb, ltb-true, ltb-false, eqb-true, eqb-false, ne_eqb, false≢true}
use Rattle.std.proofs.lemmas.Bool.Decides.{nat_tests}
use Rattle.plane.specs.Lists.{pick, every, any, those}
use Rattle.plane.proofs.Booleans.{or_from, or_parts, pick_both, pick_false}
use Rattle.plane.proofs.Lists.{every_weaker, those_append}
use Rattle.ground.specs.Shapes.{Shape}
use Rattle.map.specs.House.{Kept, Map, there, put_kept, corners_in}
use Rattle.map.proofs.Passing.{those_all, every_those}

abbrev pub kept : ℕ → Shape → Kept
kept i s = record { id = i; shape = s }

-- THE PLACE OF A NUMBER: the grounds with lower numbers, and those from there on
abbrev pub lower : ℕ → Map → Map
lower i [] = []
lower i (k ∷ ks) = pick (ltb k.id i) (k ∷ lower i ks) []

abbrev pub onward : ℕ → Map → Map
onward i [] = []
onward i (k ∷ ks) = pick (ltb k.id i) (onward i ks) (k ∷ ks)

-- the first ground has this number
abbrev pub heads : ℕ → Map → Bool
heads i [] = false
heads i (k ∷ ks) = eqb k.id i

-- a number that heads a list is the number of its first ground
pub heads_first : (i : ℕ) (ks : Map) → heads i ks ≡ true → (l : Kept) × (ls : Map) × (ks ≡ l ∷ ls) × (eqb l.id i ≡ true)
heads_first i [] h = absurd (false≢true h)
heads_first i (k ∷ ks) h = (k, ks, refl, h)

-- one behind the other they are the map
pub split_at : (i : ℕ) (ks : Map) → lower i ks ++ onward i ks ≡ ks
split_at i [] = refl
split_at i (k ∷ ks) =
    elim (ltb k.id i) as (λ t. pick t (k ∷ lower i ks) [] ++ pick t (onward i ks) (k ∷ ks) ≡ k ∷ ks)
    [ true ↦ ap (◌∷◌ k) (split_at i ks) | false ↦ refl ]

-- BY RISING NUMBERS
abbrev pub rising : Map → Bool
rising [] = true
rising (k ∷ ks) = every (λ l. ltb k.id l.id) ks && rising ks

-- so do those behind others
pub rising_behind : (js ks : Map) → rising (js ++ ks) ≡ true → rising ks ≡ true
rising_behind [] ks h = h
rising_behind (j ∷ js) ks h = rising_behind js ks (and_parts (every (λ l. ltb j.id l.id) (js ++ ks)) (rising (js ++ ks)) h).1

-- where all numbers are above another, that is none of them
pub above_other : (i : ℕ) (ks : Map) → every (λ l. ltb i l.id) ks ≡ true → there ks i ≡ false
unfolding every any
above_other i [] h = refl
above_other i (k ∷ ks) h =
    let p = and_parts (ltb i k.id) (every (λ l. ltb i l.id) ks) h in
    let a = ltb-true i k.id p.0 in
    or_from (eqb k.id i) (there ks i) (ne_eqb k.id i (λ e. omega arith)) (above_other i ks p.1)

-- what is above a number is above all that are below it
above_lower : (i j : ℕ) (ks : Map) → i < j → every (λ l. ltb j l.id) ks ≡ true → every (λ l. ltb i l.id) ks ≡ true
above_lower i j ks h = every_weaker (λ l. ltb j l.id) (λ l. ltb i l.id) ks (λ l c. lt-ltb i l.id (omega (arith, ltb-true j l.id c)))

-- a number is on the map if it heads what comes from its place on
pub there_heads : (i : ℕ) (ks : Map) → rising ks ≡ true → there ks i ≡ heads i (onward i ks)
unfolding every any
there_heads i [] h = refl
there_heads i (k ∷ ks) h =
    let p = and_parts (every (λ l. ltb k.id l.id) ks) (rising ks) h in
    let r = there_heads i ks p.1 in
    let a : i < k.id → there ks i ≡ false =
    λ b. above_other i ks (above_lower i k.id ks b p.0) in
    grind (arith, nat_tests)

-- the grounds before the place have lower numbers
lower_less : (i : ℕ) (ks : Map) → every (λ l. ltb l.id i) (lower i ks) ≡ true
unfolding every
lower_less i [] = refl
lower_less i (k ∷ ks) =
    pick_both (λ js. every (λ l. ltb l.id i) js ≡ true) (ltb k.id i) (k ∷ lower i ks) []
    (λ h. and_from (ltb k.id i) (every (λ l. ltb l.id i) (lower i ks)) h (lower_less i ks)) (λ _. refl)

-- PUT
-- a ground that is not on the map yet is put at its number's place
pub put_place : (k : Kept) (ks : Map) → there ks k.id ≡ false → put_kept k ks ≡ lower k.id ks ++ k ∷ onward k.id ks
unfolding put_kept any
put_place k [] h = refl
put_place k (l ∷ ls) h =
    let p = or_parts (eqb l.id k.id) (there ls k.id) h in
    let r = put_place k ls p.1 in
    grind (arith, nat_tests)

-- a test passes on all if it passes on the new one and on all others
pub every_put : (f : Kept → Bool) (k : Kept) (ks : Map) → every f (put_kept k ks) ≡ (f k && every f ks)
unfolding put_kept every
every_put f k [] = refl
every_put f k (l ∷ ls) = let r = every_put f k ls in grind arith

-- one more ground, and so many more corners
pub length_put : (k : Kept) (ks : Map) → length (put_kept k ks) ≡ suc (length ks)
unfolding put_kept
length_put k [] = refl
length_put k (l ∷ ls) = let r = length_put k ls in grind arith

pub corners_put : (k : Kept) (ks : Map) → corners_in (put_kept k ks) ≡ length k.shape + corners_in ks
unfolding put_kept corners_in
corners_put k [] = refl
corners_put k (l ∷ ls) = let r = corners_put k ls in grind arith

-- the numbers still rise
pub rising_put : (k : Kept) (ks : Map) → there ks k.id ≡ false → rising ks ≡ true → rising (put_kept k ks) ≡ true
unfolding put_kept any every
rising_put k [] h r = refl
rising_put k (l ∷ ls) h r =
    let p = or_parts (eqb l.id k.id) (there ls k.id) h in
    let q = and_parts (every (λ j. ltb l.id j.id) ls) (rising ls) r in
    pick_both (λ js. rising js ≡ true) (ltb k.id l.id) (k ∷ l ∷ ls) (l ∷ put_kept k ls)
    (λ t. and_from (every (λ j. ltb k.id j.id) (l ∷ ls)) (rising (l ∷ ls))
    (and_from (ltb k.id l.id) (every (λ j. ltb k.id j.id) ls) t (above_lower k.id l.id ls (ltb-true k.id l.id t) q.0)) r)
    (λ f. and_from (every (λ j. ltb l.id j.id) (put_kept k ls)) (rising (put_kept k ls))
    (every_put (λ j. ltb l.id j.id) k ls ∙ and_from (ltb l.id k.id) (every (λ j. ltb l.id j.id) ls)
    (lt-ltb l.id k.id (omega (arith, ltb-false k.id l.id f, eqb-false l.id k.id p.0))) q.0)
    (rising_put k ls p.1 q.1))

-- DROP
-- a test for another number
other : (i j : ℕ) → (i ≡ j → ⊥) → not (eqb i j) ≡ true
other i j h = ap not (ne_eqb i j h)

-- the numbers still rise
pub rising_those : (f : Kept → Bool) (ks : Map) → rising ks ≡ true → rising (those f ks) ≡ true
unfolding those
rising_those f [] h = refl
rising_those f (k ∷ ks) h =
    let p = and_parts (every (λ l. ltb k.id l.id) ks) (rising ks) h in
    let r = rising_those f ks p.1 in
    pick_both (λ js. rising js ≡ true) (f k) (k ∷ those f ks) (those f ks)
    (λ _. and_from (every (λ l. ltb k.id l.id) (those f ks)) (rising (those f ks)) (every_those (λ l. ltb k.id l.id) f ks p.0) r) (λ _. r)

-- a drop takes the ground at its number's place, and no other
pub drop_place : (i : ℕ) (k : Kept) (ks ls : Map) → rising ks ≡ true → onward i ks ≡ k ∷ ls → eqb k.id i ≡ true
    → those (λ l. not (eqb l.id i)) ks ≡ lower i ks ++ ls
unfolding those
drop_place i k ks ls h o e =
    let f : Kept → Bool = λ l. not (eqb l.id i) in
    let whole : lower i ks ++ k ∷ ls ≡ ks = ap (◌++◌ (lower i ks)) (sym o) ∙ split_at i ks in
    let tail = and_parts (every (λ l. ltb k.id l.id) ls) (rising ls) (rising_behind (lower i ks) (k ∷ ls) (ap rising whole ∙ h)) in
    let before : those f (lower i ks) ≡ lower i ks =
    those_all f (lower i ks) (every_weaker (λ l. ltb l.id i) f (lower i ks) (λ l c. other l.id i (omega (arith, ltb-true l.id i c))) (lower_less i ks)) in
    let behind : those f ls ≡ ls =
    those_all f ls (every_weaker (λ l. ltb k.id l.id) f ls (λ l c. other l.id i (omega (arith, ltb-true k.id l.id c, eqb-true k.id i e))) tail.0) in
    let here : those f (k ∷ ls) ≡ those f ls = pick_false (f k) (k ∷ those f ls) (those f ls) (ap not e) in
    ap (those f) (sym whole) ∙ those_append f (lower i ks) (k ∷ ls) ∙ cc

-- corners add up
pub corners_append : (js ks : Map) → corners_in (js ++ ks) ≡ corners_in js + corners_in ks
unfolding corners_in
corners_append [] ks = omega arith
corners_append (j ∷ js) ks = let r = corners_append js ks in omega arith
