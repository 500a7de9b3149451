-- What lies beside the edges of a ring: an edge's direction tells its own ring, the parities at its samples the other.
use Rattle.std.proofs.Common.{◌≡◌, ◌<◌, Bool, true, false, not, ◌&&◌, List, [], ◌∷◌, sym, refl, ap, ◌∙◌, arith}
use Rattle.std.proofs.lemmas.Bool.Decides.{nat_tests}
use Rattle.std.proofs.lemmas.Bool.{and_parts, and_left, and_right}
use Rattle.plane.specs.Lists.{or, any}
use Rattle.plane.specs.Edges.{Edge}
use Rattle.plane.specs.Orientation.{upward}
use Rattle.plane.specs.Parity.{xor}
use Rattle.plane.proofs.Booleans.{or_assoc, or_comm, or_false_right}
use Rattle.plane.proofs.Lists.{any_same, any_false_from}
use Rattle.ground.specs.Shapes.{Shape}
use Rattle.relate.specs.Samples.{raw, starts, sample}
use Rattle.relate.specs.Finding.{found_at, found_along}
use Rattle.relate.specs.Siding.{has_parity, parities_of, beside, sides_of, sides_along, both_sides, all_seen}
use Rattle.relate.specs.declared.sides.Sides.{Sides}
use Rattle.relate.proofs.AtSamples.{level_starts}
use Rattle.relate.specs.Rings.{edges_round}
use Rattle.relate.proofs.Rounds.{goes_on, round}

-- THE DIRECTION OF AN EDGE tells which parity its own ring has beside it
module _ (t : Shape) (e : Edge) where
  -- parities that are not the edge's are not found
  not_beside : (i j : Bool) → not (xor i (not (upward e))) ≡ false → beside t i j e ≡ false
  not_beside i j h = any_false_from (found_at t i j e) (e.one ∷ t) (λ u _. and_right (starts e u) _ (and_left _ _ h))

  is_beside : (i j : Bool) → not (xor i (not (upward e))) ≡ true → beside t i j e ≡ any (has_parity t j e) (e.one ∷ t)
  is_beside i j h =
      any_same (found_at t i j e) (has_parity t j e) (e.one ∷ t) (λ u. ap (λ b. starts e u && (b && not (xor j (raw t (sample e u))))) h)

  pub sides_rising : e.one.y < e.other.y → sides_of t e ≡ record { both = false; own = false; other = (parities_of t e).odd }
  sides_rising h =
      let up : upward e ≡ true = grind (arith, nat_tests) in
      let b = not_beside true true (ap (λ v. not (xor true (not v))) up) in
      let w = not_beside true false (ap (λ v. not (xor true (not v))) up) in
      let o = is_beside false true (ap (λ v. not (xor false (not v))) up) in
      cc

  pub sides_falling : e.other.y < e.one.y → sides_of t e ≡ record { both = (parities_of t e).odd; own = (parities_of t e).even; other = false }
  sides_falling h =
      let down : upward e ≡ false = grind (arith, nat_tests) in
      let b = is_beside true true (ap (λ v. not (xor true (not v))) down) in
      let w = is_beside true false (ap (λ v. not (xor true (not v))) down) in
      let o = not_beside false true (ap (λ v. not (xor false (not v))) down) in
      cc

  -- a level edge has no samples
  pub sides_level : e.one.y ≡ e.other.y → sides_of t e ≡ record { both = false; own = false; other = false }
  sides_level h =
      let none : (i j : Bool) → beside t i j e ≡ false = λ i j. any_false_from (found_at t i j e) (e.one ∷ t) (λ u _. and_left (starts e u) _ (level_starts e h u)) in
      let b = none true true in
      let w = none true false in
      let o = none false true in
      cc

-- WHAT WAS SEEN BEFORE
abbrev pub none_seen : Sides
none_seen = record { both = false; own = false; other = false }

same_sides : (p q : Sides) → p.both ≡ q.both → p.own ≡ q.own → p.other ≡ q.other → p ≡ q
same_sides p q b w o =
    ap (λ v. record { both = v; own = p.own; other = p.other }) b ∙ ap (λ v. record { both = q.both; own = v; other = p.other }) w
    ∙ ap (λ v. record { both = q.both; own = q.own; other = v }) o

pub sides_none : (p : Sides) → both_sides p none_seen ≡ p
sides_none p = same_sides (both_sides p none_seen) p (or_false_right p.both) (or_false_right p.own) (or_false_right p.other)

-- what holds already stays so
held : (a b : Bool) → a ≡ true → a ≡ or a b
held a b h = h ∙ ap (λ v. or v b) (sym h)

-- what can show nothing new need not be looked at
pub rising_known : (p : Sides) (b : Bool) → p.other ≡ true → p ≡ both_sides p (record { both = false; own = false; other = b })
rising_known p b h =
    same_sides p (both_sides p (record { both = false; own = false; other = b })) (sym (or_false_right p.both)) (sym (or_false_right p.own)) (held p.other b h)

pub falling_known : (p : Sides) (b w : Bool) → p.both ≡ true → p.own ≡ true → p ≡ both_sides p (record { both = b; own = w; other = false })
falling_known p b w h k =
    same_sides p (both_sides p (record { both = b; own = w; other = false })) (held p.both b h) (held p.own w k) (sym (or_false_right p.other))

all_known : (p q : Sides) → all_seen p ≡ true → p ≡ both_sides p q
all_known p q h =
    let w = and_parts p.both (p.own && p.other) h in
    let v = and_parts p.own p.other w.1 in
    same_sides p (both_sides p q) (held p.both q.both w.0) (held p.own q.own v.0) (held p.other q.other v.1)

-- ALONG A RING
sides_assoc : (p q r : Sides) → both_sides (both_sides p q) r ≡ both_sides p (both_sides q r)
sides_assoc p q r =
    let b = or_assoc p.both q.both r.both in
    let w = or_assoc p.own q.own r.own in
    let o = or_assoc p.other q.other r.other in
    cc

sides_comm : (p q : Sides) → both_sides p q ≡ both_sides q p
sides_comm p q = same_sides (both_sides p q) (both_sides q p) (or_comm p.both q.both) (or_comm p.own q.own) (or_comm p.other q.other)

-- beside the edges that are left
abbrev pub sides_in : Shape → List Edge → Sides
sides_in t es = record { both = any (beside t true true) es; own = any (beside t true false) es; other = any (beside t false true) es }

module _ (t : Shape) where
  more : (e : Edge) (es : List Edge) → sides_in t (e ∷ es) ≡ both_sides (sides_of t e) (sides_in t es)
  unfolding any
  more e es = refl

  pub sides_begin : (p : Sides) (s : Shape) → both_sides p (sides_in t (edges_round s)) ≡ both_sides p (sides_along s t)
  unfolding found_along
  sides_begin p s = ap (both_sides p) (round both_sides sides_assoc (sides_of t) (sides_in t) more sides_comm s)

  pub sides_go_on : (p q : Sides) (e : Edge) (es : List Edge) → q ≡ both_sides p (sides_of t e) → both_sides q (sides_in t es) ≡ both_sides p (sides_in t (e ∷ es))
  sides_go_on p q e es is = ap (λ r. both_sides r (sides_in t es)) is ∙ goes_on both_sides sides_assoc (sides_of t) (sides_in t) more p e es

  pub sides_stop : (p q : Sides) (e : Edge) (es : List Edge) → q ≡ both_sides p (sides_of t e) → all_seen q ≡ true → q ≡ both_sides p (sides_in t (e ∷ es))
  sides_stop p q e es is all = all_known q _ all ∙ sides_go_on p q e es is

  pub sides_end : (p : Sides) → p ≡ both_sides p (sides_in t [])
  unfolding any
  sides_end p = sym (sides_none p)
