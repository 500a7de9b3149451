-- Stepping off an edge: of two places a hair to its east and to its west, one is enclosed.
use Rattle.std.proofs.Common.{◌≡◌, ℕ, ◌*◌, ◌<◌, ◌≤◌, Bool, true, false, not, ◌&&◌, ltb, leb, List, ◌∷◌, ◌++◌, sym, ap, ◌∙◌, ap₂, ⊎_elim, arith}
use Rattle.std.proofs.lemmas.Bool.{cases_lt, cases_Bool}
use Rattle.std.proofs.lemmas.Bool.Decides.{nat_tests}
use Rattle.plane.specs.Lists.{or, any, each}
use Rattle.plane.specs.Corners.{Corner, lefts, rights}
use Rattle.plane.specs.Edges.{Edge, grown_edge, on_edge}
use Rattle.plane.specs.Parity.{xor, xors, changes, Closed, crosses, parity}
use Rattle.plane.proofs.Booleans.{not_both, true_from_not}
use Rattle.plane.proofs.Products.{product_le}
use Rattle.plane.proofs.Lists.{In, any_each, any_false_from, any_false_at}
use Rattle.plane.proofs.Xors.{xors_in, xors_each, xors_append}
use Rattle.plane.proofs.Reversal.{on_edge_reversed}
use Rattle.plane.proofs.Incidence.{on_steep}
use Rattle.plane.proofs.Beside.{Below, rises_past, reaches, east_hair, crosses_east, off_east, west_hair, crosses_west, off_west}

-- ONE EDGE
-- an edge that c is not on passes through no place at c
pub reaches_off : (e : Edge) (c : Corner) → on_edge e c ≡ false → reaches e c ≡ crosses e c
reaches_off e c off = tested e.one.y e.other.y c.y (lefts e.one e.other c) (rights e.one e.other c) up down
  where
    up : e.one.y ≤ c.y → c.y < e.other.y → lefts e.one e.other c ≡ rights e.one e.other c → ⊥
    up h k line = not_both (on_edge e c) (on_steep e.one e.other c line h (omega arith) (omega arith)) off

    down : e.other.y ≤ c.y → c.y < e.one.y → lefts e.one e.other c ≡ rights e.one e.other c → ⊥
    down h k line =
        not_both (on_edge e c) (sym (on_edge_reversed e c) ∙ on_steep e.other e.one c (omega arith) h (omega arith) (omega arith)) off

    tested : (p q h l r : ℕ) → (p ≤ h → h < q → l ≡ r → ⊥) → (q ≤ h → h < p → l ≡ r → ⊥) →
        or ((leb p h && ltb h q) && leb r l) ((leb q h && ltb h p) && leb l r) ≡ or ((leb p h && ltb h q) && ltb r l) ((leb q h && ltb h p) && ltb l r)
    tested p q h l r up down = grind (arith, nat_tests)

-- an edge that goes up or down through c reaches, but is not crossed
pub through_reaches : (e : Edge) (c : Corner) → lefts e.one e.other c ≡ rights e.one e.other c →
    or (rises_past e.one e.other c) (rises_past e.other e.one c) ≡ true → xor (reaches e c) (crosses e c) ≡ true
through_reaches e c line past =
    tested (rises_past e.one e.other c) (rises_past e.other e.one c) (lefts e.one e.other c) (rights e.one e.other c) line past
  where
    tested : (s t : Bool) (l r : ℕ) → l ≡ r → or s t ≡ true → xor (or (s && leb r l) (t && leb l r)) (or (s && ltb r l) (t && ltb l r)) ≡ true
    tested s t l r line past = grind (arith, nat_tests)

-- an edge that goes up past c, no end of it west of c, doesn't have c on its right
not_right : (a b c : Corner) → c.x ≤ a.x → c.x ≤ b.x → a.y ≤ c.y → c.y ≤ b.y → rights a b c ≤ lefts a b c
not_right a b c h k low high = omega (arith, product_le c.x a.x c.y b.y h high, product_le a.y c.y c.x b.x low k)

-- where no end of it is west of c, the edge reaches if it leads from what is not above c to what is, or back
pub reaches_all : (e : Edge) (c : Corner) → c.x ≤ e.one.x → c.x ≤ e.other.x → reaches e c ≡ changes (λ a. ltb c.y a.y) e
reaches_all e c h k =
    let a = e.one in
    let b = e.other in
    tested a.y b.y c.y (lefts a b c) (rights a b c)
    (λ low high. not_right a b c h k low (omega arith))
    (λ low high. omega (arith, not_right b a c k h low (omega arith)))
  where
    tested : (p q h l r : ℕ) → (p ≤ h → h < q → r ≤ l) → (q ≤ h → h < p → l ≤ r) →
        or ((leb p h && ltb h q) && leb r l) ((leb q h && ltb h p) && leb l r) ≡ xor (ltb h p) (ltb h q)
    tested p q h l r up down = grind (arith, nat_tests)

-- ALL EDGES
-- all ends of edges have coordinates below n
abbrev pub AllBelow : ℕ → List Edge → Type 0
AllBelow n es = (e : Edge) → In e es → Below n e.one × Below n e.other

module _ (n : ℕ) (large : 2 ≤ n) (es : List Edge) (small : AllBelow n es) (c : Corner) where
  -- to the east of c the parity is that at c
  pub parity_east : parity (each (grown_edge (n * n)) es) (east_hair n c) ≡ parity es c
  parity_east =
      xors_each (λ e. crosses e (east_hair n c)) (grown_edge (n * n)) es
      ∙ xors_in (λ e. crosses (grown_edge (n * n) e) (east_hair n c)) (λ e. crosses e c) es (λ e m. crosses_east n large c e (small e m).0 (small e m).1)

  pub free_east : any (λ e. on_edge e (east_hair n c)) (each (grown_edge (n * n)) es) ≡ false
  free_east =
      any_each (λ e. on_edge e (east_hair n c)) (grown_edge (n * n)) es
      ∙ any_false_from (λ e. on_edge (grown_edge (n * n) e) (east_hair n c)) es (λ e m. off_east n large c e (small e m).0 (small e m).1)

  -- to the west of c the edges count that pass through it too
  pub parity_west : 1 ≤ c.x → parity (each (grown_edge (n * n)) es) (west_hair n c) ≡ xors (λ e. reaches e c) es
  parity_west inland =
      xors_each (λ e. crosses e (west_hair n c)) (grown_edge (n * n)) es
      ∙ xors_in (λ e. crosses (grown_edge (n * n) e) (west_hair n c)) (λ e. reaches e c) es (λ e m. crosses_west n large c inland e (small e m).0 (small e m).1)

  pub free_west : 1 ≤ c.x → any (λ e. on_edge e (west_hair n c)) (each (grown_edge (n * n)) es) ≡ false
  free_west inland =
      any_each (λ e. on_edge e (west_hair n c)) (grown_edge (n * n)) es
      ∙ any_false_from (λ e. on_edge (grown_edge (n * n) e) (west_hair n c)) es (λ e m. off_west n large c inland e (small e m).0 (small e m).1)

-- c is on just one edge of the list, the one in the middle, and that goes up or down through c
pub record Alone (before : List Edge) (e : Edge) (after : List Edge) (c : Corner) : Type 0 where
  pub line : lefts e.one e.other c ≡ rights e.one e.other c
  pub past : or (rises_past e.one e.other c) (rises_past e.other e.one c) ≡ true
  pub off_before : (f : Edge) → In f before → on_edge f c ≡ false
  pub off_after : (f : Edge) → In f after → on_edge f c ≡ false

-- then one edge more reaches than is crossed
pub alone_reaches : (before : List Edge) (e : Edge) (after : List Edge) (c : Corner) → Alone before e after c →
    xors (λ f. reaches f c) (before ++ e ∷ after) ≡ not (parity (before ++ e ∷ after) c)
unfolding xors
alone_reaches before e after c alone =
    xors_append (λ f. reaches f c) before (e ∷ after)
    ∙ ap₂ xor (others before alone.off_before) (ap (xor (reaches e c)) (others after alone.off_after))
    ∙ one_more (parity before c) (reaches e c) (crosses e c) (parity after c) (through_reaches e c alone.line alone.past)
    ∙ ap not (sym (xors_append (λ f. crosses f c) before (e ∷ after)))
  where
    others : (fs : List Edge) → ((f : Edge) → In f fs → on_edge f c ≡ false) → xors (λ f. reaches f c) fs ≡ parity fs c
    others fs off = xors_in (λ f. reaches f c) (λ f. crosses f c) fs (λ f m. reaches_off f c (off f m))

    one_more : (b r s a : Bool) → xor r s ≡ true → xor b (xor r a) ≡ not (xor b (xor s a))
    one_more b r s a h = grind arith

-- a place that an odd number of edges enclose, and that is on none; nor on one of another list, which has the given parity there
abbrev pub PlaceBeside : List Edge → List Edge → Bool → Type 0
PlaceBeside es ts odd = (q : Corner) × (parity es q ≡ true) × (any (λ e. on_edge e q) es ≡ false) × (parity ts q ≡ odd) × (any (λ e. on_edge e q) ts ≡ false)

-- ONE SIDE IS ENCLOSED: where c is on just one edge of a closed list, going up or down through c, there is such a place beside c; and another list that c is on
-- no edge of has there the parity that it has at c
pub one_side : (n : ℕ) → 2 ≤ n → (before : List Edge) (e : Edge) (after : List Edge) (c : Corner) → Closed (before ++ e ∷ after) →
    AllBelow n (before ++ e ∷ after) → Alone before e after c → (ts : List Edge) → AllBelow n ts → any (λ f. on_edge f c) ts ≡ false →
    PlaceBeside (each (grown_edge (n * n)) (before ++ e ∷ after)) (each (grown_edge (n * n)) ts) (parity ts c)
one_side n large before e after c closed small alone ts small_ts off =
    ⊎_elim (λ odd. east odd) (λ even. ⊎_elim (λ border. east (from_border border)) (λ inland. west inland even) (cases_lt c.x 1))
    (cases_Bool (parity es c))
  where
    es : List Edge
    es = before ++ e ∷ after

    Beside : Type 0
    Beside = PlaceBeside (each (grown_edge (n * n)) es) (each (grown_edge (n * n)) ts) (parity ts c)

    east : parity es c ≡ true → Beside
    east odd =
        (east_hair n c, parity_east n large es small c ∙ odd, free_east n large es small c, parity_east n large ts small_ts c, free_east n large ts small_ts c)

    west : 1 ≤ c.x → parity es c ≡ false → Beside
    west inland even = (
      west_hair n c,
      parity_west n large es small c inland ∙ alone_reaches before e after c alone ∙ ap not even,
      free_west n large es small c inland,
      parity_west n large ts small_ts c inland
          ∙ xors_in (λ f. reaches f c) (λ f. crosses f c) ts (λ f m. reaches_off f c (any_false_at (λ g. on_edge g c) f ts m off)),
      free_west n large ts small_ts c inland,
    )

    -- on the western border an even number of edges reaches
    from_border : c.x < 1 → parity es c ≡ true
    from_border border =
        true_from_not (parity es c)
        (sym (alone_reaches before e after c alone)
        ∙ xors_in (λ f. reaches f c) (changes (λ a. ltb c.y a.y)) es (λ f m. reaches_all f c (omega arith) (omega arith))
        ∙ closed (λ a. ltb c.y a.y))

-- WEST OF ALL: a corner that no end is west of, and that is on no edge of a closed list, is not enclosed
pub even_westmost : (es : List Edge) (c : Corner) → Closed es → ((e : Edge) → In e es → (c.x ≤ e.one.x) × (c.x ≤ e.other.x)) →
    any (λ e. on_edge e c) es ≡ false → parity es c ≡ false
even_westmost es c closed west off =
    sym (xors_in (λ e. reaches e c) (λ e. crosses e c) es (λ e m. reaches_off e c (any_false_at (λ f. on_edge f c) e es m off)))
    ∙ xors_in (λ e. reaches e c) (changes (λ a. ltb c.y a.y)) es (λ e m. reaches_all e c (west e m).0 (west e m).1)
    ∙ closed (λ a. ltb c.y a.y)
