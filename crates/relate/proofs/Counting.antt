-- Crossings counted edge by edge: those that do not reach over the point's height are not crossed.
use Rattle.std.proofs.Common.{◌≡◌, ℕ, ◌*◌, Bool, true, false, not, ◌&&◌, ltb, leb, List, [], ◌∷◌, sym, refl, ap, ◌∙◌, arith}
use Rattle.std.proofs.lemmas.Bool.Decides.{nat_tests}
use Rattle.plane.specs.Lists.{or}
use Rattle.plane.specs.Corners.{Corner, corner}
use Rattle.plane.specs.Edges.{Edge, grown_edge}
use Rattle.plane.specs.Levels.{Floors}
use Rattle.plane.specs.Parity.{xor, xors, crosses}
use Rattle.plane.specs.Sights.{StandsAt, place}
use Rattle.plane.specs.declared.viewer.Viewer.{Viewer}
use Rattle.plane.proofs.Booleans.{xor_assoc, xor_comm, xor_false_right, same_from_xor}
use Rattle.plane.proofs.Views.{floor_tells}
use Rattle.ground.specs.Shapes.{Shape, edges}
use Rattle.relate.specs.Rings.{edges_round}
use Rattle.relate.proofs.Rounds.{goes_on, round}

-- AN EDGE with both ends above the point's height, or both not above it
pub unreached : (w floor : ℕ) (e : Edge) (c : Corner) → Floors c.y w floor → xor (ltb floor e.one.y) (ltb floor e.other.y) ≡ false →
    crosses (grown_edge w e) c ≡ false
unreached w floor e c h k =
    let low = floor_tells w floor c.y e.one.y h in
    let high = floor_tells w floor c.y e.other.y h in
    let same : ltb c.y (w * e.one.y) ≡ ltb c.y (w * e.other.y) = sym low ∙ same_from_xor _ _ k ∙ high in
    neither (w * e.one.y) (w * e.other.y) c.y _ _ same
  where
    neither : (a b y : ℕ) (l r : Bool) → ltb y a ≡ ltb y b → or ((leb a y && ltb y b) && l) ((leb b y && ltb y a) && r) ≡ false
    neither a b y l r m = grind (arith, nat_tests)

-- what a viewer tells is told of the point where it stands
pub stood_crosses : (v : Viewer) (a b w : ℕ) (e : Edge) → StandsAt v a b w → crosses (grown_edge v.scale e) (place v) ≡ crosses (grown_edge w e) (corner a b)
stood_crosses v a b w e (x, y, z) =
    ap (λ n. crosses (grown_edge n e) (place v)) z ∙ ap (λ n. crosses (grown_edge w e) (corner n v.y)) x ∙ ap (λ n. crosses (grown_edge w e) (corner a n)) y

-- THE COUNT, even or odd, of edges of which f says that they are crossed
module _ (f : Edge → Bool) where
  more : (e : Edge) (es : List Edge) → xors f (e ∷ es) ≡ xor (f e) (xors f es)
  unfolding xors
  more e es = refl

  pub count_begins : (s : Shape) → xor false (xors f (edges_round s)) ≡ xors f (edges s)
  count_begins = round xor xor_assoc f (xors f) more xor_comm

  pub count_goes_on : (o q : Bool) (e : Edge) (es : List Edge) → q ≡ xor o (f e) → xor q (xors f es) ≡ xor o (xors f (e ∷ es))
  count_goes_on o q e es is = ap (λ v. xor v (xors f es)) is ∙ goes_on xor xor_assoc f (xors f) more o e es

  pub count_skips : (o : Bool) (e : Edge) (es : List Edge) → f e ≡ false → xor o (xors f es) ≡ xor o (xors f (e ∷ es))
  count_skips o e es none = count_goes_on o o e es (sym (ap (xor o) none ∙ xor_false_right o))

  -- a crossed edge turns the count
  pub count_turns : (o : Bool) (e : Edge) (es : List Edge) → f e ≡ true → xor (not o) (xors f es) ≡ xor o (xors f (e ∷ es))
  count_turns o e es crossed = count_goes_on o (not o) e es (turned o ∙ ap (xor o) (sym crossed))
    where
      turned : (b : Bool) → not b ≡ xor b true
      turned true = refl
      turned false = refl

  pub count_ends : (o : Bool) → o ≡ xor o (xors f [])
  unfolding xors
  count_ends o = sym (xor_false_right o)
