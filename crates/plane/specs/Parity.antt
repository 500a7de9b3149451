-- Crossing parity: how many edges the line from a corner to the east crosses, even or odd. Assumes nothing: these are definitions.
use Rattle.std.specs.Prelude.{◌≡◌, Bool, true, false, not, ◌&&◌, List, [], ◌∷◌}
use Rattle.plane.specs.Lists.{or, any}
use Rattle.plane.specs.Corners.{Corner, in_line}
use Rattle.plane.specs.Edges.{Edge, edge, on_edge, rises, falls, cross_over}

-- one of the two, and not both
abbrev pub xor : Bool → Bool → Bool
xor true b = not b
xor false b = b

-- the test holds of an odd number of elements
unfoldable pub xors : {A : Type 0} → (A → Bool) → List A → Bool
xors f [] = false
xors f (x ∷ xs) = xor (f x) (xors f xs)

-- the two ends of the edge differ in the test
abbrev pub changes : (Corner → Bool) → Edge → Bool
changes f e = xor (f e.one) (f e.other)

-- A CLOSED LIST OF EDGES: whatever is asked of corners, the answer changes along an even number of edges. So it is of a ring, and of several rings together
abbrev pub Closed : List Edge → Type 0
Closed es = (f : Corner → Bool) → xors (changes f) es ≡ false

-- the edge crosses the line from the corner to the east, upward or downward
abbrev pub crosses : Edge → Corner → Bool
crosses e c = or (rises e c) (falls e c)

-- the line from the corner to the east crosses an odd number of edges. An edge that the corner lies on does not count
abbrev pub parity : List Edge → Corner → Bool
parity es c = xors (λ e. crosses e c) es

-- an end of one of the two, the segment from p to q and the edge, lies on the other: what they may have in common besides crossing over
abbrev pub touches : Corner → Corner → Edge → Bool
touches p q e = or (or (on_edge e p) (on_edge e q)) (or (on_edge (edge p q) e.one) (on_edge (edge p q) e.other))

-- the edge touches the segment, and is not all in line with it: then the parities at p and q say nothing about crossings
abbrev pub spoils : Corner → Corner → Edge → Bool
spoils p q e = touches p q e && not (in_line p q e.one && in_line p q e.other)

-- Where no edge spoils the segment from p to q, the parities at p and at q differ exactly if an odd number of edges cross the segment over
unfoldable pub CrossingParity : Type 0
CrossingParity =
    (es : List Edge) (p q : Corner) → Closed es → any (spoils p q) es ≡ false →
    xor (parity es p) (parity es q) ≡ xors (λ e. cross_over e (edge p q)) es
