-- The sense of a ring: whether what is just right of its edges is enclosed. It is the same along every edge.
use Rattle.std.proofs.Common.{◌≡◌, ◌≤◌, Bool, true, false, not, List, [], ◌∷◌, ◌++◌, length, sym, refl, ap, ◌∙◌, subst, ap₂, subst₂, inl, inr, append_assoc, append-nil, arith, length-append}
use Rattle.std.proofs.lemmas.Bool.{and_parts, not-true}
use Rattle.plane.specs.Corners.{Corner, same_corner}
use Rattle.plane.specs.Edges.{Edge, edge, on_edge, meet}
use Rattle.plane.specs.Parity.{xor, xors, Closed, crosses, parity}
use Rattle.plane.specs.Orientation.{upward}
use Rattle.plane.proofs.Booleans.{xor_false_right}
use Rattle.plane.proofs.Lists.{In}
use Rattle.plane.proofs.Xors.{xors_in, xors_never, xors_turned}
use Rattle.plane.proofs.Chains.{closed_turned}
use Rattle.plane.proofs.Reversal.{meet_comm}
use Rattle.plane.proofs.Bends.{next_bend, last_bend, bend, parity_bends, bend_unmet, bend_line, bend_next, bend_last, in_line_first, in_line_second}
use Rattle.plane.proofs.Rounding.{round_corner}
use Rattle.plane.proofs.Pieces.{piece_line, piece_bend, piece_unmet, piece_before}
use Rattle.ground.specs.Shapes.{clear_of, last_edge, all_but_last, ring_clear}
use Rattle.ground.proofs.Clearance.{neighbours_parts, split_in}
use Rattle.ground.proofs.Turning.{Begun, ring_begun, ring_turned}

-- a clear ring of three edges at least
pub record Ring (es : List Edge) : Type 0 where
  pub closed : Closed es
  pub clear : ring_clear es ≡ true
  pub long : 3 ≤ length es

-- whether what is just right of the first edge is enclosed, seen from its end
unfoldable pub sense : List Edge → Bool
sense [] = false
sense (e ∷ []) = false
sense (e ∷ f ∷ es) = xor (parity (e ∷ f ∷ es) e.other) (xor (next_bend e.one e.other f.other) (upward e))

-- an edge clear of a list meets none of it
clear_meets : (e f : Edge) (es : List Edge) → clear_of e es ≡ true → In f es → meet f e ≡ false
unfolding clear_of
clear_meets e f [] h m = absurd m
clear_meets e f (g ∷ es) h (inl k) = meet_comm f e ∙ ap (meet e) k ∙ not-true (meet e g) (and_parts (not (meet e g)) (clear_of e es) h).0
clear_meets e f (g ∷ es) h (inr m) = clear_meets e f es (and_parts (not (meet e g)) (clear_of e es) h).1 m

-- edges that add nothing between two corners
nothing_from : (p q : Corner) (es : List Edge) → ((f : Edge) → In f es → bend p q f ≡ false) → xors (bend p q) es ≡ false
nothing_from p q es h = xors_in (bend p q) (λ f. false) es h ∙ xors_never es

-- ON BY ONE EDGE
-- what the parities at the ends of an edge, and the bends on both its sides, say of the two senses
carried_on : (p q last next next₁ up up₁ : Bool) → xor p q ≡ xor last next₁ → xor next last ≡ xor up up₁ → xor p (xor next up) ≡ xor q (xor next₁ up₁)
carried_on p q last next next₁ up up₁ h k = grind arith

module _ (a b c d : Corner) (es : List Edge) where
  -- three edges, each from where the one before it ends, and others
  chain : List Edge
  chain = edge a b ∷ edge b c ∷ edge c d ∷ es

  -- between the ends of the second edge only its neighbours bend
  along_second : Closed chain → clear_of (edge b c) es ≡ true → xor (parity chain b) (parity chain c) ≡ xor (last_bend a b c) (next_bend b c d)
  unfolding chain xors
  along_second closed clear =
      parity_bends chain b c closed
      ∙ ap₂ xor (bend_last a b c)
      (ap₂ xor (bend_line b c (edge b c) (in_line_first b c) (in_line_second b c))
      (ap₂ xor (bend_next b c d) (nothing_from b c es (λ f m. bend_unmet b c f (clear_meets (edge b c) f es clear m))) ∙ xor_false_right (next_bend b c d)))

  -- so begun at the second edge the ring has the same sense
  chain_turned : Closed chain → ring_clear chain ≡ true → sense chain ≡ sense (edge b c ∷ edge c d ∷ es ++ edge a b ∷ [])
  unfolding chain sense
  chain_turned closed clear =
      let begun = ring_begun (edge a b) (edge b c) (edge c d) es clear in
      let joined = neighbours_parts (edge a b) (edge b c) begun.first in
      carried_on (parity chain b) (parity chain c) (last_bend a b c) (next_bend a b c) (next_bend b c d) (upward (edge a b)) (upward (edge b c))
      (along_second closed begun.clear) (round_corner a b c joined.1 joined.2)
      ∙ ap (λ t. xor t (xor (next_bend b c d) (upward (edge b c)))) (xors_turned (λ e. crosses e c) (edge a b ∷ []) (edge b c ∷ edge c d ∷ es))

-- the sense stays when the ring is begun one edge later
sense_on : (e f g : Edge) (es : List Edge) → Closed (e ∷ f ∷ g ∷ es) → ring_clear (e ∷ f ∷ g ∷ es) ≡ true →
    sense (e ∷ f ∷ g ∷ es) ≡ sense (f ∷ g ∷ es ++ e ∷ [])
unfolding chain
sense_on e f g es closed clear =
    subst₂ (λ f₁ g₁. Closed (e ∷ f₁ ∷ g₁ ∷ es) → ring_clear (e ∷ f₁ ∷ g₁ ∷ es) ≡ true → sense (e ∷ f₁ ∷ g₁ ∷ es) ≡ sense (f₁ ∷ g₁ ∷ es ++ e ∷ [])) to_f to_g
    (chain_turned e.one e.other f.other g.other es) closed clear
  where
    begun : Begun e f g es
    begun = ring_begun e f g es clear

    to_f : edge e.other f.other ≡ f
    to_f = ap (λ c. edge c f.other) (neighbours_parts e f begun.first).0

    to_g : edge f.other g.other ≡ g
    to_g = ap (λ c. edge c g.other) (neighbours_parts f g begun.second).0

-- one edge on, a ring is a ring, with its sense
ring_on : (e : Edge) (es : List Edge) → Ring (e ∷ es) → Ring (es ++ e ∷ []) × (sense (es ++ e ∷ []) ≡ sense (e ∷ es))
ring_on e [] ring = absurd (omega (arith, ring.long))
ring_on e (f ∷ []) ring = absurd (omega (arith, ring.long))
ring_on e (f ∷ g ∷ es) ring = (
  record {
    closed = closed_turned (e ∷ []) (f ∷ g ∷ es) ring.closed;
    clear = ring_turned e f g es ring.clear;
    long = omega (arith, length-append es (e ∷ []));
  },
  sym (sense_on e f g es ring.closed ring.clear),
)

-- ANY EDGE FIRST
pub ring_at : (before : List Edge) (e : Edge) (after : List Edge) → Ring (before ++ e ∷ after) →
    Ring (e ∷ after ++ before) × (sense (e ∷ after ++ before) ≡ sense (before ++ e ∷ after))
ring_at [] e after ring = subst (λ es. Ring (e ∷ es) × (sense (e ∷ es) ≡ sense (e ∷ after))) (sym (append-nil after)) (ring, refl)
ring_at (f ∷ before) e after ring =
    let step = ring_on f (before ++ e ∷ after) ring in
    let behind = append_assoc before (e ∷ after) (f ∷ []) in
    let rest = ring_at before e (after ++ f ∷ []) (subst Ring behind step.0) in
    subst (λ es. Ring (e ∷ es) × (sense (e ∷ es) ≡ sense (f ∷ before ++ e ∷ after))) (append_assoc after (f ∷ []) before)
    (rest.0, rest.1 ∙ sym (ap sense behind) ∙ step.1)

-- AMID AN EDGE
-- what holds of all but the last and of the last
all_of : (g : Edge) (es : List Edge) (P : Edge → Type 0) → ((f : Edge) → In f (all_but_last (g ∷ es)) → P f) → P (last_edge g es) → (f : Edge) →
    In f (g ∷ es) → P f
unfolding all_but_last last_edge
all_of g [] P h k f (inl e) = subst P (sym e) k
all_of g [] P h k f (inr m) = absurd m
all_of g (g₁ ∷ es) P h k f (inl e) = h f (inl e)
all_of g (g₁ ∷ es) P h k f (inr m) = all_of g₁ es P (λ f₁ m₁. h f₁ (inr m₁)) k f m

-- the parity at a corner amid the first edge: between there and the edge's end only the next edge bends
seen_amid : (p q next up : Bool) → xor p q ≡ next → xor p up ≡ xor q (xor next up)
seen_amid p q next up h = grind arith

-- the sense, seen amid the first edge
amid_first : (e f g : Edge) (es : List Edge) (m : Corner) → Ring (e ∷ f ∷ g ∷ es) → on_edge e m ≡ true → same_corner m e.one ≡ false →
    same_corner m e.other ≡ false →
    xor (parity (e ∷ f ∷ g ∷ es) m) (upward e) ≡ sense (e ∷ f ∷ g ∷ es)
unfolding sense xors
amid_first e f g es m ring on begun off =
    seen_amid (parity (e ∷ f ∷ g ∷ es) m) (parity (e ∷ f ∷ g ∷ es) b) (next_bend a b f.other) (upward e) to_end
  where
    a : Corner
    a = e.one

    b : Corner
    b = e.other

    first : Begun e f g es
    first = ring_begun e f g es ring.clear

    own : bend m b e ≡ false
    own = bend_line m b e (piece_line a b m on off a ∙ in_line_first a b) (in_line_second m b)

    behind : bend m b f ≡ next_bend a b f.other
    behind =
        sym (ap (λ c. bend m b (edge c f.other)) (neighbours_parts e f first.first).0) ∙ bend_next m b f.other ∙ piece_bend a b m on off f.other

    before : bend m b (last_edge g es) ≡ false
    before =
        let z = last_edge g es in
        let p = neighbours_parts z e first.back in
        let joint = ap (edge z.one) p.0 in
        ap (bend m b) joint
        ∙ bend_unmet m b (edge z.one a) (piece_before z.one a b m on begun off (sym (ap (λ t. on_edge t b) joint) ∙ p.1) p.2)

    others : xors (bend m b) (g ∷ es) ≡ false
    others =
        nothing_from m b (g ∷ es)
        (all_of g es (λ h. bend m b h ≡ false) (λ h k. bend_unmet m b h
        (piece_unmet a b m on off h (clear_meets e h (all_but_last (g ∷ es)) first.apart k))) before)

    to_end : xor (parity (e ∷ f ∷ g ∷ es) m) (parity (e ∷ f ∷ g ∷ es) b) ≡ next_bend a b f.other
    to_end =
        parity_bends (e ∷ f ∷ g ∷ es) m b ring.closed ∙ ap₂ xor own (ap₂ xor behind others ∙ xor_false_right (next_bend a b f.other))

-- the same for every ring
amid_begun : (e : Edge) (es : List Edge) (m : Corner) → Ring (e ∷ es) → on_edge e m ≡ true → same_corner m e.one ≡ false →
    same_corner m e.other ≡ false →
    xor (parity (e ∷ es) m) (upward e) ≡ sense (e ∷ es)
amid_begun e [] m ring on begun off = absurd (omega (arith, ring.long))
amid_begun e (f ∷ []) m ring on begun off = absurd (omega (arith, ring.long))
amid_begun e (f ∷ g ∷ es) m ring on begun off = amid_first e f g es m ring on begun off

-- the sense is seen amid every edge
pub amid_sense : (es : List Edge) (e : Edge) (m : Corner) → Ring es → In e es → on_edge e m ≡ true → same_corner m e.one ≡ false →
    same_corner m e.other ≡ false →
    xor (parity es m) (upward e) ≡ sense es
amid_sense es e m ring here on begun off =
    let w = split_in e es here in
    let turned = ring_at w.0 e w.1 (subst Ring w.2 ring) in
    ap (λ t. xor t (upward e)) (ap (λ fs. parity fs m) w.2 ∙ xors_turned (λ f. crosses f m) w.0 (e ∷ w.1))
    ∙ amid_begun e (w.1 ++ w.0) m turned.0 on begun off ∙ turned.1 ∙ sym (ap sense w.2)
