-- Along a piece of an edge nothing changes: where no edge of a closed list crosses the edge over or ends on the piece, the parities at its ends agree.
use Rattle.std.proofs.Common.{◌≡◌, ℕ, ◌+◌, ◌*◌, true, false, not, ◌&&◌, List, sym, ap, ◌∙◌, ap₂, ⊎_elim, arith}
use native.Mathlib.Nat.{eq_of_mul-eq-mul_left}
use Rattle.std.proofs.lemmas.Bool.{cases_eq, and_parts, and_from, eqb-true, eq-eqb, not-true}
use Rattle.std.proofs.lemmas.Bool.Decides.{nat_tests}
use Rattle.plane.specs.Lists.{or}
use Rattle.plane.specs.Corners.{Corner, corner, grown, lefts, rights, in_line, between}
use Rattle.plane.specs.Edges.{Edge, edge, grown_edge, on_edge, cross_over}
use Rattle.plane.specs.Parity.{Closed, parity, touches, spoils}
use Rattle.plane.proofs.Booleans.{false_from, not_both, or_cases}
use Rattle.plane.proofs.Lists.{In, any_false_from}
use Rattle.plane.proofs.Products.{product_zero}
use Rattle.plane.proofs.Turns.{Balance, Weighed, balance, weighed_y, mirrored}
use Rattle.plane.proofs.Chains.{moved}
use Rattle.plane.proofs.Northward.{on_edge_mirrored}
use Rattle.plane.proofs.Growth.{in_line_grown, on_edge_grown, cross_over_grown, between_grown}
use Rattle.plane.proofs.Sides.{on_edge_parts}
use Rattle.plane.proofs.Incidence.{on_line}
use Rattle.plane.proofs.Reversal.{parts, cross_over_comm, between_comm}
use Rattle.plane.proofs.Meeting.{met_amid}
use Rattle.plane.proofs.Parity.{parity_kept}
use Rattle.plane.proofs.Crossings.{PointOfBoth, cross_point, uncrossed_ends, parts_off, one_on, other_on}

-- OVER PLAIN NUMBERS: m and n in line with a and b, which are at different heights; so a is in line with m and n
back_in_line : (la ra lb rb lm rm ln rn ay by my ny : ℕ) → Balance la ra lb rb lm rm ln rn → Weighed la ra lb rb lm rm ln rn ay by my ny → lm ≡ rm → ln ≡ rn →
    (ay ≡ by → ⊥) → la ≡ ra
back_in_line la ra lb rb lm rm ln rn ay by my ny bal wei hm hn steep =
    ⊎_elim (λ h. h) (λ h. absurd (steep h))
    (product_zero la ra ay by
    (omega (arith, bal, wei, ap (λ (z : ℕ). z * ay) same, ap (λ (z : ℕ). z * ny) hm, ap (λ (z : ℕ). z * my) hn)))
  where
    same : lb + ra ≡ rb + la
    same = omega arith

-- the edge's first corner is in line with two corners of the edge's line
in_line_back : (a b m n : Corner) → lefts a b m ≡ rights a b m → lefts a b n ≡ rights a b n → (a.y ≡ b.y → ⊥) → lefts m n a ≡ rights m n a
in_line_back a b m n hm hn steep =
    back_in_line (lefts m n a) (rights m n a) (lefts m n b) (rights m n b) (lefts a b m) (rights a b m) (lefts a b n) (rights a b n) a.y b.y m.y n.y
    (balance a b m n) (weighed_y a b m n) hm hn steep

-- three corners on one line that is not level are in line
pub collinear : (a b m n c : Corner) → lefts a b m ≡ rights a b m → lefts a b n ≡ rights a b n → lefts a b c ≡ rights a b c → (a.y ≡ b.y → ⊥) →
    lefts m n c ≡ rights m n c
collinear a b m n c hm hn hc steep =
    omega (arith, balance a c m n, in_line_back a b m n hm hn steep, in_line_back a b c n hc hn steep, in_line_back a b c m hc hm steep)

-- on such a line there is one corner at a height
pub one_at_height : (a b m n : Corner) → lefts a b m ≡ rights a b m → lefts a b n ≡ rights a b n → (a.y ≡ b.y → ⊥) → m.y ≡ n.y → m ≡ n
one_at_height a b m n hm hn steep e =
    ap₂ corner
    (⊎_elim (λ h. h) (λ h. absurd (steep h))
    (product_zero m.x n.x a.y b.y
    (omega (arith, hm, hn, ap (λ (z : ℕ). b.x * z) e, ap (λ (z : ℕ). z * a.x) e))))
    e

-- what is between two numbers that are between others is between those
between_within : (a b m n c : ℕ) → between a b m ≡ true → between a b n ≡ true → between m n c ≡ true → between a b c ≡ true
between_within a b m n c h k l = grind (arith, nat_tests)

-- and it is none of those, if the two are not
between_strictly : (a b m n c : ℕ) → between a b m ≡ true → between a b n ≡ true → between m n c ≡ true → (a ≡ m → ⊥) → (a ≡ n → ⊥) → a ≡ c → ⊥
between_strictly a b m n c h k l no_m no_n e = grind (arith, nat_tests)

-- what is on a piece of an edge that is not level is on the edge
pub on_within : (e : Edge) (m n c : Corner) → (e.one.y ≡ e.other.y → ⊥) → on_edge e m ≡ true → on_edge e n ≡ true → on_edge (edge m n) c ≡ true → on_edge e c ≡ true
on_within e m n c steep on_m on_n on_c = ⊎_elim point piece (cases_eq m.y n.y)
  where
    a : Corner
    a = e.one

    b : Corner
    b = e.other

    at_m : (in_line a b m ≡ true) × (between a.x b.x m.x ≡ true) × (between a.y b.y m.y ≡ true)
    at_m = on_edge_parts e m on_m

    at_n : (in_line a b n ≡ true) × (between a.x b.x n.x ≡ true) × (between a.y b.y n.y ≡ true)
    at_n = on_edge_parts e n on_n

    at_c : (in_line m n c ≡ true) × (between m.x n.x c.x ≡ true) × (between m.y n.y c.y ≡ true)
    at_c = on_edge_parts (edge m n) c on_c

    line_m : lefts a b m ≡ rights a b m
    line_m = eqb-true _ _ at_m.0

    line_n : lefts a b n ≡ rights a b n
    line_n = eqb-true _ _ at_n.0

    single : (u v w : ℕ) → between u v w ≡ true → u ≡ v → u ≡ w
    single u v w h e = grind (arith, nat_tests)

    -- a piece of one corner
    point : m.y ≡ n.y → on_edge e c ≡ true
    point h =
        let same = one_at_height a b m n line_m line_n steep h in
        ap (on_edge e) (sym (ap₂ corner (single m.x n.x c.x at_c.1 (ap (λ z. z.x) same)) (single m.y n.y c.y at_c.2 h))) ∙ on_m

    piece : (m.y ≡ n.y → ⊥) → on_edge e c ≡ true
    piece apart =
        on_line a b c
        (collinear m n a b c (collinear a b m n a line_m line_n (omega arith) steep) (collinear a b m n b line_m line_n (omega arith) steep)
        (eqb-true _ _ at_c.0) apart)
        (between_within a.y b.y m.y n.y c.y at_m.2 at_n.2 at_c.2) steep

-- so it is of any edge that is not a single corner
pub on_piece : (e : Edge) (m n c : Corner) → (e.one.x ≡ e.other.x → e.one.y ≡ e.other.y → ⊥) → on_edge e m ≡ true → on_edge e n ≡ true →
    on_edge (edge m n) c ≡ true → on_edge e c ≡ true
on_piece e m n c distinct on_m on_n on_c =
    ⊎_elim
    (λ level.
    sym (on_edge_mirrored e c)
    ∙ on_within (moved mirrored e) (mirrored m) (mirrored n) (mirrored c) (λ h. distinct h level) (on_edge_mirrored e m ∙ on_m) (on_edge_mirrored e n ∙ on_n)
    (on_edge_mirrored (edge m n) c ∙ on_c))
    (λ steep. on_within e m n c steep on_m on_n on_c) (cases_eq e.one.y e.other.y)

-- the corner is on the edge, at the height of neither end
pub record Amidst (e : Edge) (m : Corner) : Type 0 where
  pub on : on_edge e m ≡ true
  pub off_one : e.one.y ≡ m.y → ⊥
  pub off_other : e.other.y ≡ m.y → ⊥

-- such an edge is not level
pub amidst_steep : (e : Edge) (m : Corner) → Amidst e m → e.one.y ≡ e.other.y → ⊥
amidst_steep e m amid level = flat e.one.y e.other.y m.y (on_edge_parts e m amid.on).2 level amid.off_one
  where
    flat : (a b c : ℕ) → between a b c ≡ true → a ≡ b → (a ≡ c → ⊥) → ⊥
    flat a b c h e k = grind (arith, nat_tests)

module _
    (e : Edge) (m n : Corner) (at_m : Amidst e m) (at_n : Amidst e n) (es : List Edge) (uncut : (g : Edge) → In g es → cross_over g e ≡ false)
    (free : (g : Edge) → In g es → (on_edge (edge m n) g.one ≡ false) × (on_edge (edge m n) g.other ≡ false))
  where
    steep : e.one.y ≡ e.other.y → ⊥
    steep = amidst_steep e m at_m

    line : (z : Corner) → on_edge e z ≡ true → lefts e.one e.other z ≡ rights e.one e.other z
    line z on = eqb-true _ _ (on_edge_parts e z on).0

    -- an edge through an end of the piece that does not cross over is all in line with the piece
    through : (g : Edge) → In g es → (x : Corner) → Amidst e x → on_edge (edge m n) x ≡ true → on_edge g x ≡ true →
        (in_line m n g.one && in_line m n g.other) ≡ true
    through g i x at_x held on =
        ⊎_elim (λ h. absurd (not_both (cross_over g e) (cross_over_comm g e ∙ h) (uncut g i))) (λ h. and_from _ _ (lined g.one h.0) (lined g.other h.1))
        (met_amid e g x at_x.on on (λ d. at_x.off_one (ap (λ c. c.y) d)) (λ d. at_x.off_other (sym (ap (λ c. c.y) d)))
        (λ d. not_both (on_edge (edge m n) g.one) (ap (on_edge (edge m n)) d ∙ held) (free g i).0)
        (λ d. not_both (on_edge (edge m n) g.other) (ap (on_edge (edge m n)) (sym d) ∙ held) (free g i).1))
      where
        lined : (z : Corner) → lefts e.one e.other z ≡ rights e.one e.other z → in_line m n z ≡ true
        lined z h = eq-eqb _ _ (collinear e.one e.other m n z (line m at_m.on) (line n at_n.on) h steep)

    unspoiled : (g : Edge) → In g es → spoils m n g ≡ true → ⊥
    unspoiled g i h =
        let w = and_parts (touches m n g) (not (in_line m n g.one && in_line m n g.other)) h in
        let off = not-true (in_line m n g.one && in_line m n g.other) w.1 in
        ⊎_elim
        (λ k.
        ⊎_elim (λ on. not_both _ (through g i m at_m (one_on (edge m n)) on) off) (λ on. not_both _ (through g i n at_n (other_on (edge m n)) on) off)
        (or_cases (on_edge g m) (on_edge g n) k))
        (λ k.
        ⊎_elim (λ on. not_both (on_edge (edge m n) g.one) on (free g i).0) (λ on. not_both (on_edge (edge m n) g.other) on (free g i).1)
        (or_cases (on_edge (edge m n) g.one) (on_edge (edge m n) g.other) k))
        (or_cases (or (on_edge g m) (on_edge g n)) (or (on_edge (edge m n) g.one) (on_edge (edge m n) g.other)) w.0)

    -- an edge that crossed the piece over would cross the whole edge over
    uncrossed : (g : Edge) → In g es → cross_over g (edge m n) ≡ true → ⊥
    uncrossed g i h = met (cross_point g (edge m n) h)
      where
        met : PointOfBoth g (edge m n) → ⊥
        met (j, c, above, here, there) =
            ⊎_elim
            (λ k. not_both (cross_over g e) (cross_over_comm g e ∙ sym (cross_over_grown j above e g) ∙ k) (uncut g i))
            (λ k.
            not_both (parts (edge m n) g) (and_parts (parts g (edge m n)) (parts (edge m n) g) h).1
            (parts_off (edge m n) g.one g.other (eq-eqb _ _ (collinear e.one e.other m n g.one (line m at_m.on) (line n at_n.on) (lower g.one k.0) steep))))
            (met_amid (grown_edge j e) (grown_edge j g) c on_e here (λ d. off_one (ap (λ z. z.y) d)) (λ d. off_other (ap (λ z. z.y) (sym d)))
            (uncrossed_ends j above g (edge m n) c h there).0 (λ d. (uncrossed_ends j above g (edge m n) c h there).1 (sym d)))
          where
            A : Corner
            A = grown j e.one

            B : Corner
            B = grown j e.other

            held : between (j * m.y) (j * n.y) c.y ≡ true
            held = (on_edge_parts (grown_edge j (edge m n)) c there).2

            held_m : between (j * e.one.y) (j * e.other.y) (j * m.y) ≡ true
            held_m = between_grown j above e.one.y e.other.y m.y ∙ (on_edge_parts e m at_m.on).2

            held_n : between (j * e.one.y) (j * e.other.y) (j * n.y) ≡ true
            held_n = between_grown j above e.one.y e.other.y n.y ∙ (on_edge_parts e n at_n.on).2

            differ : (u v : ℕ) → (u ≡ v → ⊥) → j * u ≡ j * v → ⊥
            differ u v apart h = apart (eq_of_mul-eq-mul_left j above u v h)

            on_e : on_edge (grown_edge j e) c ≡ true
            on_e =
                on_within (grown_edge j e) (grown j m) (grown j n) c (differ e.one.y e.other.y steep) (on_edge_grown j above e m ∙ at_m.on)
                (on_edge_grown j above e n ∙ at_n.on) there

            off_one : j * e.one.y ≡ c.y → ⊥
            off_one =
                between_strictly (j * e.one.y) (j * e.other.y) (j * m.y) (j * n.y) c.y held_m held_n held
                (differ e.one.y m.y at_m.off_one) (differ e.one.y n.y at_n.off_one)

            off_other : j * e.other.y ≡ c.y → ⊥
            off_other =
                between_strictly (j * e.other.y) (j * e.one.y) (j * m.y) (j * n.y) c.y (between_comm (j * e.one.y) (j * e.other.y) (j * m.y) ∙ held_m)
                (between_comm (j * e.one.y) (j * e.other.y) (j * n.y) ∙ held_n) held (differ e.other.y m.y at_m.off_other) (differ e.other.y n.y at_n.off_other)

            lower : (z : Corner) → lefts A B (grown j z) ≡ rights A B (grown j z) → lefts e.one e.other z ≡ rights e.one e.other z
            lower z k = eqb-true _ _ (sym (in_line_grown j above e.one e.other z) ∙ eq-eqb _ _ k)

    -- ALONG THE EDGE the parity stays
    pub alongside : Closed es → parity es m ≡ parity es n
    alongside closed =
        ⊎_elim (λ h. ap (parity es) (one_at_height e.one e.other m n (line m at_m.on) (line n at_n.on) steep h))
        (λ apart.
        parity_kept es m n closed (any_false_from (spoils m n) es (λ g i. false_from (spoils m n g) (unspoiled g i)))
        (any_false_from (λ g. cross_over g (edge m n)) es (λ g i. false_from (cross_over g (edge m n)) (uncrossed g i))))
        (cases_eq m.y n.y)
