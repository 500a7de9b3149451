-- Two edges that have a point in common meet: they cross over, or an end of the one is on the other.
use Rattle.std.proofs.Common.{◌≡◌, ℕ, ◌<◌, Bool, true, ◌&&◌, ◌⊎◌, sym, ap, ◌∙◌, inl, inr, ⊎_elim, arith}
use Rattle.std.proofs.lemmas.Bool.{cases_eq, cases_order, and_parts, and_from, eqb-true, lt-ltb}
use Rattle.std.proofs.lemmas.Bool.Decides.{nat_tests}
use Rattle.plane.specs.Lists.{or}
use Rattle.plane.specs.Corners.{Corner, lefts, rights, in_line, between}
use Rattle.plane.specs.Edges.{Edge, edge, on_edge, cross_over, meet}
use Rattle.plane.specs.Parity.{touches}
use Rattle.plane.proofs.Booleans.{or_left, or_right, or_cases}
use Rattle.plane.proofs.Turns.{Balance, balance}
use Rattle.plane.proofs.Bands.{opposite}
use Rattle.plane.proofs.Reversal.{parts}
use Rattle.plane.proofs.Incidence.{between_cases, on_line, on_level}
use Rattle.plane.proofs.Proportion.{other_in_line, one_in_line, both_left, both_right}

-- m is on the edge from a to b, and on that from p to q
pub record Common (a b p q m : Corner) : Type 0 where
  pub line : lefts a b m ≡ rights a b m
  pub line₁ : lefts p q m ≡ rights p q m
  pub held_x : between a.x b.x m.x ≡ true
  pub held_y : between a.y b.y m.y ≡ true
  pub held_x₁ : between p.x q.x m.x ≡ true
  pub held_y₁ : between p.y q.y m.y ≡ true

common : (e f : Edge) (m : Corner) → on_edge e m ≡ true → on_edge f m ≡ true → Common e.one e.other f.one f.other m
common e f m h k =
    let u = and_parts (in_line e.one e.other m) (between e.one.x e.other.x m.x && between e.one.y e.other.y m.y) h in
    let v = and_parts (in_line f.one f.other m) (between f.one.x f.other.x m.x && between f.one.y f.other.y m.y) k in
    let s = and_parts (between e.one.x e.other.x m.x) (between e.one.y e.other.y m.y) u.1 in
    let t = and_parts (between f.one.x f.other.x m.x) (between f.one.y f.other.y m.y) v.1 in
    record {
      line = eqb-true (lefts e.one e.other m) (rights e.one e.other m) u.0;
      line₁ = eqb-true (lefts f.one f.other m) (rights f.one f.other m) v.0;
      held_x = s.0;
      held_y = s.1;
      held_x₁ = t.0;
      held_y₁ = t.1;
    }

turned_round : (a b p q m : Corner) → Common a b p q m → Common p q a b m
turned_round a b p q m c =
    record { line = c.line₁; line₁ = c.line; held_x = c.held_x₁; held_y = c.held_y₁; held_x₁ = c.held_x; held_y₁ = c.held_y }

-- THE ENDS OF THE ONE EDGE seen from the other: an end is m, or they are on the two sides, or both in line
abbrev Seen : (a b m : Corner) → (la ra lb rb : ℕ) → Type 0
Seen a b m la ra lb rb = ((a ≡ m) ⊎ (m ≡ b)) ⊎ ((opposite la ra lb rb ≡ true) ⊎ ((la ≡ ra) × (lb ≡ rb)))

module _ (a b p q m : Corner) (c : Common a b p q m) where
  seen : Seen a b m (lefts p q a) (rights p q a) (lefts p q b) (rights p q b)
  seen = ⊎_elim one_zero (⊎_elim one_right one_left) (cases_order la ra)
    where
      la : ℕ
      la = lefts p q a

      ra : ℕ
      ra = rights p q a

      lb : ℕ
      lb = lefts p q b

      rb : ℕ
      rb = rights p q b

      one_zero : la ≡ ra → Seen a b m la ra lb rb
      one_zero e = ⊎_elim (λ z. inr (inr (e, z))) (λ d. inl (inl d)) (other_in_line a b m p q c.line c.line₁ e)

      other_zero : lb ≡ rb → Seen a b m la ra lb rb
      other_zero e = ⊎_elim (λ z. inr (inr (z, e))) (λ d. inl (inr d)) (one_in_line a b m p q c.line c.line₁ e)

      one_right : la < ra → Seen a b m la ra lb rb
      one_right h =
          ⊎_elim other_zero
          (⊎_elim (λ k. inl (inl (both_right a b m p q c.line c.line₁ c.held_x c.held_y h k)))
          (λ k. inr (inl (or_right _ _ (and_from _ _ (lt-ltb la ra h) (lt-ltb rb lb k))))))
          (cases_order lb rb)

      one_left : ra < la → Seen a b m la ra lb rb
      one_left h =
          ⊎_elim other_zero
          (⊎_elim (λ k. inr (inl (or_left _ _ (and_from _ _ (lt-ltb ra la h) (lt-ltb lb rb k)))))
          (λ k. inl (inl (both_left a b m p q c.line c.line₁ c.held_x c.held_y h k))))
          (cases_order lb rb)

-- ALL IN LINE
-- two ranges with a number in common: an end of the one is in the other
overlap :
    (a b p q m : ℕ) → between a b m ≡ true → between p q m ≡ true → or (or (between a b p) (between a b q)) (or (between p q a) (between p q b)) ≡ true
overlap a b p q m h k = grind (arith, nat_tests)

-- a range of one number has no other in it
only_one : (a b m : ℕ) → a ≡ b → between a b m ≡ true → a ≡ m
only_one a b m e h = ⊎_elim (λ k. omega arith) (λ k. omega arith) (between_cases a b m h)

-- one of four tests, each of which brings another
one_of_four :
    (s t u v s₁ t₁ u₁ v₁ : Bool) → (s ≡ true → s₁ ≡ true) → (t ≡ true → t₁ ≡ true) → (u ≡ true → u₁ ≡ true) → (v ≡ true → v₁ ≡ true) →
    or (or s t) (or u v) ≡ true → or (or s₁ t₁) (or u₁ v₁) ≡ true
one_of_four s t u v s₁ t₁ u₁ v₁ hs ht hu hv h =
    ⊎_elim (λ k. or_left (or s₁ t₁) (or u₁ v₁) (⊎_elim (λ d. or_left s₁ t₁ (hs d)) (λ d. or_right s₁ t₁ (ht d)) (or_cases s t k)))
    (λ k. or_right (or s₁ t₁) (or u₁ v₁) (⊎_elim (λ d. or_left u₁ v₁ (hu d)) (λ d. or_right u₁ v₁ (hv d)) (or_cases u v k)))
    (or_cases (or s t) (or u v) h)

module _
    (a b p q m : Corner) (c : Common a b p q m) (at_a : lefts p q a ≡ rights p q a) (at_b : lefts p q b ≡ rights p q b)
    (at_p : lefts a b p ≡ rights a b p) (at_q : lefts a b q ≡ rights a b q)
  where
    -- neither edge is level
    steep : (a.y ≡ b.y → ⊥) → (p.y ≡ q.y → ⊥) → touches p q (edge a b) ≡ true
    steep s t =
        one_of_four (between a.y b.y p.y) (between a.y b.y q.y) (between p.y q.y a.y) (between p.y q.y b.y)
        (on_edge (edge a b) p) (on_edge (edge a b) q) (on_edge (edge p q) a) (on_edge (edge p q) b) (λ h. on_line a b p at_p h s)
        (λ h. on_line a b q at_q h s) (λ h. on_line p q a at_a h t) (λ h. on_line p q b at_b h t)
        (overlap a.y b.y p.y q.y m.y c.held_y c.held_y₁)

    -- both are
    level : a.y ≡ b.y → p.y ≡ q.y → touches p q (edge a b) ≡ true
    level s t =
        let ha : a.y ≡ m.y = only_one a.y b.y m.y s c.held_y in
        let hp : p.y ≡ m.y = only_one p.y q.y m.y t c.held_y₁ in
        one_of_four (between a.x b.x p.x) (between a.x b.x q.x) (between p.x q.x a.x) (between p.x q.x b.x)
        (on_edge (edge a b) p) (on_edge (edge a b) q) (on_edge (edge p q) a) (on_edge (edge p q) b)
        (on_level a b p (omega arith) (omega arith)) (on_level a b q (omega arith) (omega arith)) (on_level p q a (omega arith) (omega arith))
        (on_level p q b (omega arith) (omega arith)) (overlap a.x b.x p.x q.x m.x c.held_x c.held_x₁)

    -- one of them is
    level_steep : a.y ≡ b.y → (p.y ≡ q.y → ⊥) → on_edge (edge p q) a ≡ true
    level_steep s t = on_line p q a at_a (ap (between p.y q.y) (only_one a.y b.y m.y s c.held_y) ∙ c.held_y₁) t

    steep_level : (a.y ≡ b.y → ⊥) → p.y ≡ q.y → on_edge (edge a b) p ≡ true
    steep_level s t = on_line a b p at_p (ap (between a.y b.y) (only_one p.y q.y m.y t c.held_y₁) ∙ c.held_y) s

    in_one_line : touches p q (edge a b) ≡ true
    in_one_line =
        ⊎_elim
        (λ s.
        ⊎_elim (level s)
        (λ t. or_right (or (on_edge (edge a b) p) (on_edge (edge a b) q)) _ (or_left (on_edge (edge p q) a) (on_edge (edge p q) b) (level_steep s t)))
        (cases_eq p.y q.y))
        (λ s.
        ⊎_elim
        (λ t. or_left _ (or (on_edge (edge p q) a) (on_edge (edge p q) b)) (or_left (on_edge (edge a b) p) (on_edge (edge a b) q) (steep_level s t)))
        (steep s) (cases_eq p.y q.y))
        (cases_eq a.y b.y)

-- A COMMON POINT
-- where the ends of the one edge are in line with the other, those of the other are not on the two sides of it
unbalanced : (la ra lb rb lp rp lq rq : ℕ) → Balance la ra lb rb lp rp lq rq → lp ≡ rp → lq ≡ rq → opposite la ra lb rb ≡ true → ⊥
unbalanced la ra lb rb lp rp lq rq bal p q h = grind (arith, nat_tests)

-- two edges with a point in common that is an end of neither cross over, or are all in line
pub met_amid :
    (e f : Edge) (m : Corner) → on_edge e m ≡ true → on_edge f m ≡ true → (e.one ≡ m → ⊥) → (m ≡ e.other → ⊥) → (f.one ≡ m → ⊥) →
    (m ≡ f.other → ⊥) →
    (cross_over e f ≡ true) ⊎ ((lefts e.one e.other f.one ≡ rights e.one e.other f.one) × (lefts e.one e.other f.other ≡ rights e.one e.other f.other))
met_amid e f m h k no_a no_b no_p no_q =
    ⊎_elim (λ d. absurd (⊎_elim no_a no_b d))
    (λ s. ⊎_elim (λ d. absurd (⊎_elim no_p no_q d)) (λ t. no_end s t) (seen p q a b m (turned_round a b p q m c))) (seen a b p q m c)
  where
    a : Corner
    a = e.one

    b : Corner
    b = e.other

    p : Corner
    p = f.one

    q : Corner
    q = f.other

    c : Common a b p q m
    c = common e f m h k

    no_end :
        (opposite (lefts p q a) (rights p q a) (lefts p q b) (rights p q b) ≡ true) ⊎ ((lefts p q a ≡ rights p q a) × (lefts p q b ≡ rights p q b)) →
        (opposite (lefts a b p) (rights a b p) (lefts a b q) (rights a b q) ≡ true) ⊎ ((lefts a b p ≡ rights a b p) × (lefts a b q ≡ rights a b q)) →
        (cross_over e f ≡ true) ⊎ ((lefts a b p ≡ rights a b p) × (lefts a b q ≡ rights a b q))
    no_end (inl s) (inl t) = inl (and_from (parts e f) (parts f e) t s)
    no_end s (inr t) = inr t
    no_end (inr s) (inl t) =
        absurd
        (unbalanced (lefts a b p) (rights a b p) (lefts a b q) (rights a b q) (lefts p q a) (rights p q a) (lefts p q b) (rights p q b) (balance p q a b)
        s.0 s.1 t)

-- two edges with a point in common meet
pub met_at : (e f : Edge) (m : Corner) → on_edge e m ≡ true → on_edge f m ≡ true → meet e f ≡ true
met_at e f m h k =
    ⊎_elim first_end (λ s. ⊎_elim second_end (λ t. no_end s t) (seen p q a b m (turned_round a b p q m c))) (seen a b p q m c)
  where
    a : Corner
    a = e.one

    b : Corner
    b = e.other

    p : Corner
    p = f.one

    q : Corner
    q = f.other

    c : Common a b p q m
    c = common e f m h k

    touched : touches p q e ≡ true → meet e f ≡ true
    touched t = or_right (cross_over e f) (touches p q e) t

    on_first : or (on_edge e p) (on_edge e q) ≡ true → meet e f ≡ true
    on_first t = touched (or_left (or (on_edge e p) (on_edge e q)) (or (on_edge f a) (on_edge f b)) t)

    on_second : or (on_edge f a) (on_edge f b) ≡ true → meet e f ≡ true
    on_second t = touched (or_right (or (on_edge e p) (on_edge e q)) (or (on_edge f a) (on_edge f b)) t)

    first_end : (a ≡ m) ⊎ (m ≡ b) → meet e f ≡ true
    first_end (inl d) = on_second (or_left (on_edge f a) (on_edge f b) (ap (on_edge f) d ∙ k))
    first_end (inr d) = on_second (or_right (on_edge f a) (on_edge f b) (ap (on_edge f) (sym d) ∙ k))

    second_end : (p ≡ m) ⊎ (m ≡ q) → meet e f ≡ true
    second_end (inl d) = on_first (or_left (on_edge e p) (on_edge e q) (ap (on_edge e) d ∙ h))
    second_end (inr d) = on_first (or_right (on_edge e p) (on_edge e q) (ap (on_edge e) (sym d) ∙ h))

    no_end :
        (opposite (lefts p q a) (rights p q a) (lefts p q b) (rights p q b) ≡ true) ⊎ ((lefts p q a ≡ rights p q a) × (lefts p q b ≡ rights p q b)) →
        (opposite (lefts a b p) (rights a b p) (lefts a b q) (rights a b q) ≡ true) ⊎ ((lefts a b p ≡ rights a b p) × (lefts a b q ≡ rights a b q)) →
        meet e f ≡ true
    no_end (inl s) (inl t) = or_left (cross_over e f) (touches p q e) (and_from (parts e f) (parts f e) t s)
    no_end (inl s) (inr t) =
        absurd
        (unbalanced (lefts p q a) (rights p q a) (lefts p q b) (rights p q b) (lefts a b p) (rights a b p) (lefts a b q) (rights a b q) (balance a b p q)
        t.0 t.1 s)
    no_end (inr s) (inl t) =
        absurd
        (unbalanced (lefts a b p) (rights a b p) (lefts a b q) (rights a b q) (lefts p q a) (rights p q a) (lefts p q b) (rights p q b) (balance p q a b)
        s.0 s.1 t)
    no_end (inr s) (inr t) = touched (in_one_line a b p q m c s.0 s.1 t.0 t.1)
