-- Contacts add up: of several edges the closest contact counts.
use Rattle.std.proofs.Common.{◌≡◌, ℕ, Bool, true, false, ◌&&◌, ltb, ◌⊎◌, List, [], ◌∷◌, sym, refl, ap, ◌∙◌, inl, inr, ⊎_elim, arith}
use Rattle.std.proofs.lemmas.Bool.Decides.{nat_tests}
use Rattle.std.proofs.lemmas.Bool.{and_left, and_right}
use Rattle.std.specs.Ordering.{ord_max}
use Rattle.plane.specs.Lists.{or, any}
use Rattle.plane.specs.Corners.{Corner, same_corner, left_turn, right_turn}
use Rattle.plane.specs.Edges.{Edge, cross_over, meet}
use Rattle.ground.specs.Shapes.{Shape, edges}
use Rattle.ground.proofs.Clearance.{one_corner}
use Rattle.plane.specs.Extents.{ranges_meet}
use Rattle.plane.proofs.Booleans.{or_parts, or_from, or_cases}
use Rattle.plane.proofs.Extents.{apart_unmet}
use Rattle.relate.specs.contracts.contact.ContactOrd.TheImpl.{cmp-value}
use Rattle.relate.specs.declared.contact.Contact.{Contact}
use Rattle.relate.specs.declared.contact.Contact.TheVariants.{Crossing, Meeting, Clear}
use Rattle.relate.specs.Contacts.{contact, joined, shares_corner}
use Rattle.relate.specs.Finding.{misses}
use Rattle.relate.specs.Fitting.{bounds_of}
use Rattle.relate.specs.Rings.{edges_round}
use Rattle.relate.proofs.Rounds.{goes_on, round}
use Rattle.relate.proofs.Outside.{missed_cross, missed_meet}

contact_or : (a b c d : Bool) → contact (or a b) (or c d) ≡ joined (contact a c) (contact b d)
contact_or true b c d = refl
contact_or false true true d = refl
contact_or false false true true = refl
contact_or false false true false = refl
contact_or false b false d = refl

joined_assoc : (a b c : Contact) → joined (joined a b) c ≡ joined a (joined b c)
joined_assoc Crossing b c = refl
joined_assoc Meeting Crossing c = refl
joined_assoc Meeting Meeting Crossing = refl
joined_assoc Meeting Meeting Meeting = refl
joined_assoc Meeting Meeting Clear = refl
joined_assoc Meeting Clear c = refl
joined_assoc Clear b c = refl

joined_clear : (k : Contact) → joined k Clear ≡ k
joined_clear Crossing = refl
joined_clear Meeting = refl
joined_clear Clear = refl

joined_comm : (a b : Contact) → joined a b ≡ joined b a
joined_comm Crossing Crossing = refl
joined_comm Crossing Meeting = refl
joined_comm Crossing Clear = refl
joined_comm Meeting Crossing = refl
joined_comm Meeting Meeting = refl
joined_comm Meeting Clear = refl
joined_comm Clear Crossing = refl
joined_comm Clear Meeting = refl
joined_comm Clear Clear = refl

-- the greater of two contacts is the closer one
pub max_joined : (a b : Contact) → ord_max cmp-value.it a b ≡ joined a b
max_joined Crossing Crossing = refl
max_joined Crossing Meeting = refl
max_joined Crossing Clear = refl
max_joined Meeting Crossing = refl
max_joined Meeting Meeting = refl
max_joined Meeting Clear = refl
max_joined Clear Crossing = refl
max_joined Clear Meeting = refl
max_joined Clear Clear = refl

-- a crossing settles it
pub crossing_settles : (k m : Contact) → k ≡ Crossing → k ≡ joined k m
crossing_settles k m h = h ∙ sym (ap (λ j. joined j m) h)

-- the contact with edges of which f says that they are crossed over, and g that they are met
abbrev pub contact_of : (f g : Edge → Bool) → List Edge → Contact
contact_of f g es = contact (any f es) (any g es)

module _ (f g : Edge → Bool) where
  more : (e : Edge) (es : List Edge) → contact_of f g (e ∷ es) ≡ joined (contact (f e) (g e)) (contact_of f g es)
  unfolding any
  more e es = contact_or (f e) (any f es) (g e) (any g es)

  pub contact_begins : (s : Shape) → joined Clear (contact_of f g (edges_round s)) ≡ contact_of f g (edges s)
  contact_begins = round joined joined_assoc (λ e. contact (f e) (g e)) (contact_of f g) more joined_comm

  -- gone round from behind the closing edge on, and that one last
  pub contact_closed : (e : Edge) (es : List Edge) (s : Shape) → edges_round s ≡ e ∷ es → joined (contact_of f g es) (contact (f e) (g e)) ≡ contact_of f g (edges s)
  contact_closed e es s h = joined_comm (contact_of f g es) (contact (f e) (g e)) ∙ sym (more e es) ∙ ap (contact_of f g) (sym h) ∙ contact_begins s

  pub contact_empty : (s : Shape) → edges_round s ≡ [] → Clear ≡ contact_of f g (edges s)
  unfolding any
  contact_empty s h = ap (contact_of f g) (sym h) ∙ contact_begins s

  pub contact_goes_on : (k j : Contact) (e : Edge) (es : List Edge) → j ≡ joined k (contact (f e) (g e)) →
      joined j (contact_of f g es) ≡ joined k (contact_of f g (e ∷ es))
  contact_goes_on k j e es is =
      ap (λ i. joined i (contact_of f g es)) is ∙ goes_on joined joined_assoc (λ d. contact (f d) (g d)) (contact_of f g) more k e es

  -- an edge that is neither crossed over nor met changes nothing
  pub contact_skips : (k : Contact) (e : Edge) (es : List Edge) → (f e ≡ false) × (g e ≡ false) → joined k (contact_of f g es) ≡ joined k (contact_of f g (e ∷ es))
  contact_skips k e es (uncrossed, unmet) =
      contact_goes_on k k e es (sym (ap (λ x. joined k (contact x (g e))) uncrossed ∙ ap (λ x. joined k (contact false x)) unmet ∙ joined_clear k))

  pub contact_stops : (k j : Contact) (e : Edge) (es : List Edge) → j ≡ joined k (contact (f e) (g e)) → j ≡ Crossing → j ≡ joined k (contact_of f g (e ∷ es))
  contact_stops k j e es is crossed = crossing_settles j _ crossed ∙ contact_goes_on k j e es is

  pub contact_ends : (k : Contact) → k ≡ joined k (contact_of f g [])
  unfolding any
  contact_ends k = sym (joined_clear k)

-- an edge outside the box of a ring has no contact with it
pub contact_missed : (t : Shape) (e : Edge) → misses (bounds_of t) e ≡ true → Clear ≡ contact_of (cross_over e) (meet e) (edges t)
unfolding edges any
contact_missed [] e out = refl
contact_missed (c ∷ cs) e out =
    sym (ap (λ x. contact x (any (meet e) (edges (c ∷ cs)))) (missed_cross (c ∷ cs) e out) ∙ ap (contact false) (missed_meet (c ∷ cs) e out))

-- edges at other heights do not meet
pub level_apart : (e f : Edge) → ranges_meet e.one.y e.other.y f.one.y f.other.y ≡ false → (cross_over e f ≡ false) × (meet e f ≡ false)
level_apart e f h =
    let unmet : meet e f ≡ false = apart_unmet e f (and_right (ranges_meet e.one.x e.other.x f.one.x f.other.x) _ h) in
    ((or_parts (cross_over e f) _ unmet).0, unmet)

level : (m n : ℕ) → m ≡ n → ltb m n ≡ false
level m n h = grind (arith, nat_tests)

-- edges that share a corner do not cross over: it is on neither side of the other
module _ (e f : Edge) where
  abbrev lefthand : Corner → Bool
  lefthand c = left_turn e.one e.other c

  abbrev righthand : Corner → Bool
  righthand c = right_turn e.one e.other c

  aside_none : (c : Corner) → (e.one ≡ c) ⊎ (e.other ≡ c) → (lefthand c ≡ false) × (righthand c ≡ false)
  aside_none c (inl h) = (ap lefthand (sym h) ∙ level _ _ (omega arith), ap righthand (sym h) ∙ level _ _ (omega arith))
  aside_none c (inr h) = (ap lefthand (sym h) ∙ level _ _ (omega arith), ap righthand (sym h) ∙ level _ _ (omega arith))

  one_aside : (lefthand f.one ≡ false) × (righthand f.one ≡ false) → cross_over e f ≡ false
  one_aside w =
      and_left (or (lefthand f.one && righthand f.other) (righthand f.one && lefthand f.other)) _
      (or_from _ _ (and_left (lefthand f.one) (righthand f.other) w.0) (and_left (righthand f.one) (lefthand f.other) w.1))

  other_aside : (lefthand f.other ≡ false) × (righthand f.other ≡ false) → cross_over e f ≡ false
  other_aside w =
      and_left (or (lefthand f.one && righthand f.other) (righthand f.one && lefthand f.other)) _
      (or_from _ _ (and_right (lefthand f.one) (righthand f.other) w.1) (and_right (righthand f.one) (lefthand f.other) w.0))

  shared_uncrossed : shares_corner e f ≡ true → cross_over e f ≡ false
  shared_uncrossed h =
      ⊎_elim (λ k. one_aside (aside_none f.one (inl (one_corner e.one f.one k))))
      (λ r.
      ⊎_elim (λ k. other_aside (aside_none f.other (inl (one_corner e.one f.other k))))
      (λ v.
      ⊎_elim (λ k. one_aside (aside_none f.one (inr (one_corner e.other f.one k))))
      (λ k. other_aside (aside_none f.other (inr (one_corner e.other f.other k))))
      (or_cases (same_corner e.other f.one) (same_corner e.other f.other) v))
      (or_cases (same_corner e.one f.other) _ r))
      (or_cases (same_corner e.one f.one) _ h)

-- so where they meet, they meet
pub contact_shared : (e f : Edge) → shares_corner e f ≡ true → meet e f ≡ true → Meeting ≡ contact (cross_over e f) (meet e f)
contact_shared e f h met = sym (ap (λ x. contact x (meet e f)) (shared_uncrossed e f h) ∙ ap (contact false) met)
