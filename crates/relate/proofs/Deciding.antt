-- The answer: contacts and sides tell the way, and boxes apart tell that two are apart.
use Rattle.std.proofs.Common.{◌≡◌, ℕ, ◌<◌, Bool, true, false, ltb, [], ◌∷◌, sym, refl, ap, ◌∙◌, subst, arith}
use Rattle.std.proofs.lemmas.Bool.Decides.{nat_tests}
use Rattle.std.proofs.lemmas.Bool.{false≢true, true≢false, and_right}
use Rattle.plane.specs.Lists.{or, pick, any}
use Rattle.plane.specs.Parity.{xors}
use Rattle.plane.proofs.Booleans.{or_from}
use Rattle.plane.proofs.Lists.{any_false_from, any_never}
use Rattle.ground.specs.Shapes.{Shape, edges, a_shape}
use Rattle.ground.specs.Boxes.{box_of, boxes_apart}
use Rattle.ground.specs.Statements.{crossing}
use Rattle.ground.specs.Ways.{Lies}
use Rattle.ground.specs.declared.bounding.Extent.{Extent}
use Rattle.relate.specs.Samples.{meeting, starts}
use Rattle.relate.specs.Statements.{WayFoundTells}
use Rattle.relate.specs.Finding.{found_at, found_along, found, way_found}
use Rattle.relate.specs.Fitting.{bounds_of}
use Rattle.relate.specs.Contacts.{contact, is_crossing}
use Rattle.relate.specs.Siding.{sides_along, both_sides, turned_sides, sides_both, way_so}
use Rattle.relate.specs.declared.contact.Contact.{Contact}
use Rattle.relate.specs.declared.contact.Contact.TheVariants.{Crossing}
use Rattle.relate.specs.declared.sides.Sides.{Sides}
use Rattle.relate.proofs.Beside.{none_seen}
use Rattle.relate.proofs.Outside.{apart_boxes}
use Rattle.relate.proofs.Finding.{way_found_lies}

-- ALONG BOTH RINGS, the second seen from its own side
pub along_both : (s t : Shape) (p q r u : Sides) → p ≡ both_sides none_seen (sides_along s t) → q ≡ turned_sides p → r ≡ both_sides q (sides_along t s) →
    u ≡ turned_sides r → u ≡ sides_both s t
unfolding found
along_both s t p q r u first turned second back =
    back ∙ ap turned_sides (second ∙ ap (λ v. both_sides v (sides_along t s)) (turned ∙ ap turned_sides first))

-- THE WAY
pub crossed_way : (s t : Shape) (k : Contact) → k ≡ contact (crossing s t) (meeting s t) → k ≡ Crossing → 5 ≡ way_found s t
unfolding way_found
crossed_way s t k is crossed = crossed_first (crossing s t) (meeting s t) _ (ap is_crossing (sym is ∙ crossed))
  where
    crossed_first : (a m : Bool) (n : ℕ) → is_crossing (contact a m) ≡ true → 5 ≡ pick a 5 n
    crossed_first true m n h = refl
    crossed_first false true n h = absurd (false≢true h)
    crossed_first false false n h = absurd (false≢true h)

pub told_way : (s t : Shape) (k : Contact) (p : Sides) → k ≡ contact (crossing s t) (meeting s t) → p ≡ sides_both s t → way_so k p ≡ way_found s t
unfolding way_found
told_way s t k p is sides =
    ap (λ j. way_so j p) is ∙ ap (way_so (contact (crossing s t) (meeting s t))) sides ∙ told (crossing s t) (meeting s t) (sides_both s t)
  where
    told : (a m : Bool) (q : Sides) →
        way_so (contact a m) q ≡ pick a 5 (pick q.both (pick q.own (pick q.other 5 3) (pick q.other 2 4)) (pick m 1 0))
    told true m q = refl
    told false true q = refl
    told false false q = refl

-- A ROW WITHOUT CORNERS is apart from every other
no_way : (a b m : Bool) (n : ℕ) → a ≡ false → b ≡ false → m ≡ false → pick a 5 (pick b n (pick m 1 0)) ≡ 0
no_way true b m n h k l = absurd (true≢false h)
no_way false true m n h k l = absurd (true≢false k)
no_way false false true n h k l = absurd (true≢false l)
no_way false false false n h k l = refl

-- nothing is inside it
none_inside : (s : Shape) (i : Bool) → found_along s [] i true ≡ false
unfolding found_along edges xors any
none_inside s i =
    any_false_from (λ e. or (found_at [] i true e e.one) false) (edges s)
    (λ e _. or_from (found_at [] i true e e.one) false (and_right (starts e e.one) _ (and_right _ _ refl)) refl)

-- and nothing is found along it
none_along : (t : Shape) → found_along [] t true true ≡ false
unfolding found_along edges any
none_along t = refl

none_first : (t : Shape) → way_found [] t ≡ 0
unfolding way_found crossing meeting found found_along edges any
none_first t = no_way false (found [] t true true) false _ refl (none_inside t true) refl

none_second : (s : Shape) → way_found s [] ≡ 0
unfolding way_found crossing meeting found edges any
none_second s =
    no_way (crossing s []) (found s [] true true) (meeting s []) _ (any_never (edges s)) (or_from (found_along s [] true true) (found_along [] s true true) (none_inside s true) (none_along s))
    (any_never (edges s))

-- BOXES APART
pub apart_way : (s t : Shape) → boxes_apart (bounds_of s) (bounds_of t) ≡ true → 0 ≡ way_found s t
apart_way [] t apart = sym (none_first t)
apart_way (c ∷ cs) [] apart = sym (none_second (c ∷ cs))
apart_way (c ∷ cs) (d ∷ ds) apart = sym (apart_boxes (c ∷ cs) (d ∷ ds) apart)

-- boxes in range that are not apart are those of rows with corners
pub boxes_whole : (s t : Shape) (a b : Extent) → a ≡ bounds_of s → b ≡ bounds_of t → a.east < 1048576 → b.east < 1048576 → boxes_apart a b ≡ false →
    (a ≡ box_of s) × (b ≡ box_of t)
boxes_whole (c ∷ cs) (d ∷ ds) a b h k far too_far met = (h, k)
boxes_whole [] t a b h k far too_far met = absurd (beyond a.west b.east (ap (λ v. v.west) h) too_far _ _ met)
  where
    beyond : (w e : ℕ) → w ≡ 1048576 → e < 1048576 → (x y : Bool) → or (or x (ltb e w)) y ≡ false → ⊥
    beyond w e is below x y m = grind (arith, nat_tests)
boxes_whole (c ∷ cs) [] a b h k far too_far met = absurd (beyond b.west a.east (ap (λ v. v.west) k) far _ _ met)
  where
    beyond : (w e : ℕ) → w ≡ 1048576 → e < 1048576 → (x y : Bool) → or (or (ltb e w) x) y ≡ false → ⊥
    beyond w e is below x y m = grind (arith, nat_tests)

-- OF TWO GROUNDS it is the way by all points
pub way_lies : (s t : Shape) (n : ℕ) → n ≡ way_found s t → a_shape s ≡ true → a_shape t ≡ true → Lies s t n
unfolding WayFoundTells
way_lies s t n is shaped_s shaped_t = subst (Lies s t) (sym is) (way_found_lies s t shaped_s shaped_t)
