-- A walk from the far east to the west along a level line, a step at a time, that passes at most one edge at a step. Where outside is east of every edge of the
-- first kind and west of every one of the second, so many more of the first kind as of the second lie further east as the walk is inside: one, or none.
use Rattle.std.proofs.Common.{◌≡◌, ℕ, zero, suc, ◌+◌, ◌≤◌, Bool, true, false, not, List, ◌∷◌, ◌++◌, sym, ap, ◌∙◌, subst, ap₂, inr, ⊎_elim, arith}
use Rattle.std.proofs.lemmas.Bool.{cases_Bool}
use Rattle.plane.specs.Lists.{or, any, added_up}
use Rattle.plane.specs.Parity.{xor, xors}
use Rattle.plane.specs.Sums.{tally}
use Rattle.plane.proofs.Lists.{In, any_one, any_false_at, in_append, in_left, in_right}
use Rattle.plane.proofs.Xors.{xors_in, xors_never, xors_turned}
use Rattle.plane.proofs.Sums.{added_up_in, added_up_turned, added_up_zero}
use Rattle.ground.proofs.Clearance.{split_in}

-- so many more of the first kind as the walk is inside
abbrev pub Wound : {A : Type 0} → (A → Bool) → (A → Bool) → List A → Type 0
Wound f g xs = added_up (λ x. tally (f x)) xs ≡ added_up (λ x. tally (g x)) xs + tally (xors (λ x. or (f x) (g x)) xs)

-- tests that agree on the list count the same
pub wound_same : {A : Type 0} (f g f₁ g₁ : A → Bool) (xs : List A) → ((x : A) → In x xs → f₁ x ≡ f x) → ((x : A) → In x xs → g₁ x ≡ g x) → Wound f g xs →
    Wound f₁ g₁ xs
wound_same f g f₁ g₁ xs hf hg w =
    added_up_in (λ x. tally (f₁ x)) (λ x. tally (f x)) xs (λ x m. ap tally (hf x m)) ∙ w
    ∙ sym
    (ap₂ ◌+◌ (added_up_in (λ x. tally (g₁ x)) (λ x. tally (g x)) xs (λ x m. ap tally (hg x m)))
    (ap tally (xors_in (λ x. or (f₁ x) (g₁ x)) (λ x. or (f x) (g x)) xs (λ x m. ap₂ or (hf x m) (hg x m)))))

-- in whichever order
pub wound_turned : {A : Type 0} (f g : A → Bool) (xs ys : List A) → Wound f g (xs ++ ys) → Wound f g (ys ++ xs)
wound_turned f g xs ys w =
    added_up_turned (λ x. tally (f x)) ys xs ∙ w
    ∙ ap₂ ◌+◌ (added_up_turned (λ x. tally (g x)) xs ys) (ap tally (xors_turned (λ x. or (f x) (g x)) xs ys))

-- with nothing further east the walk is outside
pub wound_none : {A : Type 0} (xs : List A) → Wound (λ (x : A). false) (λ x. false) xs
wound_none xs = omega (arith, added_up_zero xs, ap tally (xors_never xs))

-- one edge is passed: it is of the first kind if the walk was outside
passed : (a b a₁ b₁ kind odd : Bool) (m n : ℕ) → a ≡ false → b ≡ false → a₁ ≡ kind → b₁ ≡ not kind → xor (or a b) odd ≡ not kind →
    tally a + m ≡ tally b + n + tally (xor (or a b) odd) → tally a₁ + m ≡ tally b₁ + n + tally (xor (or a₁ b₁) odd)
passed a b a₁ b₁ kind odd m n ha hb ha₁ hb₁ inside w = grind arith

-- with the others staying where they were
wound_step : {A : Type 0} (f g f₁ g₁ : A → Bool) (x : A) (xs : List A) (kind : Bool) →
    ((y : A) → In y xs → f₁ y ≡ f y) → ((y : A) → In y xs → g₁ y ≡ g y) →
    f x ≡ false → g x ≡ false → f₁ x ≡ kind → g₁ x ≡ not kind → xors (λ y. or (f y) (g y)) (x ∷ xs) ≡ not kind →
    Wound f g (x ∷ xs) → Wound f₁ g₁ (x ∷ xs)
unfolding added_up xors
wound_step f g f₁ g₁ x xs kind hf hg fx gx fx₁ gx₁ inside w =
    ap (λ z. tally (f₁ x) + z) (added_up_in (λ y. tally (f₁ y)) (λ y. tally (f y)) xs (λ y m. ap tally (hf y m)))
    ∙ passed (f x) (g x) (f₁ x) (g₁ x) kind (xors (λ y. or (f y) (g y)) xs) (added_up (λ y. tally (f y)) xs) (added_up (λ y. tally (g y)) xs) fx gx fx₁
    gx₁ inside w
    ∙ sym
    (ap₂ (λ z o. tally (g₁ x) + z + tally (xor (or (f₁ x) (g₁ x)) o)) (added_up_in (λ y. tally (g₁ y)) (λ y. tally (g y)) xs (λ y m. ap tally (hg y m)))
    (xors_in (λ y. or (f₁ y) (g₁ y)) (λ y. or (f y) (g y)) xs (λ y m. ap₂ or (hf y m) (hg y m))))

-- THE WALK: first t x and second t x say that x is further east than t, and of that kind; passes t x, that it is at t
pub record Walked {A : Type 0} (xs : List A) (first second passes : ℕ → A → Bool) (kind : A → Bool) (far : ℕ) : Type 0 where
  -- beyond the far end there is nothing
  pub beyond : (t : ℕ) → far ≤ t → (x : A) → In x xs → (first t x ≡ false) × (second t x ≡ false)
  -- what isn't passed stays where it was
  pub stays : (t : ℕ) (x : A) → In x xs → passes (suc t) x ≡ false → (first t x ≡ first (suc t) x) × (second t x ≡ second (suc t) x)
  -- what is passed is now further east, by its kind
  pub comes : (t : ℕ) (x : A) → In x xs → passes (suc t) x ≡ true →
      ((first (suc t) x ≡ false) × (second (suc t) x ≡ false)) × ((first t x ≡ kind x) × (second t x ≡ not (kind x)))
  -- the others are not passed at that step
  pub alone : (t : ℕ) (x : A) (before after : List A) → xs ≡ before ++ x ∷ after → passes (suc t) x ≡ true → (y : A) → In y (after ++ before) →
      passes (suc t) y ≡ false
  -- what is passed is of the first kind if the walk was outside
  pub sensed : (t : ℕ) (x : A) → In x xs → passes (suc t) x ≡ true → xors (λ y. or (first (suc t) y) (second (suc t) y)) xs ≡ not (kind x)

module _ {A : Type 0} (xs : List A) (first second passes : ℕ → A → Bool) (kind : A → Bool) (far : ℕ) (walk : Walked xs first second passes kind far) where
  -- a step that passes nothing
  step_free : (t : ℕ) → any (passes (suc t)) xs ≡ false → Wound (first (suc t)) (second (suc t)) xs → Wound (first t) (second t) xs
  step_free t none w =
      wound_same (first (suc t)) (second (suc t)) (first t) (second t) xs (λ x m. (walk.stays t x m (any_false_at (passes (suc t)) x xs m none)).0)
      (λ x m. (walk.stays t x m (any_false_at (passes (suc t)) x xs m none)).1) w

  -- a step that passes x
  step_past : (t : ℕ) (x : A) → In x xs → passes (suc t) x ≡ true → Wound (first (suc t)) (second (suc t)) xs → Wound (first t) (second t) xs
  step_past t x here past w =
      subst (Wound (first t) (second t)) (sym split)
      (wound_turned (first t) (second t) (x ∷ after) before
      (wound_step (first (suc t)) (second (suc t)) (first t) (second t) x (after ++ before) (kind x) (λ y m. (others y m).0) (λ y m. (others y m).1)
      passing.0.0 passing.0.1
      passing.1.0 passing.1.1
      (xors_turned (λ y. or (first (suc t) y) (second (suc t) y)) (x ∷ after) before
      ∙ ap (xors (λ y. or (first (suc t) y) (second (suc t) y))) (sym split) ∙ walk.sensed t x here past)
      (wound_turned (first (suc t)) (second (suc t)) before (x ∷ after) (subst (Wound (first (suc t)) (second (suc t))) split w))))
    where
      before : List A
      before = (split_in x xs here).0

      after : List A
      after = (split_in x xs here).1

      split : xs ≡ before ++ x ∷ after
      split = (split_in x xs here).2

      passing : ((first (suc t) x ≡ false) × (second (suc t) x ≡ false)) × ((first t x ≡ kind x) × (second t x ≡ not (kind x)))
      passing = walk.comes t x here past

      -- wherever it stands beside x
      beside : (y : A) → In y (after ++ before) → In y xs
      beside y m =
          subst (In y) (sym split) (⊎_elim (λ a. in_right y before (x ∷ after) (inr a)) (λ b. in_left y before (x ∷ after) b) (in_append y after before m))

      others : (y : A) → In y (after ++ before) → (first t y ≡ first (suc t) y) × (second t y ≡ second (suc t) y)
      others y m = walk.stays t y (beside y m) (walk.alone t x before after split past y m)

  -- from the far end to any place
  walk_to : (i t : ℕ) → far ≤ t + i → Wound (first t) (second t) xs
  walk_to zero t h =
      wound_same (λ x. false) (λ x. false) (first t) (second t) xs (λ x m. (walk.beyond t (omega arith) x m).0)
      (λ x m. (walk.beyond t (omega arith) x m).1) (wound_none xs)
  walk_to (suc i) t h = step (walk_to i (suc t) (omega arith))
    where
      step : Wound (first (suc t)) (second (suc t)) xs → Wound (first t) (second t) xs
      step w =
          ⊎_elim (λ some. let x = any_one (passes (suc t)) xs some in step_past t x.0 x.1 x.2 w) (λ none. step_free t none w)
          (cases_Bool (any (passes (suc t)) xs))

  -- so it is at every place
  pub wound : (t : ℕ) → Wound (first t) (second t) xs
  wound t = walk_to far t (omega arith)
