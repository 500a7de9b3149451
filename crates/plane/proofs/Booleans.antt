-- Laws of the Boolean operations.
use Rattle.std.proofs.Common.{◌≡◌, Bool, true, false, not, ◌&&◌, ◌⊎◌, sym, refl, ap, inl, inr}
use Rattle.std.proofs.lemmas.Bool.{true≢false, false≢true}
use Rattle.plane.specs.Lists.{pick, or}
use Rattle.plane.specs.Parity.{xor}

-- NOT
pub not_not : (a : Bool) → not (not a) ≡ a
not_not true = refl
not_not false = refl

pub true_from_not : (a : Bool) → not a ≡ false → a ≡ true
true_from_not true h = refl
true_from_not false h = absurd (true≢false h)

pub false_from_not : (a : Bool) → not a ≡ true → a ≡ false
false_from_not true h = absurd (false≢true h)
false_from_not false h = refl

-- TESTS FROM WHAT THEY RULE OUT
-- a test that cannot hold fails
pub false_from : (a : Bool) → (a ≡ true → ⊥) → a ≡ false
false_from true h = absurd (h refl)
false_from false h = refl

-- a test that cannot fail holds
pub true_from : (a : Bool) → (a ≡ false → ⊥) → a ≡ true
true_from true h = refl
true_from false h = absurd (h refl)

-- a test cannot both hold and fail
pub not_both : (a : Bool) → a ≡ true → a ≡ false → ⊥
not_both true h k = true≢false k
not_both false h k = false≢true h

-- what fails makes fail what it follows from
pub contrapose : (a b : Bool) → (a ≡ true → b ≡ true) → b ≡ false → a ≡ false
contrapose true b h k = absurd (not_both b (h refl) k)
contrapose false b h k = refl

-- two tests that follow from each other are the same
pub same_from_both : (a b : Bool) → (a ≡ true → b ≡ true) → (b ≡ true → a ≡ true) → a ≡ b
same_from_both true b h k = sym (h refl)
same_from_both false true h k = k refl
same_from_both false false h k = refl

-- AND
pub and_comm : (a b : Bool) → (a && b) ≡ (b && a)
and_comm true true = refl
and_comm true false = refl
and_comm false true = refl
and_comm false false = refl

pub and_assoc : (a b c : Bool) → ((a && b) && c) ≡ (a && (b && c))
and_assoc true b c = refl
and_assoc false b c = refl

pub and_true_right : (a : Bool) → (a && true) ≡ a
and_true_right true = refl
and_true_right false = refl

pub and_false_right : (a : Bool) → (a && false) ≡ false
and_false_right true = refl
and_false_right false = refl

pub and_self : (a : Bool) → (a && a) ≡ a
and_self true = refl
and_self false = refl

-- two pairs, paired crosswise
pub and_swap : (a b c d : Bool) → ((a && b) && (c && d)) ≡ ((a && c) && (b && d))
and_swap true b true d = refl
and_swap true true false d = refl
and_swap true false false d = refl
and_swap false b c d = refl

pub not_and : (a b : Bool) → not (a && b) ≡ or (not a) (not b)
not_and true b = refl
not_and false b = refl

-- OR
pub or_comm : (a b : Bool) → or a b ≡ or b a
or_comm true true = refl
or_comm true false = refl
or_comm false true = refl
or_comm false false = refl

pub or_assoc : (a b c : Bool) → or (or a b) c ≡ or a (or b c)
or_assoc true b c = refl
or_assoc false b c = refl

pub or_true_right : (a : Bool) → or a true ≡ true
or_true_right true = refl
or_true_right false = refl

pub or_false_right : (a : Bool) → or a false ≡ a
or_false_right true = refl
or_false_right false = refl

pub or_self : (a : Bool) → or a a ≡ a
or_self true = refl
or_self false = refl

pub or_swap : (a b c d : Bool) → or (or a b) (or c d) ≡ or (or a c) (or b d)
or_swap true b c d = refl
or_swap false true true d = refl
or_swap false false true d = refl
or_swap false true false d = refl
or_swap false false false d = refl

pub not_or : (a b : Bool) → not (or a b) ≡ (not a && not b)
not_or true b = refl
not_or false b = refl

pub and_or : (a b c : Bool) → (a && or b c) ≡ or (a && b) (a && c)
and_or true b c = refl
and_or false b c = refl

pub or_and : (a b c : Bool) → or a (b && c) ≡ (or a b && or a c)
or_and true b c = refl
or_and false b c = refl

pub or_left : (a b : Bool) → a ≡ true → or a b ≡ true
or_left true b h = refl
or_left false b h = absurd (false≢true h)

pub or_right : (a b : Bool) → b ≡ true → or a b ≡ true
or_right true b h = refl
or_right false b h = h

pub or_from : (a b : Bool) → a ≡ false → b ≡ false → or a b ≡ false
or_from true b h k = h
or_from false b h k = k

pub or_cases : (a b : Bool) → or a b ≡ true → (a ≡ true) ⊎ (b ≡ true)
or_cases true b h = inl refl
or_cases false b h = inr h

pub or_parts : (a b : Bool) → or a b ≡ false → (a ≡ false) × (b ≡ false)
or_parts true b h = absurd (true≢false h)
or_parts false b h = (refl, h)

-- XOR
pub xor_comm : (a b : Bool) → xor a b ≡ xor b a
xor_comm true true = refl
xor_comm true false = refl
xor_comm false true = refl
xor_comm false false = refl

pub xor_assoc : (a b c : Bool) → xor (xor a b) c ≡ xor a (xor b c)
xor_assoc true true c = sym (not_not c)
xor_assoc true false c = refl
xor_assoc false b c = refl

pub xor_true_right : (a : Bool) → xor a true ≡ not a
xor_true_right true = refl
xor_true_right false = refl

pub xor_false_right : (a : Bool) → xor a false ≡ a
xor_false_right true = refl
xor_false_right false = refl

pub xor_self : (a : Bool) → xor a a ≡ false
xor_self true = refl
xor_self false = refl

-- the same twice cancels
pub xor_cancel : (a b : Bool) → xor a (xor a b) ≡ b
xor_cancel true b = not_not b
xor_cancel false b = refl

-- a middle term that stands twice cancels
pub xor_through : (a b c : Bool) → xor (xor a b) (xor b c) ≡ xor a c
xor_through true true c = refl
xor_through true false c = refl
xor_through false true c = not_not c
xor_through false false c = refl

pub xor_swap : (a b c d : Bool) → xor (xor a b) (xor c d) ≡ xor (xor a c) (xor b d)
xor_swap true true true d = refl
xor_swap true true false d = sym (not_not d)
xor_swap true false true d = not_not d
xor_swap true false false d = refl
xor_swap false true true d = refl
xor_swap false true false d = refl
xor_swap false false true d = refl
xor_swap false false false d = refl

pub xor_not_left : (a b : Bool) → xor (not a) b ≡ not (xor a b)
xor_not_left true b = sym (not_not b)
xor_not_left false b = refl

pub xor_not_right : (a b : Bool) → xor a (not b) ≡ not (xor a b)
xor_not_right true b = refl
xor_not_right false b = refl

pub xor_not_not : (a b : Bool) → xor (not a) (not b) ≡ xor a b
xor_not_not true b = refl
xor_not_not false b = not_not b

pub and_xor : (a b c : Bool) → (a && xor b c) ≡ xor (a && b) (a && c)
and_xor true b c = refl
and_xor false b c = refl

-- tests that are never both true add up
pub or_is_xor : (a b : Bool) → (a && b) ≡ false → or a b ≡ xor a b
or_is_xor true true h = absurd (true≢false h)
or_is_xor true false h = refl
or_is_xor false b h = refl

pub same_from_xor : (a b : Bool) → xor a b ≡ false → a ≡ b
same_from_xor true true h = refl
same_from_xor true false h = absurd (true≢false h)
same_from_xor false b h = sym h

pub xor_from_same : (a b : Bool) → a ≡ b → xor a b ≡ false
xor_from_same true b h = ap not (sym h)
xor_from_same false b h = sym h

pub differ_from_xor : (a b : Bool) → xor a b ≡ true → a ≡ not b
differ_from_xor true true h = absurd (false≢true h)
differ_from_xor true false h = refl
differ_from_xor false true h = refl
differ_from_xor false false h = absurd (false≢true h)

pub xor_from_differ : (a b : Bool) → a ≡ not b → xor a b ≡ true
xor_from_differ true b h = sym h
xor_from_differ false true h = refl
xor_from_differ false false h = h

-- PICK
pub pick_true : {A : Type 0} (t : Bool) (a b : A) → t ≡ true → pick t a b ≡ a
pick_true true a b h = refl
pick_true false a b h = absurd (false≢true h)

pub pick_false : {A : Type 0} (t : Bool) (a b : A) → t ≡ false → pick t a b ≡ b
pick_false true a b h = absurd (true≢false h)
pick_false false a b h = refl

pub pick_same : {A : Type 0} (t : Bool) (a : A) → pick t a a ≡ a
pick_same true a = refl
pick_same false a = refl

-- what holds of either choice holds of the chosen
pub pick_both : {A : Type 0} (P : A → Type 0) (t : Bool) (a b : A) → (t ≡ true → P a) → (t ≡ false → P b) → P (pick t a b)
pick_both P true a b h k = h refl
pick_both P false a b h k = k refl

-- a function goes into the choice
pub pick_under : {A B : Type 0} (f : A → B) (t : Bool) (a b : A) → f (pick t a b) ≡ pick t (f a) (f b)
pick_under f true a b = refl
pick_under f false a b = refl
