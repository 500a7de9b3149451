-- Long division, place by place.
use Rattle.std.proofs.Common.{◌≡◌, ℕ, zero, suc, ◌+◌, ◌-◌, ◌*◌, ◌/◌, ◌%◌, ◌^◌, ◌<◌, eqb, List, [], ◌∷◌, ◌++◌, length, decimal, sym, ap, ◌∙◌, append_assoc, append-nil, mod-lt, mod-eq_of_lt, div-lt_iff_lt-mul, pow-suc, div-add-mod', mul-one, add-one, arith}
use native.Mathlib.Nat.{dvd_of_mod-eq-zero, mod-eq-zero_of_dvd, dvd-mul_left_of_dvd, add-mul-mod_self_right, mul-add-mod_self_right}
use Rattle.std.proofs.lemmas.Bool.{ne_eqb, eqb-true, cond-false, cond_both}
use Rattle.std.proofs.lemmas.Fmt.{decimal_digit}
use Rattle.phrase.specs.Ratios.{places, worth, PlacesAreExact}

-- one power of ten more, as what is left over
pub ten_more : (k q rest : ℕ) → rest ≡ 10 ^ k % q → rest * 10 % q ≡ 10 ^ (k + 1) % q
ten_more k q rest e =
    let n = 10 ^ k in
    let split : n * 10 ≡ (n % q) * 10 + n / q * 10 * q = omega (arith, div-add-mod' n q) in
    ap (λ r. r * 10 % q) e ∙ sym (add-mul-mod_self_right ((n % q) * 10) (n / q * 10) q) ∙ ap (λ m. m % q) (sym split) ∙ ap (λ m. m % q) (sym (pow-suc 10 k) ∙ ap (λ j. 10 ^ j) (sym (add-one k)))

-- a place is a digit
pub place_small : (r q : ℕ) → r < q → r * 10 / q < 10
place_small r q h = (div-lt_iff_lt-mul (omega arith)).1 (omega arith)

-- a place more
places_more : (k r q : ℕ) (bs : List ℕ) → 0 < k → (r ≡ 0 → ⊥) → (bs ++ ((48 + r * 10 / q) ∷ [])) ++ places (k - 1) (r * 10 % q) q ≡ bs ++ places k r q
unfolding places
places_more zero r q bs h some = absurd (omega arith)
places_more (suc k) r q bs h some =
    let back : suc k - 1 ≡ k = omega arith in
    append_assoc bs ((48 + r * 10 / q) ∷ []) (places (suc k - 1) (r * 10 % q) q) ∙ ap (λ j. bs ++ ((48 + r * 10 / q) ∷ places j (r * 10 % q) q)) back ∙ ap (λ l. bs ++ l) (sym (cond-false (eqb r 0) _ _ (ne_eqb r 0 some)))

-- place i is written as a number of its own
pub place_more : (i r q : ℕ) (bs : List ℕ) → i < 64 → r < q → (r ≡ 0 → ⊥) → (bs ++ decimal (r * 10 / q)) ++ places (64 - (i + 1)) (r * 10 % q) q ≡ bs ++ places (64 - i) r q
place_more i r q bs h less some =
    let turn : 64 - (i + 1) ≡ 64 - i - 1 = omega arith in
    ap (λ l. (bs ++ l) ++ places (64 - (i + 1)) (r * 10 % q) q) (decimal_digit (r * 10 / q) (place_small r q less))
    ∙ ap (λ k. (bs ++ ((48 + r * 10 / q) ∷ [])) ++ places k (r * 10 % q) q) turn
    ∙ places_more (64 - i) r q bs (omega arith) some

-- no turn is left
pub places_end : (r q : ℕ) (bs : List ℕ) → bs ++ places 0 r q ≡ bs
unfolding places
places_end r q bs = append-nil bs

-- nothing is left to divide
pub places_done : (k q : ℕ) (bs : List ℕ) → bs ++ places k 0 q ≡ bs
unfolding places
places_done zero q bs = append-nil bs
places_done (suc k) q bs = append-nil bs

-- what is left after a place still divides out
left_over : (k r q : ℕ) → r * 10 ^ suc k % q ≡ 0 → (r * 10 % q) * 10 ^ k % q ≡ 0
left_over k r q h =
    let t = 10 ^ k in
    let split = div-add-mod' (r * 10) q in
    let whole : r * 10 ^ suc k ≡ (r * 10 / q * t) * q + (r * 10 % q) * t = ap (λ n. r * n) (pow-suc 10 k) ∙ omega (arith, ap (λ n. n * t) split) in
    sym (mul-add-mod_self_right (r * 10 / q * t) q ((r * 10 % q) * t)) ∙ ap (λ n. n % q) (sym whole) ∙ h

exact : (k r q : ℕ) → r < q → r * 10 ^ k % q ≡ 0 → worth (places k r q) * q ≡ r * 10 ^ length (places k r q)
unfolding places
exact zero r q less h =
    let none : r ≡ 0 = sym (mod-eq_of_lt less) ∙ ap (λ n. n % q) (sym (mul-one r)) ∙ h in
    omega (arith, none)
exact (suc k) r q less h =
    cond_both (eqb r 0) [] ((48 + r * 10 / q) ∷ places k (r * 10 % q) q) (λ ds. worth ds * q ≡ r * 10 ^ length ds) (λ e. omega (arith, eqb-true r 0 e))
    (λ e.
    let ps = places k (r * 10 % q) q in
    let t = 10 ^ length ps in
    let rest = exact k (r * 10 % q) q (mod-lt (r * 10) (omega arith)) (left_over k r q h) in
    let split = div-add-mod' (r * 10) q in
    let digit : 48 + r * 10 / q - 48 ≡ r * 10 / q = omega arith in
    ap (λ d. (d * t + worth ps) * q) digit ∙ omega (arith, rest, ap (λ n. n * t) split) ∙ ap (λ n. r * n) (sym (pow-suc 10 (length ps))))

pub places_are_exact : PlacesAreExact
places_are_exact r q less h = exact 64 r q less (mod-eq-zero_of_dvd q (dvd-mul_left_of_dvd q (dvd_of_mod-eq-zero q h) r))
