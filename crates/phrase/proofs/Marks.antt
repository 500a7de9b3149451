-- A number by its parts: the digits in front, and what follows them.
use Rattle.std.proofs.Common.{◌≡◌, ℕ, cond, List, [], ◌∷◌, take, drop, Option, refl, ap, arith}
use Rattle.std.specs.Char.{is_ascii_digit}
use Rattle.std.specs.List.{prefix_len}
use Rattle.phrase.specs.Numbers.{bind, more_digits, run, marked, number_word}

run_is : (w : List ℕ) → run w ≡ prefix_len is_ascii_digit w
unfolding run
run_is [] = refl
run_is (b ∷ w) = ap (λ n. cond (is_ascii_digit b) n 0) (omega (arith, run_is w))

-- the front of a word, read as o, and what stands behind it
pub number_parts : (w front rest : List ℕ) (n : ℕ) {o : Option ℕ} → n ≡ prefix_len is_ascii_digit w → front ≡ take n w → rest ≡ drop n w → o ≡ more_digits 0 front → number_word w ≡ bind o (λ m. marked m rest)
number_parts w front rest n e f r h = rw (run_is w, ← e, ← f, ← r, ← h)
