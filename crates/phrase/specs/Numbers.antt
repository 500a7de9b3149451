-- A word as a number: digits, a fraction, a decimal.
use Rattle.std.specs.Prelude.{ℕ, zero, suc, ◌+◌, ◌-◌, ◌*◌, ◌/◌, ◌%◌, ◌^◌, cond, ◌&&◌, List, [], ◌∷◌, length, take, drop, Some, None, Option, ◌==◌, nat_lt}
use Rattle.std.specs.Int.{◌∣◌}
use Rattle.std.specs.Char.{is_ascii_digit}
use Rattle.phrase.specs.declared.word.Word.{Word}
use Rattle.phrase.specs.declared.word.Word.TheVariants.{Whole, Fraction}

-- what follows from a value, if there is one
abbrev pub bind : {A B : Type 0} → Option A → (A → Option B) → Option B
bind None f = None
bind (Some x) f = f x

-- digits that go on after those of n: each makes it ten times as much and the digit; it stays within 64 bits
unfoldable pub read_on : ℕ → List ℕ → Option ℕ
read_on n [] = Some n
read_on n (d ∷ ds) = cond (is_ascii_digit d && nat_lt (n * 10 + (d - 48)) (2 ^ 64)) (read_on (n * 10 + (d - 48)) ds) None

-- one digit or more, and nothing else
abbrev pub more_digits : ℕ → List ℕ → Option ℕ
more_digits n [] = None
more_digits n (d ∷ ds) = read_on n (d ∷ ds)

-- how many bytes at the front are digits
unfoldable pub run : List ℕ → ℕ
run [] = 0
run (d ∷ ds) = cond (is_ascii_digit d) (suc (run ds)) 0

-- Euclid's rule, for at most k turns
unfoldable pub euclid : ℕ → ℕ → ℕ → ℕ
euclid zero a b = a
euclid (suc k) a b = cond (b == 0) a (euclid k b (a % b))

-- the greatest common divisor: what is divided by gets smaller with each turn, so b turns will do
unfoldable pub common : ℕ → ℕ → ℕ
common a b = euclid b a b

-- it divides both, and whatever divides both divides it
abbrev pub CommonIsGreatest : Type 0
CommonIsGreatest = (a b : ℕ) → (common a b ∣ a) × (common a b ∣ b) × ((m : ℕ) → m ∣ a → m ∣ b → m ∣ common a b)

-- n / d in lowest terms, where its denominator is below 2^20
abbrev pub lowest : ℕ → ℕ → Option Word
lowest n d = cond (d == 0) None (cond (nat_lt (d / common n d) (2 ^ 20)) (Some (Fraction (n / common n d) (d / common n d))) None)

-- what follows the digits of n: nothing, a `/` and a denominator, or a `.` and more digits
abbrev pub marked : ℕ → List ℕ → Option Word
marked n [] = Some (Whole n)
marked n (b ∷ rest) =
    cond (b == 47) (bind (more_digits 0 rest) (λ d. lowest n d)) (cond (b == 46) (bind (more_digits n rest) (λ m. lowest m (10 ^ length rest))) None)

abbrev pub number_word : List ℕ → Option Word
number_word w = bind (more_digits 0 (take (run w) w)) (λ n. marked n (drop (run w) w))
