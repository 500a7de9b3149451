-- Words as a point.
use Rattle.std.specs.Prelude.{ℕ, ◌*◌, ◌/◌, ◌^◌, cond, ◌&&◌, List, [], ◌∷◌, Some, None, Option, nat_lt}
use Rattle.phrase.specs.declared.word.Word.{Word}
use Rattle.phrase.specs.declared.word.Word.TheVariants.{Named, Whole, Fraction}
use Rattle.phrase.specs.Numbers.{bind, common}
use Rattle.phrase.specs.Rows.{whole_of}
use Rattle.terms.specs.declared.point.Point.{Point}

-- a coordinate, as a numerator and a denominator
abbrev pub ratio : Word → Option (ℕ × ℕ)
ratio (Named n) = None
ratio (Whole k) = Some (k, 1)
ratio (Fraction over under) = Some (over, under)

-- the points that can be asked for: 1 ≤ w < 2^20; a, b < 2^40
abbrev pub near : ℕ → ℕ → ℕ → Option Point
near a b w = cond (nat_lt 0 w && (nat_lt w (2 ^ 20) && (nat_lt a (2 ^ 40) && nat_lt b (2 ^ 40)))) (Some (record { a = a; b = b; w = w })) None

-- two coordinates m / u and n / v over their least common denominator
abbrev pub together : ℕ → ℕ → ℕ → ℕ → Option Point
together m u n v = near (m * (v / common u v)) (n * (u / common u v)) (u * (v / common u v))

-- two coordinates, or a, b and w
abbrev pub point : List Word → Option Point
point [] = None
point (x ∷ []) = None
point (x ∷ y ∷ []) = bind (ratio x) (λ p. bind (ratio y) (λ q. together p.0 p.1 q.0 q.1))
point (x ∷ y ∷ z ∷ []) = bind (whole_of x) (λ a. bind (whole_of y) (λ b. bind (whole_of z) (λ w. near a b w)))
point (x ∷ y ∷ z ∷ t ∷ ws) = None
