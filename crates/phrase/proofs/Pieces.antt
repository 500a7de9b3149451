-- A line of an input, as the library cuts it off.
use Rattle.std.proofs.Common.{◌≡◌, ℕ, ◌-◌, cond, ◌&&◌, eqb, List, [], ◌∷◌, length, get_or, take, refl, sym, ap, subst, arith}
use Rattle.std.specs.Io.BufRead.{take_through, strip_last, first_piece}
use Rattle.std.proofs.lemmas.Bool.{lt-ltb}
use Rattle.phrase.specs.Lines.{unended}

stripped : (line : List ℕ) → strip_last 10 line ≡ unended line
stripped [] = refl
stripped (b ∷ line) =
    ap (λ t. cond (t && eqb (get_or (b ∷ line) (length (b ∷ line) - 1) 0) 10) (take (length (b ∷ line) - 1) (b ∷ line)) (b ∷ line)) (lt-ltb 0 (length (b ∷ line)) (omega arith))

-- the bytes up to a newline and with it, without the newline
pub line_piece : (b : ℕ) (xs : List ℕ) → b ≡ 10 → first_piece b xs ≡ unended (take_through 10 xs)
line_piece b xs e = subst (λ k. first_piece k xs ≡ unended (take_through 10 xs)) (sym e) (stripped (take_through 10 xs))
