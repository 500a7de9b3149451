-- Text that is put together piece by piece.
use Rattle.std.proofs.Common.{◌≡◌, ℕ, zero, suc, ◌-◌, ◌^◌, List, [], ◌∷◌, ◌++◌, length, replicate, String, string_bytes, string_len, decimal, refl, ap, ◌∙◌, append_assoc, append-nil}
use Rattle.std.proofs.Math.Nat.{sub-zero, sub_self}
use Rattle.std.specs.Fmt.{char_count, format_spec, padded_integral, styled_decimal}
use Rattle.std.specs.List.{repeat}
use Rattle.raster.specs.Pictures.{aligned}

-- a piece behind what was there
pub behind : {after before text x y : List ℕ} → after ≡ before ++ text → before ≡ x → text ≡ y → after ≡ x ++ y
behind a b t = a ∙ (λ i. b i ++ t i)

pub four_pieces : (a b c d : List ℕ) → ((a ++ b) ++ c) ++ d ≡ a ++ (b ++ (c ++ d))
four_pieces a b c d = simp append_assoc

-- one byte, so many times
pub repeated : (n b : ℕ) → repeat n (b ∷ []) ≡ replicate n b
repeated zero b = refl
repeated (suc n) b = ap (λ l. b ∷ l) (repeated n b)

-- what `{:>7}` writes of a number
pub at_the_right : (n : ℕ) → styled_decimal (format_spec 32 3 0 7 (2 ^ 64 - 1)) n ≡ aligned n
unfolding padded_integral char_count lib.Utf8.encode
at_the_right n = simp (sub_self, append-nil, sub-zero) (ap (λ l. l ++ decimal n) (repeated (7 - length (decimal n)) 32))

-- and of one that was laid out so
pub laid_right : {s : _} {m n : ℕ} → s ≡ format_spec 32 3 0 7 (2 ^ 64 - 1) → m ≡ n → styled_decimal s m ≡ aligned n
laid_right e h = (λ i. styled_decimal (e i) (h i)) ∙ at_the_right _

-- the length that a text knows
pub text_length : {Z : Type 0} (s : String Z) → string_len s ≡ length (string_bytes s)
text_length s = s.bytes.ok.0
