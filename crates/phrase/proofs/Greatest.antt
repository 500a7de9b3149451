-- Euclid's rule comes to the greatest common divisor.
use Rattle.std.proofs.Common.{ℕ, zero, suc, ◌%◌, ◌<◌, ◌≤◌, eqb, mod-lt, arith}
use Rattle.std.specs.Int.{IsGcd}
use Rattle.std.proofs.lemmas.Bool.{eqb-true, eqb-false, cond_both}
use Rattle.std.proofs.lemmas.Nat.Gcd.{IsGcd-from_zero, IsGcd-from_mod}
use Rattle.phrase.specs.Numbers.{euclid, common, CommonIsGreatest}

euclid_greatest : (k a b : ℕ) → b ≤ k → IsGcd a b (euclid k a b)
unfolding euclid
euclid_greatest zero a b h = IsGcd-from_zero a b (omega arith)
euclid_greatest (suc k) a b h =
    cond_both (eqb b 0) a (euclid k b (a % b)) (λ g. IsGcd a b g) (λ e. IsGcd-from_zero a b (eqb-true b 0 e))
    (λ e.
    let less : a % b < b = mod-lt a (omega (arith, eqb-false b 0 e)) in
    IsGcd-from_mod a b (euclid k b (a % b)) (euclid_greatest k b (a % b) (omega arith)))

pub common_is_greatest : CommonIsGreatest
unfolding common
common_is_greatest a b = euclid_greatest b a b (omega arith)
