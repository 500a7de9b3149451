-- The machine, and what it promises. Each promise is a statement, a type: docs/PROOFS.md says which have their proofs. Assumes nothing.
use Rattle.std.specs.Prelude.{◌≡◌, ℕ, zero, suc, ◌<◌, ◌≤◌, Bool, true, false, ◌&&◌, ltb, List, [], ◌∷◌, ◌++◌, length, nat_eq, nat_le, nat_lt}
use Rattle.plane.specs.Lists.{pick, every}
use Rattle.map.specs.House.{Map, Command, refusal, after, Shown, small_command}

pub data Event : Type 0 where
  said : Command → Event
  next : Event

pub data Act : Type 0 where
  shows : List ℕ → Act  -- up to two numbers
  done : Act
  refused : ℕ → Act

pub record Step : Type 0 where
  pub memory : List ℕ
  pub act : Act

pub record Engine : Type 0 where
  pub start : List ℕ
  pub step : List ℕ → Event → Step

-- how a command went: what was shown, and the end: 0 done, a refusal, 1000 still at it, 1001 a fault
pub record Ran : Type 0 where
  pub memory : List ℕ
  pub showed : List (List ℕ)
  pub end : ℕ

abbrev pub ran : List ℕ → List (List ℕ) → ℕ → Ran
ran m ss e = record { memory = m; showed = ss; end = e }

unfoldable pub one_act : (List ℕ → List (List ℕ) → Ran) → List (List ℕ) → List ℕ → Act → Ran
one_act go ss m (shows s) = pick (nat_le (length s) 2) (go m (ss ++ s ∷ [])) (ran m ss 1001)
one_act go ss m done = ran m ss 0
one_act go ss m (refused k) = ran m ss (pick (nat_le 1 k && nat_lt k 1000) k 1001)

-- at most so many steps: the event, and then to go on till it's done or refused
unfoldable pub runs : ℕ → Engine → List ℕ → Event → List (List ℕ) → Ran
runs zero e m ev ss = ran m ss 1000
runs (suc n) e m ev ss = one_act (λ m₁ ss₁. runs n e m₁ next ss₁) ss (e.step m ev).memory (e.step m ev).act

unfoldable pub all_small : List ℕ → Bool
all_small ms = every (λ m. ltb m 18446744073709551616) ms

-- memory is all 0 at the start; it never grows, nor do its numbers beyond 64 bits
unfoldable pub Steady : Engine → Type 0
Steady e =
    (length e.start ≤ 262144) × (every (λ m. nat_eq m 0) e.start ≡ true)
    × ((m : List ℕ) (ev : Event) → (length (e.step m ev).memory ≡ length m) × (all_small m ≡ true → all_small (e.step m ev).memory ≡ true))

-- of each command in turn, with the grounds k that are kept before it: what isn't known is refused with 2, what is to be refused is refused with its number, and
-- all else ends as done, after what is to be shown was shown
unfoldable pub Right : (Command → Bool) → Engine → List ℕ → Map → List Command → Type 0
Right known e m k [] = zero ≡ zero
Right known e m k (c ∷ cs) =
    (n : ℕ) × (k₁ : Map)
    × ((known c ≡ false → ((runs n e m (said c) []).end ≡ 2) × ((runs n e m (said c) []).showed ≡ []) × (k₁ ≡ k))
    × (known c ≡ true → 0 < refusal k c → ((runs n e m (said c) []).end ≡ refusal k c) × ((runs n e m (said c) []).showed ≡ []) × (k₁ ≡ k))
    × (known c ≡ true → refusal k c ≡ 0 → ((runs n e m (said c) []).end ≡ 0) × Shown k c (runs n e m (said c) []).showed × (k₁ ≡ after k c)))
    × Right known e (runs n e m (said c) []).memory k₁ cs

-- THE MAIN PROMISE, for every list of commands
unfoldable pub Whole : (Command → Bool) → Engine → Type 0
Whole known e =
    Steady e × ((cs : List Command) → length cs ≤ 4294967296 → every small_command cs ≡ true → Right known e e.start [] cs)
