use Rattle.std.proofs.Common.{◌≡◌, ℕ, List, ◌++◌, length, take, drop, vec_items, sym, ◌∙◌, subst, arith}
use lib.Seq.{take-append-le, take-length}
use Rattle.map.specs.Asking.{event_said, RanThrough}
use Rattle.map.proofs.owner.Machine.ask.Goals as goal

-- a list put back in the place of one of its length
put_back : (n : ℕ) (m rest : List ℕ) → length m ≡ n → take n (m ++ rest) ≡ m
put_back n m rest e = subst (λ (k : ℕ). take k (m ++ rest) ≡ m) e (take-append-le (length m) m rest (omega arith) ∙ take-length m)

-- the machine's memory before and after are those of the part that was lent
pub returns : goal.returns
returns c =
    let m : List ℕ = c.run.new.memory in
    let kept : length m ≡ c.args.self.now.memory.len = c.run.auto.memory ∙ c.as_mut_slice.ensures.len in
    subst (λ (m₁ : List ℕ). RanThrough (vec_items c.args.self.now.memory) (event_said c.args.request) m₁ (vec_items c.args.shown.now) (vec_items c.run.new.shown) c.run.result)
    (sym (put_back c.args.self.now.memory.len m (drop (length m) c.args.self.now.memory.items) kept))
    (subst (λ (m₀ : List ℕ). RanThrough m₀ (event_said c.args.request) m (vec_items c.args.shown.now) (vec_items c.run.new.shown) c.run.result)
    c.as_mut_slice.ensures.value c.run.ensures)
