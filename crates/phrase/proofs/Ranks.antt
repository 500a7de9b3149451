-- Names are told apart by their ranks.
use Rattle.std.proofs.Common.{◌≡◌, ℕ, ◌+◌, ◌<◌, ◌≤◌, Bool, true, false, cond, ◌&&◌, eqb, List, [], ◌∷◌, length, get_or, drop, Decides, sym, refl, ap, ◌∙◌, arith}
use Rattle.std.proofs.lemmas.List.{drop_more, drop_all}
use Rattle.std.proofs.lemmas.Bool.{eq-eqb, eqb-true, and_right, false≢true}
use Rattle.phrase.specs.declared.word.Name.{Name}
use Rattle.phrase.specs.declared.word.Name.TheVariants.{Put, Drop, At, Point, How, Lie, All, That, On, Area, Of, Help, Quit}
use Rattle.phrase.specs.declared.word.Word.{Word}
use Rattle.phrase.specs.Kinds.{rank, is_name, begins}

abbrev names : List Name
names = Put ∷ Drop ∷ At ∷ Point ∷ How ∷ Lie ∷ All ∷ That ∷ On ∷ Area ∷ Of ∷ Help ∷ Quit ∷ []

name_at : (n : Name) → get_or names (rank n) Put ≡ n
name_at Put = refl
name_at Drop = refl
name_at At = refl
name_at Point = refl
name_at How = refl
name_at Lie = refl
name_at All = refl
name_at That = refl
name_at On = refl
name_at Area = refl
name_at Of = refl
name_at Help = refl
name_at Quit = refl

pub decides_name : (n m : Name) → Decides (eqb (rank n) (rank m)) (m ≡ n)
decides_name n m = (
  λ e. sym (name_at m) ∙ ap (λ k. get_or names k Put) (sym (eqb-true (rank n) (rank m) e)) ∙ name_at n,
  λ e. eq-eqb (rank n) (rank m) (ap rank (sym e)),
)

-- fewer words than names do not begin with them
pub too_short : (ns : List Name) (ws : List Word) → length ws < length ns → begins ns ws ≡ false
unfolding begins
too_short [] ws h = absurd (omega arith)
too_short (n ∷ ns) [] h = refl
too_short (n ∷ ns) (w ∷ ws) h = and_right (is_name n w) (begins ns ws) (too_short ns ws (omega arith))

-- one name after the other; b tells whether the next one is there
pub begins_more : (ns : List Name) (ws : List Word) (i : ℕ) (n : Name) (w : Word) {b : Bool} → i < length ns → i < length ws → b ≡ is_name (get_or ns i n) (get_or ws i w) → (b && begins (drop (i + 1) ns) (drop (i + 1) ws)) ≡ begins (drop i ns) (drop i ws)
unfolding begins
begins_more ns ws i n w h g e = rw (drop_more ns i n h, drop_more ws i w g, e)

pub begins_all : (ns : List Name) (ws : List Word) (i : ℕ) → length ns ≤ i → true ≡ begins (drop i ns) (drop i ws)
unfolding begins
begins_all ns ws i h = rw (drop_all i ns h)

pub decides_cond : (r : Bool) (P : Type 0) → cond r P (P → ⊥) → Decides r P
decides_cond true P h = (λ e. h, λ p. refl)
decides_cond false P h = (λ e. absurd (false≢true e), λ p. absurd (h p))
