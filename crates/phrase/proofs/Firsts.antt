-- The command of a list of words by the phrase that it begins with, and by its first word: the same.
use Rattle.std.proofs.Common.{◌≡◌, ℕ, Bool, true, false, cond, ◌&&◌, List, [], ◌∷◌, Some, None, Option, refl, ap, sym, ◌∙◌}
use Rattle.phrase.specs.declared.word.Name.{Name}
use Rattle.phrase.specs.declared.word.Name.TheVariants.{Put, Drop, At, Point, How, Lie, All, That, On, Area, Of, Help, Quit}
use Rattle.phrase.specs.declared.word.Word.{Word}
use Rattle.phrase.specs.declared.word.Word.TheVariants.{Named, Whole, Fraction}
use Rattle.phrase.specs.Commands.{Said}
use Rattle.phrase.specs.Numbers.{bind}
use Rattle.phrase.specs.Words.{words}
use Rattle.phrase.specs.Kinds as kinds
use Rattle.phrase.specs.Kinds.{Kind, is_name, begins}
use Rattle.phrase.specs.Grammar.{point_words, lie_words, all_lie_words, area_words, said_by, command, meaning}
use Rattle.phrase.specs.Firsts.{behind, by_first}

bind_cond : {A B : Type 0} (b : Bool) (x : A) (f : A → Option B) → bind (cond b (Some x) None) f ≡ cond b (f x) None
bind_cond true x f = refl
bind_cond false x f = refl

two : (b : Bool) (n : Name) (k : Kind) (w : Word) (ws : List Word) (f : List Word → Option Said) → said_by k (Named n ∷ w ∷ ws) ≡ f ws → said_by (cond (b && true) k kinds.other) (Named n ∷ w ∷ ws) ≡ bind (cond b (Some ws) None) f
two true n k w ws f h = h
two false n k w ws f h = refl

four : (b c d : Bool) (w v u : Word) (ws : List Word) → said_by (cond (b && (c && (d && true))) kinds.all_that_lie kinds.other) (Named All ∷ w ∷ v ∷ u ∷ ws) ≡ cond b (cond c (cond d (all_lie_words ws) None) None) None
four true true true w v u ws = refl
four true true false w v u ws = refl
four true false d w v u ws = refl
four false c d w v u ws = refl

one : (b : Bool) (w : Word) → said_by (cond (b && false) kinds.all_that_lie kinds.other) (Named All ∷ w ∷ []) ≡ bind (cond b (Some []) None) (λ us. bind (behind Lie us) (λ vs. bind (behind On vs) all_lie_words))
one true w = refl
one false w = refl

nothing_on : (c : Bool) (w v : Word) → said_by kinds.other (Named All ∷ w ∷ v ∷ []) ≡ bind (cond c (Some []) None) (λ vs. bind (behind On vs) all_lie_words)
nothing_on true w v = refl
nothing_on false w v = refl

dead : (b c : Bool) → (b && (c && false)) ≡ false
dead true true = refl
dead true false = refl
dead false c = refl

after_none : (b : Bool) (o : Option Said) → o ≡ None → cond b o None ≡ None
after_none true o h = h
after_none false o h = refl

-- the command that the phrases tell is the one that the first words tell
pub same : (ws : List Word) → command ws ≡ by_first ws
unfolding begins
same [] = refl
same (Whole k ∷ ws) = refl
same (Fraction a b ∷ ws) = refl
same (Named Put ∷ ws) = refl
same (Named Drop ∷ ws) = refl
same (Named At ∷ []) = refl
same (Named At ∷ w ∷ ws) = two (is_name Point w) At kinds.at_point w ws point_words refl
same (Named Point ∷ ws) = refl
same (Named How ∷ []) = refl
same (Named How ∷ w ∷ ws) = two (is_name Lie w) How kinds.how_lie w ws lie_words refl
same (Named Lie ∷ ws) = refl
same (Named All ∷ []) = refl
same (Named All ∷ w ∷ []) = one (is_name That w) w
same (Named All ∷ w ∷ v ∷ []) =
    ap (λ b. said_by (cond b kinds.all_that_lie kinds.other) (Named All ∷ w ∷ v ∷ [])) (dead (is_name That w) (is_name Lie v))
    ∙ sym (bind_cond (is_name That w) (v ∷ []) (λ us. bind (behind Lie us) (λ vs. bind (behind On vs) all_lie_words)) ∙ after_none (is_name That w) _ (sym (nothing_on (is_name Lie v) w v)))
same (Named All ∷ w ∷ v ∷ u ∷ ws) =
    four (is_name That w) (is_name Lie v) (is_name On u) w v u ws
    ∙ sym (bind_cond (is_name That w) (v ∷ u ∷ ws) (λ us. bind (behind Lie us) (λ vs. bind (behind On vs) all_lie_words))
    ∙ ap (λ o. cond (is_name That w) o None) (bind_cond (is_name Lie v) (u ∷ ws) (λ vs. bind (behind On vs) all_lie_words) ∙ ap (λ o. cond (is_name Lie v) o None) (bind_cond (is_name On u) ws all_lie_words)))
same (Named That ∷ ws) = refl
same (Named On ∷ ws) = refl
same (Named Area ∷ []) = refl
same (Named Area ∷ w ∷ ws) = two (is_name Of w) Area kinds.area_of w ws area_words refl
same (Named Of ∷ ws) = refl
same (Named Help ∷ ws) = refl
same (Named Quit ∷ ws) = refl

bind_same : (o : Option (List Word)) → bind o command ≡ bind o by_first
bind_same None = refl
bind_same (Some ws) = same ws

-- and so of a line
pub meaning_by_first : (line : List ℕ) → meaning line ≡ bind (words line) by_first
meaning_by_first line = bind_same (words line)
