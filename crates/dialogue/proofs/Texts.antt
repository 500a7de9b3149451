-- The text of an answer, and what became of the machine.
use Rattle.std.proofs.Common.{◌≡◌, ℕ, true, List, [], ◌++◌, is_err, IfOk, Some, None, Ok, Err, Option, Result, refl, ap, ◌∙◌, subst}
use Rattle.std.specs.Option.{option_map}
use Rattle.std.proofs.lemmas.Bool.{false≢true}
use Rattle.std.specs.declared.alloc.AllocError.{AllocError}
use Rattle.map.specs.Asking.{End, Went, RanThrough}
use Rattle.map.specs.Promise.{Event}
use Rattle.map.specs.declared.failing.AskError.{AskError}
use Rattle.map.specs.declared.failing.AskError.TheVariants.{Refused as Unmet, OutOfMemory}
use Rattle.phrase.specs.Answers.{answer_bytes}
use Rattle.phrase.specs.Commands.{Said}
use Rattle.phrase.specs.declared.answer.Answer.{Answer}
use Rattle.phrase.specs.declared.answer.Answer.TheVariants.{Done, Refused, Point, Lie, AllLie, Area, NotUnderstood}
use Rattle.dialogue.specs.Replies.{replied, answer_of}
use Rattle.dialogue.specs.Responses.{reply_bytes, ended_as, by_number, Responded}

-- the text depends only on what the answer says
same_text : (a : Answer) → answer_bytes a ≡ reply_bytes (replied a)
same_text Done = refl
same_text (Refused reason) = refl
same_text (Point p grounds) = refl
same_text (Lie first second way) = refl
same_text (AllLie number rows) = refl
same_text (Area number twice) = refl
same_text (NotUnderstood line) = refl

nothing_made : {X : Type 0} (r : Result X AllocError) (P : X → Type 0) → is_err r ≡ true → IfOk r P
nothing_made (Ok x) P h = absurd (false≢true h)
nothing_made (Err e) P h = tt

made_alike : {X : Type 0} (r : Result X AllocError) (f : X → List ℕ) (xs ys : List ℕ) → xs ≡ ys → IfOk r (λ x. f x ≡ xs) → IfOk r (λ x. f x ≡ ys)
made_alike (Ok x) f xs ys e h = h ∙ e
made_alike (Err e) f xs ys h g = tt

no_end : {n : Result (Unit {0}) ℕ} → None ≡ Some n → ⊥
no_end h = cc

-- Below, the machine went on with the event ev of the command c, from the memory m to m₁, and showed what was added to `before`.
module _ (o : Option Event) (ev : Event) (c : Said) (m m₁ before after : List ℕ) (asked : Some ev ≡ o) {X : Type 0} (r : Result X AllocError) (f : X → List ℕ) where
  -- where memory is wanting there is no text
  pub no_text : (ended : Result (Unit {0}) AskError) → RanThrough m ev m₁ before after ended → is_err r ≡ true → Responded o c m m₁ r f
  unfolding RanThrough
  no_text ended ran h =
      subst (λ p. Responded p c m m₁ r f) asked (ran.0, ran.1, ran.3, nothing_made r _ h)

  -- the answer to a command that ended so, after all that was shown was added
  told : (e : End) (n : Result (Unit {0}) ℕ) (a : Answer) (s t : List ℕ) → n ≡ by_number e → before ≡ [] → after ≡ before ++ t → t ≡ s → Went m ev m₁ s e → replied a ≡ answer_of c n after → IfOk r (λ x. f x ≡ answer_bytes a) → Responded o c m m₁ r f
  told e n a s t same none joined all went says h =
      let shown : after ≡ s = joined ∙ ap (λ l. l ++ t) none ∙ all in
      let meant : answer_of c n after ≡ answer_of c (by_number e) s = (λ i. answer_of c (same i) (shown i)) in
      subst (λ p. Responded p c m m₁ r f) asked (s, e, went, made_alike r f _ _ (same_text a ∙ ap reply_bytes (says ∙ meant)) h)

  pub text_of : (ended : Result (Unit {0}) AskError) (n : Result (Unit {0}) ℕ) (a : Answer) → before ≡ [] → RanThrough m ev m₁ before after ended → option_map by_number (ended_as ended) ≡ Some n → replied a ≡ answer_of c n after → IfOk r (λ x. f x ≡ answer_bytes a) → Responded o c m m₁ r f
  unfolding RanThrough
  text_of (Ok d) n a none ran is says h =
      let same : n ≡ by_number ran.1 = (cc (ap by_number ran.5.0)) in
      told ran.1 n a ran.0 ran.2 same none ran.4 ran.5.1 ran.3 says h
  text_of (Err (Unmet why)) n a none ran is says h =
      let same : n ≡ by_number ran.1 = (cc (ap by_number ran.5.0)) in
      told ran.1 n a ran.0 ran.2 same none ran.4 ran.5.1 ran.3 says h
  text_of (Err OutOfMemory) n a none ran is says h = absurd (no_end is)
