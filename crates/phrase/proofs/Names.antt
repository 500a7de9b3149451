-- What is no text is no name.
use Rattle.std.proofs.Common.{◌≡◌, ℕ, Bool, true, false, ◌&&◌, ltb, List, [], ◌∷◌, MatchResult, None, Ok, Err, codes, Option, Result, sym, refl, subst, ◌∙◌, ⊎_elim}
use Rattle.std.specs.Result.{result_ok}
use Rattle.std.specs.Str.{IsAscii, IsUtf8, bytes_eq}
use Rattle.std.proofs.lemmas.Bool.{cases_Bool, cond-false, and_parts, ltb-true}
use Rattle.std.proofs.lemmas.Slice.Eq.{bytes_eq-Decides}
use Rattle.std.proofs.lemmas.Str.{IsUtf8-from_ascii}
use Rattle.std.proofs.lemmas.Str.Ascii.{IsAscii-nil, IsAscii-cons}
use Rattle.phrase.specs.declared.word.Name.{Name}
use Rattle.phrase.specs.declared.word.Name.TheVariants.{Put, Drop, At, Point, How, Lie, All, That, On, Area, Of, Help, Quit}
use Rattle.phrase.specs.Words.{named_or, name}

-- every byte is below 128
abbrev low : List ℕ → Bool
low [] = true
low (b ∷ bs) = ltb b 128 && low bs

low_is_ascii : (bs : List ℕ) → low bs ≡ true → IsAscii bs
low_is_ascii [] h = IsAscii-nil
low_is_ascii (b ∷ bs) h =
    let parts = and_parts (ltb b 128) (low bs) h in
    IsAscii-cons b bs (ltb-true b 128 parts.0) (low_is_ascii bs parts.1)

module _ (w : List ℕ) (odd : IsUtf8 w → ⊥) where
  not_this : (text : List ℕ) → low text ≡ true → bytes_eq w text ≡ false
  not_this text h = ⊎_elim (λ e. absurd (odd (subst IsUtf8 (sym ((bytes_eq-Decides w text).0 e)) (IsUtf8-from_ascii text (low_is_ascii text h))))) (λ e. e) (cases_Bool (bytes_eq w text))

  next_too : (n : Name) (text : List ℕ) {other : Option Name} → low text ≡ true → other ≡ None → named_or n text w other ≡ None
  next_too n text h none = cond-false _ _ _ (not_this text h) ∙ none

  pub no_text_no_name : name w ≡ None
  no_text_no_name =
      next_too Put (codes "put") refl
      (next_too Drop (codes "drop") refl
      (next_too At (codes "at") refl
      (next_too Point (codes "point") refl
      (next_too How (codes "how") refl
      (next_too Lie (codes "lie") refl
      (next_too All (codes "all") refl
      (next_too That (codes "that") refl
      (next_too On (codes "on") refl (next_too Area (codes "area") refl (next_too Of (codes "of") refl (next_too Help (codes "help") refl (next_too Quit (codes "quit") refl refl))))))))))))

-- where the bytes are read as no text
pub not_read : {S E : Type 0} (P : S → Type 0) (V : E → Type 0) (w : List ℕ) (r : Result S E) → None ≡ result_ok r → MatchResult r P (λ e. (IsUtf8 w → ⊥) × V e) → IsUtf8 w → ⊥
not_read P V w (Ok s) h m = absurd (cc)
not_read P V w (Err e) h m = m.0
