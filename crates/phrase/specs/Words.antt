-- How a line is cut into words, and what each word is.
use Rattle.std.specs.Prelude.{ℕ, Bool, cond, ◌&&◌, ◌||◌, List, [], ◌∷◌, ◌++◌, length, Some, None, codes, Option, ◌==◌}
use Rattle.std.specs.Str.{bytes_eq}
use Rattle.phrase.specs.declared.word.Name.{Name}
use Rattle.phrase.specs.declared.word.Name.TheVariants.{Put, Drop, At, Point, How, Lie, All, That, On, Area, Of, Help, Quit}
use Rattle.phrase.specs.declared.word.Word.{Word}
use Rattle.phrase.specs.declared.word.Word.TheVariants.{Named}
use Rattle.phrase.specs.Numbers.{bind, number_word}

-- nothing from here on is read: a `#`, or a carriage return at the very end
abbrev pub ends : ℕ → ℕ → Bool
ends b after = b == 35 || (b == 13 && after == 0)

-- a line up to its comment
unfoldable pub plain : List ℕ → List ℕ
plain [] = []
plain (b ∷ bs) = cond (ends b (length bs)) [] (b ∷ plain bs)

-- a space, a tab or a comma
abbrev pub separates : ℕ → Bool
separates b = b == 32 || (b == 9 || b == 44)

-- a word that ends here, if there is one, before those that follow
abbrev pub closed : List ℕ → List (List ℕ) → List (List ℕ)
closed [] ws = ws
closed (b ∷ w) ws = (b ∷ w) ∷ ws

-- the words of a text of which w is already read, a part of a word
unfoldable pub cut : List ℕ → List ℕ → List (List ℕ)
cut w [] = closed w []
cut w (b ∷ bs) = cond (separates b) (closed w (cut [] bs)) (cut (w ++ (b ∷ [])) bs)

-- the word w, or else what follows
abbrev pub named_or : Name → List ℕ → List ℕ → Option Name → Option Name
named_or n text w other = cond (bytes_eq w text) (Some n) other

abbrev pub other_name : List ℕ → Option Name
other_name w =
    named_or All (codes "all") w
    (named_or That (codes "that") w
    (named_or On (codes "on") w
    (named_or Area (codes "area") w (named_or Of (codes "of") w (named_or Help (codes "help") w (named_or Quit (codes "quit") w None))))))

abbrev pub name : List ℕ → Option Name
name w =
    named_or Put (codes "put") w
    (named_or Drop (codes "drop") w
    (named_or At (codes "at") w (named_or Point (codes "point") w (named_or How (codes "how") w (named_or Lie (codes "lie") w (other_name w))))))

-- a name, or else a number
abbrev pub named : List ℕ → Option Name → Option Word
named w None = number_word w
named w (Some n) = Some (Named n)

abbrev pub word : List ℕ → Option Word
word w = named w (name w)

-- every word, or nothing if there is one that is none
unfoldable pub all_words : List (List ℕ) → Option (List Word)
all_words [] = Some []
all_words (w ∷ ws) = bind (word w) (λ x. bind (all_words ws) (λ xs. Some (x ∷ xs)))

abbrev pub words : List ℕ → Option (List Word)
words line = all_words (cut [] (plain line))
