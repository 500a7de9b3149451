use Rattle.std.proofs.Common.{◌≡◌, List, ℕ, length, codes, sym, ap, arith}
use Rattle.std.proofs.lemmas.Slice.Eq.{HasBytesAt, text_from_reads}
use Rattle.phrase.specs.Words.{name}
use Rattle.phrase.proofs.words.read_name.Goals as goal

-- the word that has these bytes
spelled : (w text : List ℕ) → length w ≡ length text → HasBytesAt w 0 text → name text ≡ name w
spelled w text l h = ap name (sym (text_from_reads w text l h))

pub returns-in-drop : goal.returns-in-drop
returns-in-drop c = spelled c.args.text.now (codes "drop") (omega arith) (omega arith, (omega arith, (omega arith, (omega arith, tt))))

pub returns-in-that : goal.returns-in-that
returns-in-that c = spelled c.args.text.now (codes "that") (omega arith) (omega arith, (omega arith, (omega arith, (omega arith, tt))))

pub returns-in-area : goal.returns-in-area
returns-in-area c = spelled c.args.text.now (codes "area") (omega arith) (omega arith, (omega arith, (omega arith, (omega arith, tt))))

pub returns-in-help : goal.returns-in-help
returns-in-help c = spelled c.args.text.now (codes "help") (omega arith) (omega arith, (omega arith, (omega arith, (omega arith, tt))))

pub returns-in-quit : goal.returns-in-quit
returns-in-quit c = spelled c.args.text.now (codes "quit") (omega arith) (omega arith, (omega arith, (omega arith, (omega arith, tt))))

pub returns-in-point : goal.returns-in-point
returns-in-point c = spelled c.args.text.now (codes "point") (omega arith) (omega arith, (omega arith, (omega arith, (omega arith, (omega arith, tt)))))
