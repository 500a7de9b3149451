-- Records, one behind the other: how long they are, and what is read where one begins.
use Rattle.std.proofs.Common.{◌≡◌, ℕ, ◌+◌, ◌*◌, ◌≤◌, true, ◌&&◌, leb, List, [], ◌∷◌, ◌++◌, length, get_or, take, drop, sym, refl, ap, ◌∙◌, append_assoc, add-zero, arith, length-append, length-drop, get_or-drop, drop-drop, take_at, drop_at}
use Rattle.std.proofs.lemmas.Bool.{and_from, le-leb}
use Rattle.ground.specs.Shapes.{Point, a_point, in_shape, a_shape}
use Rattle.ground.specs.Rows.{shape_of, flat}
use Rattle.map.specs.House.{Kept, Map, corners_in}
use Rattle.map.specs.Sizes.{record_length}
use Rattle.map.specs.Memory.{number_at, count_at, size_of, behind, whole_at, row_at, box_has, row_fits, has_at, recorded}
use Rattle.map.proofs.Boxed.{flat_length, box_of, looked_first}

-- a ground's record
abbrev pub record_of : Kept → List ℕ
record_of k = recorded k.id k.shape

-- the records of a map
abbrev pub encoded : Map → List ℕ
encoded [] = []
encoded (k ∷ ks) = record_of k ++ encoded ks

-- how long a record is, and how long they all are
pub record_size : (k : Kept) → length (record_of k) ≡ size_of (length k.shape)
record_size k = omega (arith, flat_length k.shape)

pub encoded_length : (ks : Map) → length (encoded ks) ≡ record_length * length ks + 2 * corners_in ks
unfolding corners_in
encoded_length [] = refl
encoded_length (k ∷ ks) = omega (arith, length-append (record_of k) (encoded ks), record_size k, encoded_length ks)

-- the records of two lists of grounds
pub encoded_append : (js ks : Map) → encoded (js ++ ks) ≡ encoded js ++ encoded ks
encoded_append [] ks = refl
encoded_append (j ∷ js) ks = ap (◌++◌ (record_of j)) (encoded_append js ks) ∙ sym (append_assoc (record_of j) (encoded js) (encoded ks))

-- A RECORD THAT BEGINS AT p
module _ (m : List ℕ) (p : ℕ) (k : Kept) (more : List ℕ) (here : drop p m ≡ record_of k ++ more) where
  -- its numbers, by their places
  field_here : (j : ℕ) → get_or m (p + j) 0 ≡ get_or (record_of k ++ more) j 0
  field_here j = sym (get_or-drop p m j 0) ∙ ap (λ xs. get_or xs j 0) here

  -- the ground's number, how many corners it has, and where the next record begins
  pub number_here : number_at m p ≡ k.id
  number_here = ap (λ q. get_or m q 0) (sym (add-zero p)) ∙ field_here 0

  pub count_here : count_at m p ≡ length k.shape
  count_here = field_here 1

  pub behind_here : behind m p ≡ p + size_of (length k.shape)
  behind_here = ap (λ n. p + size_of n) count_here

  -- its corners
  pub row_here : row_at m p ≡ flat k.shape
  row_here =
      ap (λ xs. take (2 * count_at m p) xs) (sym (drop-drop record_length p m) ∙ ap (drop record_length) here)
      ∙ take_at (flat k.shape) more (2 * count_at m p) (flat_length k.shape ∙ ap (λ n. 2 * n) (sym count_here))

  -- the next record begins where this one ends
  pub drop_behind : drop (behind m p) m ≡ more
  drop_behind =
      ap (λ q. drop q m) behind_here ∙ sym (drop-drop (size_of (length k.shape)) p m) ∙ ap (drop (size_of (length k.shape))) here
      ∙ drop_at (record_of k) more (size_of (length k.shape)) (record_size k)

  -- all of it lies in the memory
  pub behind_within : behind m p ≤ length m
  behind_within = omega (arith, behind_here, length-drop p m, ap length here, length-append (record_of k) more, record_size k)

  pub whole_here : whole_at m p ≡ true
  whole_here =
      and_from (leb (p + record_length) (length m)) (leb (behind m p) (length m))
      (le-leb (p + record_length) (length m) (omega (arith, behind_within))) (le-leb (behind m p) (length m) behind_within)

  -- its box
  box_here : (v : Point) → box_has m p v ≡ box_of k.shape v
  box_here v =
      let west = field_here 2 in let south = field_here 3 in let east = field_here 4 in let north = field_here 5 in
      rw (west, south, east, north)

  -- whether the ground has a point is read off its record
  pub has_here : a_shape k.shape ≡ true → (v : Point) → a_point v ≡ true → has_at m p v ≡ in_shape k.shape v
  unfolding has_at
  has_here a v pv =
      ap (λ row. box_has m p v && (row_fits row && in_shape (shape_of row) v)) row_here
      ∙ ap (λ t. t && (row_fits (flat k.shape) && in_shape (shape_of (flat k.shape)) v)) (box_here v)
      ∙ looked_first k.shape v pv a
