-- Which bytes the lines of a picture are. Assumes nothing: these are definitions.
use Rattle.std.specs.Prelude.{ℕ, ◌+◌, ◌-◌, ◌%◌, max, ◌&&◌, List, ◌++◌, length, replicate, codes, decimal, ◌==◌, nat_lt}
use Rattle.plane.specs.Lists.{pick}
use Rattle.raster.specs.declared.window.Window.{Window}
use Rattle.raster.specs.Windows.{side_across, side_up}

abbrev pub spaces : ℕ → List ℕ
spaces n = replicate n 32

-- a number at the right end of seven bytes; a longer one takes what it needs
abbrev pub aligned : ℕ → List ℕ
aligned n = spaces (7 - length (decimal n)) ++ decimal n

-- what stands before a row: of every fifth, but the first, the height of its northern side
abbrev pub margin : Window → ℕ → List ℕ
margin v j = pick (nat_lt 0 j && j % 5 == 0) (aligned (side_up v j)) (spaces 7)

abbrev pub row_line : Window → ℕ → List ℕ → List ℕ
row_line v j signs = margin v j ++ (codes " |" ++ (signs ++ codes "|\n"))

-- the frame in the north or in the south, and how far in the north it lies
abbrev pub frame_line : Window → ℕ → List ℕ
frame_line v height = aligned height ++ (codes " +" ++ (replicate v.columns 45 ++ codes "+\n"))

-- how far in the east the western and the eastern side lie, one below each; a space at least is between them
abbrev pub scale_line : Window → List ℕ
scale_line v =
    let west = decimal v.x in
    let east = decimal (side_across v v.columns) in
    spaces 9 ++ (west ++ (spaces (max (v.columns - (length west + length east)) 1) ++ (east ++ codes "\n")))
