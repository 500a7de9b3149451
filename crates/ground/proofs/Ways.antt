-- How grounds lie to each other.
use Rattle.ground.specs.Ways.{Within}
use Rattle.ground.specs.Statements.{WithinWithin}

-- what is within what is within another is within that
pub within_within : WithinWithin
unfolding WithinWithin Within
within_within s t u first second p pointed here = second p pointed (first p pointed here)
