-- What a command asks of the machine.
use Rattle.std.specs.Prelude.{Some, None, Option}
use Rattle.ground.specs.Rows.{shape_of}
use Rattle.map.specs.Asking.{handed}
use Rattle.map.specs.House as house
use Rattle.map.specs.Promise as machine
use Rattle.map.specs.Promise.{Event}
use Rattle.phrase.specs.Commands.{Said, put, drops, at_point, how_lie, all_that_lie, area_of, help, quit, nothing}

-- help, quitting and an empty line ask nothing
abbrev pub request_of : Said → Option Event
request_of (put n row) = Some (machine.said (house.put n (shape_of (handed row))))
request_of (drops n) = Some (machine.said (house.drop_it n))
request_of (at_point a b w) = Some (machine.said (house.at_point a b w))
request_of (how_lie m n) = Some (machine.said (house.how_lies m n))
request_of (all_that_lie n) = Some (machine.said (house.all_that n))
request_of (area_of n) = Some (machine.said (house.area_of n))
request_of help = None
request_of quit = None
request_of nothing = None
