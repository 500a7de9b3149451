use Rattle.std.proofs.Common.{◌≡◌}
use Rattle.plane.specs.Code.{along}
use Rattle.plane.specs.Edges.{cross_over, meet}
use Rattle.ground.specs.Shapes.{edges}
use Rattle.relate.specs.Contacts.{joined}
use Rattle.relate.specs.Going.{shape_in, edges_left}
use Rattle.relate.proofs.Contacts.{contact_of}
use Rattle.relate.proofs.contact.Contact.along.Given as goal

-- the contact so far, with the edges that are left, is that with them all
abbrev pub invariant-loop-near : goal.invariant-loop-near
invariant-loop-near l =
    joined l.contact (contact_of (cross_over (along l.e)) (meet (along l.e)) (edges_left l.near-iterator)) ≡
    contact_of (cross_over (along l.e)) (meet (along l.e)) (edges (shape_in l.ring))
