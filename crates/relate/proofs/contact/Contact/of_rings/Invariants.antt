use Rattle.std.proofs.Common.{◌≡◌}
use Rattle.plane.specs.Code.{along}
use Rattle.plane.specs.Edges.{cross_over, meet}
use Rattle.plane.specs.Lists.{any}
use Rattle.ground.specs.Shapes.{edges}
use Rattle.relate.specs.Contacts.{contact, joined}
use Rattle.relate.specs.Going.{shape_in, edges_left}
use Rattle.relate.proofs.Contacts.{contact_of}
use Rattle.relate.proofs.contact.Contact.of_rings.Given as goal

-- the contact so far, with the edges that are left and the closing one, is that of them all
abbrev pub invariant-loop-near : goal.invariant-loop-near
invariant-loop-near l =
    joined (joined l.contact (contact_of (λ e. any (cross_over e) (edges (shape_in l.second))) (λ e. any (meet e) (edges (shape_in l.second))) (edges_left l.near-iterator)))
    (contact (any (cross_over (along l.closing.edge)) (edges (shape_in l.second))) (any (meet (along l.closing.edge)) (edges (shape_in l.second)))) ≡
    contact_of (λ e. any (cross_over e) (edges (shape_in l.second))) (λ e. any (meet e) (edges (shape_in l.second))) (edges (shape_in l.first))
