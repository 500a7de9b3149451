use Rattle.std.proofs.Common.{sym}
use Rattle.plane.specs.Code.{along}
use Rattle.relate.specs.Going.{shape_in}
use Rattle.relate.proofs.Contacts.{contact_missed}
use Rattle.relate.proofs.contact.Contact.near.Goals as goal

pub returns-then-misses : goal.returns-then-misses
returns-then-misses c = contact_missed (shape_in c.args.ring.now) (along c.args.e) (sym c.if-misses.ensures)
