use Rattle.std.proofs.Common.{sym}
use Rattle.plane.specs.Code.{along}
use Rattle.relate.proofs.Contacts.{contact_shared}
use Rattle.relate.proofs.contact.Contact.between.Goals as goal

pub returns-then-shares_corner : goal.returns-then-shares_corner
returns-then-shares_corner c = contact_shared (along c.args.e) (along c.args.f) (sym c.if-shares_corner.ensures) (sym c.if-not-meet.ensures)
