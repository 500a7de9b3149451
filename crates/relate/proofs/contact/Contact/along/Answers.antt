use Rattle.std.proofs.Common.{◌≡◌, sym, ap, ◌∙◌, rules}
use Rattle.plane.specs.Code.{along}
use Rattle.plane.specs.Edges.{cross_over, meet}
use Rattle.relate.specs.Contacts.{joined}
use Rattle.relate.specs.Going.{shape_in, edges_left}
use Rattle.relate.specs.declared.contact.Contact.TheVariants.{Clear, Crossing}
use Rattle.relate.proofs.Contacts.{contact_of, contact_begins, contact_goes_on, contact_skips, contact_stops, contact_ends, max_joined, level_apart}
use Rattle.relate.proofs.contact.Contact.along.Goals as goal

pub loop-near-init : goal.loop-near-init
loop-near-init c =
    let e = along c.args.e in
    ap (λ es. joined Clear (contact_of (cross_over e) (meet e) es)) (ap edges_left c.into_iter-near-iterator.ensures.into_iter_gives ∙ c.edges-near-items.ensures)
    ∙ contact_begins (cross_over e) (meet e) (shape_in c.args.ring.now)

pub loop-near-preserved-then-not-ranges_meet : goal.loop-near-preserved-then-not-ranges_meet
loop-near-preserved-then-not-ranges_meet c =
    let e = along c.args.e in
    let f = along c.in-Some.near.edge in
    contact_skips (cross_over e) (meet e) c.loop-near.contact f (edges_left c.next.new.self) (level_apart e f (sym c.if-not-ranges_meet.ensures))
    ∙ ap (λ es. joined c.loop-near.contact (contact_of (cross_over e) (meet e) es)) (sym c.in-Some.ensures.steps) ∙ c.loop-near.invariant

pub returns-then-eq : goal.returns-then-eq
returns-then-eq c =
    let e = along c.args.e in
    let k = c.loop-near.contact in
    let crossed : c.max-contact.result ≡ Crossing = search rules in
    contact_stops (cross_over e) (meet e) k c.max-contact.result (along c.in-Some.near.edge) (edges_left c.next.new.self)
    (c.max-contact.ensures ∙ max_joined k c.between.result ∙ ap (joined k) c.between.ensures) crossed
    ∙ ap (λ es. joined k (contact_of (cross_over e) (meet e) es)) (sym c.in-Some.ensures.steps) ∙ c.loop-near.invariant

pub loop-near-preserved : goal.loop-near-preserved
loop-near-preserved c =
    let e = along c.args.e in
    let k = c.loop-near.contact in
    contact_goes_on (cross_over e) (meet e) k c.max-contact.result (along c.in-Some.near.edge) (edges_left c.next.new.self)
    (c.max-contact.ensures ∙ max_joined k c.between.result ∙ ap (joined k) c.between.ensures)
    ∙ ap (λ es. joined k (contact_of (cross_over e) (meet e) es)) (sym c.in-Some.ensures.steps) ∙ c.loop-near.invariant

pub returns : goal.returns
returns c =
    let e = along c.args.e in
    contact_ends (cross_over e) (meet e) c.loop-near.contact
    ∙ ap (λ es. joined c.loop-near.contact (contact_of (cross_over e) (meet e) es)) (sym c.in-None.ensures.steps.0) ∙ c.loop-near.invariant
