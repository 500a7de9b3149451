use Rattle.std.proofs.Common.{◌≡◌, ◌∷◌, sym, ap, ◌∙◌, rules}
use Rattle.plane.specs.Code.{along}
use Rattle.plane.specs.Edges.{cross_over, meet}
use Rattle.plane.specs.Lists.{any}
use Rattle.ground.specs.Shapes.{edges}
use Rattle.ground.specs.Statements.{crossing}
use Rattle.relate.specs.Contacts.{contact, joined}
use Rattle.relate.specs.Going.{shape_in, edges_left}
use Rattle.relate.specs.Samples.{meeting}
use Rattle.relate.specs.declared.contact.Contact.TheVariants.{Clear, Crossing}
use Rattle.relate.proofs.Contacts.{contact_of, contact_empty, contact_closed, contact_goes_on, contact_stops, contact_ends, crossing_settles, max_joined}
use Rattle.relate.proofs.contact.Contact.of_rings.Goals as goal

pub returns-in_default : goal.returns-in_default
unfolding crossing meeting
returns-in_default c =
    let es = edges (shape_in c.args.second.now) in
    contact_empty (λ e. any (cross_over e) es) (λ e. any (meet e) es) (shape_in c.args.first.now) (sym c.edges-edges.ensures ∙ c.in_default.ensures.steps.0)

pub loop-near-init : goal.loop-near-init
loop-near-init c =
    let es = edges (shape_in c.args.second.now) in
    contact_closed (λ e. any (cross_over e) es) (λ e. any (meet e) es) (along c.in-Some.closing.edge) (edges_left c.into_iter-near-iterator.result) (shape_in c.args.first.now)
    (sym c.edges-edges.ensures ∙ c.in-Some.ensures.steps ∙ ap (λ i. along c.in-Some.closing.edge ∷ edges_left i) (sym c.into_iter-near-iterator.ensures.into_iter_gives))

pub returns-then-eq : goal.returns-then-eq
unfolding crossing meeting
returns-then-eq c =
    let es = edges (shape_in c.args.second.now) in
    let k = c.loop-near.contact in
    let last = contact (any (cross_over (along c.in-Some.closing.edge)) es) (any (meet (along c.in-Some.closing.edge)) es) in
    let crossed : c.max-contact.result ≡ Crossing = search rules in
    crossing_settles c.max-contact.result last crossed
    ∙ ap (λ j. joined j last)
    (contact_stops (λ e. any (cross_over e) es) (λ e. any (meet e) es) k c.max-contact.result (along c.in-Some-near.near.edge) (edges_left c.next-in-loop-near.new.self)
    (c.max-contact.ensures ∙ max_joined k c.near.result ∙ ap (joined k) c.near.ensures) crossed
    ∙ ap (λ left. joined k (contact_of (λ e. any (cross_over e) es) (λ e. any (meet e) es) left)) (sym c.in-Some-near.ensures.steps))
    ∙ c.loop-near.invariant

pub loop-near-preserved : goal.loop-near-preserved
loop-near-preserved c =
    let es = edges (shape_in c.args.second.now) in
    let k = c.loop-near.contact in
    ap (λ j. joined j (contact (any (cross_over (along c.in-Some.closing.edge)) es) (any (meet (along c.in-Some.closing.edge)) es)))
    (contact_goes_on (λ e. any (cross_over e) es) (λ e. any (meet e) es) k c.max-contact.result (along c.in-Some-near.near.edge) (edges_left c.next-in-loop-near.new.self)
    (c.max-contact.ensures ∙ max_joined k c.near.result ∙ ap (joined k) c.near.ensures)
    ∙ ap (λ left. joined k (contact_of (λ e. any (cross_over e) es) (λ e. any (meet e) es) left)) (sym c.in-Some-near.ensures.steps))
    ∙ c.loop-near.invariant

pub returns : goal.returns
unfolding crossing meeting
returns c =
    let es = edges (shape_in c.args.second.now) in
    let k = c.loop-near.contact in
    c.max.ensures ∙ max_joined k c.near-2.result ∙ ap (joined k) c.near-2.ensures
    ∙ ap (λ j. joined j (contact (any (cross_over (along c.in-Some.closing.edge)) es) (any (meet (along c.in-Some.closing.edge)) es)))
    (contact_ends (λ e. any (cross_over e) es) (λ e. any (meet e) es) k
    ∙ ap (λ left. joined k (contact_of (λ e. any (cross_over e) es) (λ e. any (meet e) es) left)) (sym c.in-None.ensures.steps.0))
    ∙ c.loop-near.invariant
