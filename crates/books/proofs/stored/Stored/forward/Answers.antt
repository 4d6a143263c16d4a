use Rattle.std.proofs.Common.{◌<◌, ◌≡◌, ◌&&◌, ◌||◌, eqb, rules, sym, ap, ◌∙◌, arith}
use Rattle.std.proofs.lemmas.Bool.{and_left, and_right}
use Rattle.rules.proofs.Truth.{passes}
use Rattle.books.specs.Changes.{Ordered}
use Rattle.books.specs.Frames.{frame_live, linked}
use Rattle.books.proofs.Bits.{in_row_none}
use Rattle.books.specs.Labels.{live_out, live_form, live_label}
use Rattle.books.specs.Linked.{linked_up, eqb_flip, orderly}
use Rattle.books.proofs.stored.Stored.forward.Goals as goal

pub returns-then-not-live : goal.returns-then-not-live
returns-then-not-live g c b = in_row_none b ∙ sym (and_left _ _ (and_left _ _ (sym c.if-not-live.ensures)))

pub with_form-requires : goal.with_form-requires
with_form-requires g c = live_form c.args.self.now.frame c.args.w.label c.args.w.form (passes _ (sym c.if-not-live.ensures))

pub returns-then-w-j : goal.returns-then-w-j
returns-then-w-j g c b =
    let f = c.args.self.now.frame in
    let i = c.args.w.label in
    let a = c.args.w.form in
    let cell = g.S.Store.cell c.args.self.now.rows in
    c.with_form.ensures b ∙ ap (λ t. t || eqb b a) (in_row_none b) ∙ eqb_flip b a
    ∙ ap (λ t. t && eqb a b) c.if-not-live.ensures ∙ sym ((orderly f cell).on_one i a b)
    ∙ ap (λ k. (frame_live f i a && frame_live f k b) && linked cell i a k b) c.if-w-j.true

pub row-requires : goal.row-requires
row-requires g c = live_form c.args.self.now.frame c.args.w.label c.args.w.form (passes _ (sym c.if-not-live.ensures))

pub returns-in-Some : goal.returns-in-Some
returns-in-Some g c b =
    let f = c.args.self.now.frame in
    let i = c.args.w.label in
    let a = c.args.w.form in
    let j = c.args.j in
    let cell = g.S.Store.cell c.args.self.now.rows in
    let labels = c.in-Some.labels in
    let apart = c.if-w-j.false in
    let rising : i < j = omega arith in
    let first : labels.first ≡ i = search rules in
    let second : labels.second ≡ j = search rules in
    c.among.ensures b
    ∙ ap (λ t. t && cell c.row.result b) (c.forms.ensures b)
    ∙ ap (λ n. frame_live f j b && cell n b) (c.row.ensures.place ∙ rw (first, second))
    ∙ ap (λ t. frame_live f j b && t) (sym (linked_up cell i a j b rising))
    ∙ ap (λ t. (t && frame_live f j b) && linked cell i a j b) c.if-not-live.ensures

pub returns-in-None : goal.returns-in-None
returns-in-None g c b =
    let f = c.args.self.now.frame in
    let apart = c.if-w-j.false in
    let none : Ordered f.count c.args.w.label c.args.j → ⊥ = search rules in
    let here = live_label f c.args.w.label c.args.w.form (passes _ (sym c.if-not-live.ensures)) in
    in_row_none b
    ∙ sym (and_left _ _ (and_right (frame_live f c.args.w.label c.args.w.form) _
    (live_out f c.args.j b (λ w. none (here.0, (omega (arith, c.requires, apart), w.1))))))
