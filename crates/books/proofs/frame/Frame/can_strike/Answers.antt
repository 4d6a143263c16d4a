use Rattle.std.proofs.Common.{◌-◌, slice_index_or, rules, refl, ap, arith}
use Rattle.std.proofs.lemmas.Bool.{false≢true}
use Rattle.rules.specs.Limits.{Within}
use Rattle.books.specs.Frames.{lacks_label, lacks_form}
use Rattle.books.specs.Labels.{size_in}
use Rattle.books.proofs.Slots.{read}
use Rattle.books.proofs.frame.Frame.can_strike.Goals as goal

pub returns-then-not-has_label : goal.returns-then-not-has_label
returns-then-not-has_label c = lacks_label (λ w. false≢true (c.if-not-has_label.ensures.1 w))

pub returns-then-not-contains : goal.returns-then-not-contains
returns-then-not-contains c =
    let s = c.args.self.now in
    let i = c.args.w.label in
    let there = c.if-not-has_label.ensures.0 refl in
    let is = read s i c.from.result c.index-self-from.result there c.from.ensures in
    let out : Within (slice_index_or s.labels (c.from.result - 1) c.index-self-from.result).size c.args.w.form → ⊥ = search rules in
    lacks_form there (λ w. out (w.0, omega (arith, w.1, size_in s i there, ap (λ l. l.size) is)))

pub returns : goal.returns
returns c =
    let s = c.args.self.now in
    let i = c.args.w.label in
    let there = c.if-not-has_label.ensures.0 refl in
    let is = read s i c.from.result c.index-self-from.result there c.from.ensures in
    let form : Within (slice_index_or s.labels (c.from.result - 1) c.index-self-from.result).size c.args.w.form = search rules in
    (there, (form.0, omega (arith, form.1, size_in s i there, ap (λ l. l.size) is)))
