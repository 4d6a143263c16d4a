use Rattle.std.proofs.Common.{◌≡◌, ◌-◌, min, not, ◌&&◌, ◌||◌, eqb, leb, sym, ap, ◌∙◌, arith}
use Rattle.std.proofs.lemmas.Bool.{eqb-true}
use Rattle.rules.specs.Tables.{in_row}
use Rattle.rules.proofs.Truth.{is_true, passes}
use Rattle.rules.proofs.Rows.{in_row_first, in_row_within}
use Rattle.books.proofs.FirstTwo.{tail_from, first_in, first_out}
use Rattle.books.proofs.compact_row.CompactRow.among.Goals as goal

pub with_form-requires : goal.with_form-requires
with_form-requires c = in_row_within c.args.live c.args.self.first 16 (omega arith) (passes _ (sym c.if-has_form.ensures))

pub returns-then-has_form : goal.returns-then-has_form
returns-then-has_form c b =
    let live = c.args.live in
    let first = c.args.self.first in
    let second = c.args.self.second in
    let small : min (second - 1) 16 ≡ second - 1 = omega (arith, c.args.self.two.1) in
    c.with_form.ensures b
    ∙ ap (λ t. t || eqb b first) (c.without-tail.ensures b ∙ ap (λ t. in_row live b && not t) (c.up_to.ensures b ∙ ap (λ m. leb 1 b && leb b m) small)
    ∙ tail_from (in_row live b) b second (in_row_first live b) c.args.self.two.0)
    ∙ first_in (in_row live b) (leb second b) (eqb b first) (λ e. passes _ (ap (in_row live) (eqb-true b first (is_true _ e)) ∙ sym c.if-has_form.ensures))

pub returns-else-has_form : goal.returns-else-has_form
returns-else-has_form c b =
    let live = c.args.live in
    let first = c.args.self.first in
    let second = c.args.self.second in
    let small : min (second - 1) 16 ≡ second - 1 = omega (arith, c.args.self.two.1) in
    c.without-tail.ensures b ∙ ap (λ t. in_row live b && not t) (c.up_to.ensures b ∙ ap (λ m. leb 1 b && leb b m) small)
    ∙ tail_from (in_row live b) b second (in_row_first live b) c.args.self.two.0
    ∙ first_out (in_row live b) (leb second b) (eqb b first) (λ e. ap (in_row live) (eqb-true b first (is_true _ e)) ∙ sym c.if-has_form.ensures)
