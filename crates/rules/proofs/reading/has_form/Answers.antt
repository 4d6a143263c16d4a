use Rattle.std.proofs.Common.{◌-◌, ◌/◌, ◌^◌, eqb, sym, ap, ◌∙◌, ⊎_elim, arith}
use lib.Bits.{and_mask}
use Rattle.rules.proofs.Rows.{in_row_zero, in_row_past, in_row_at}
use Rattle.rules.proofs.reading.has_form.Goals as goal

pub returns-then-b-eq0 : goal.returns-then-b-eq0
returns-then-b-eq0 c =
    let row = c.args.row in
    let b = c.args.b in
    sym (⊎_elim (λ e. in_row_zero row b e) (λ p. in_row_past row b 16 (omega arith) (omega arith)) c.then-b-eq0.either)

pub returns : goal.returns
returns c =
    ap (λ n. eqb n 1) (and_mask (c.args.row / 2 ^ (c.args.b - 1)) 1) ∙ sym (in_row_at c.args.row c.args.b (omega arith))
