use Rattle.std.proofs.Common.{◌≡◌, ◌/◌, ◌^◌, sym, ap, ◌∙◌, arith}
use native.Mathlib.Nat.{div-eq_of_lt}
use Rattle.std.proofs.lemmas.Bool.{eqb-true, eq-eqb}
use Rattle.rules.proofs.Rows.{in_row_within, row_below, row_small}
use Rattle.rules.proofs.reading.ends_at.Goals as goal

pub returns : goal.returns
returns c =
    let row = c.args.row in
    let k = c.min.result in
    let same : c.from.result / 2 ^ k ≡ row / 2 ^ k = ap (λ r. r / 2 ^ k) c.from.ensures in (
      (λ e b t. omega (arith, (in_row_within row b k (row_small row k (sym same ∙ eqb-true _ 0 e)) t).1, c.min.ensures)),
      (λ ends. eq-eqb _ 0 (same ∙ div-eq_of_lt (row_below row k (λ b t. omega (arith, ends b t, (in_row_within row b 16 (omega arith) t).1, c.min.ensures))))),
    )
