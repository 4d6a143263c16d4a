use Rattle.std.proofs.Common.{sym, ◌∙◌, arith}
use Rattle.rules.proofs.Rows.{permits_zero, permits_past, permits_at}
use Rattle.rules.proofs.reading.has_pair.Goals as goal
use Rattle.rules.proofs.reading.has_pair.Goals.{then-a-eq0-via-then-a-eq0, then-a-eq0-via-else-a-eq0+then-a-rows}

pub returns-then-a-eq0 : goal.returns-then-a-eq0
returns-then-a-eq0 c =
    let rows = c.args.rows.now in
    let a = c.args.pair.0 in
    let b = c.args.pair.1 in
    elim c.then-a-eq0.branch [
      | then-a-eq0-via-then-a-eq0 w ↦ sym (permits_zero rows a b (omega arith))
      | then-a-eq0-via-else-a-eq0+then-a-rows w ↦ sym (permits_past rows a b (omega arith))
    ]

pub returns : goal.returns
returns c = c.has_form.ensures ∙ sym (permits_at c.args.rows.now c.args.pair.0 c.args.pair.1 (omega arith))
