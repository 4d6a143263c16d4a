use Rattle.std.proofs.Common.{◌+◌, ◌-◌, arith, rules}
use Rattle.rules.proofs.Rows.{permits_first, permits_row, row_permits}
use Rattle.rules.proofs.lent.Lent.is_table.Goals as goal

pub returns-then-contains-2 : goal.returns-then-contains-2
returns-then-contains-2 c =
    let rows = c.args.self.rows.now in (
      (λ e. record {
        height = search rules;
        width = search rules;
        inside = λ a b h. let first = permits_first rows a b h in c.all_end_at.ensures.0 e (a - 1) (omega (arith, first)) b (permits_row rows a b h).1;
      }),
      (λ t. c.all_end_at.ensures.1 (λ k l b h. t.inside (k + 1) b (row_permits rows k b h))),
    )
