use Rattle.std.proofs.Common.{◌≡◌, ℕ, ◌+◌, ◌-◌, ◌<◌, ◌≤◌, min, T, get_or, ap, sym, subst, ◌∙◌, ⊎_elim, arith}
use Rattle.std.proofs.lemmas.Bool.{false≢true, cases_lt}
use Rattle.std.proofs.lemmas.List.{get_or-take, get_or-drop}
use Rattle.rules.specs.Tables.{in_row}
use Rattle.rules.proofs.Rows.{in_row_first, permits_first, permits_row, row_permits}
use Rattle.books.proofs.table.fits_sizes.Goals as goal

pub returns-then-all_end_at : goal.returns-then-all_end_at
returns-then-all_end_at c =
    let rows = c.args.rows.now in
    let h = min c.args.height 16 in
    let from : c.min.result ≡ h = c.min.ensures ∙ ap (λ n. min n 16) c.from.ensures in
    let front : (k b : ℕ) → k < h → T (in_row (get_or rows k 0) b) → b ≤ c.args.width = λ k b l t.
    let same : get_or c.split_at.result.0.now k 0 ≡ get_or rows k 0 = ap (λ p. get_or p k 0) c.split_at.ensures.front ∙ get_or-take c.min.result rows k 0 (omega (arith, from)) in
    c.all_end_at.ensures.0 c.if-all_end_at.true k (omega (arith, c.split_at.ensures.front_len, from)) b (subst (λ row. T (in_row row b)) (sym same) t) in
    let back : (k : ℕ) → get_or c.split_at.result.1.now k 0 ≡ get_or rows (c.min.result + k) 0 = λ k.
    ap (λ p. get_or p k 0) c.split_at.ensures.back ∙ get_or-drop c.min.result rows k 0 in (
      (λ e a b t.
          let first = permits_first rows a b t in
          let bit = (permits_row rows a b t).1 in
          ⊎_elim (λ inside. (omega (arith, first.0), front (a - 1) b inside bit))
          (λ past.
          let k = a - 1 - h in
          let place : c.min.result + k ≡ a - 1 = omega (arith, from) in
          let none : b ≤ 0 = c.all_end_at-then-all_end_at.ensures.0 e k (omega (arith, c.split_at.ensures.back_len, from, first.0, first.1)) b
          (subst (λ row. T (in_row row b)) (sym (back k ∙ ap (λ n. get_or rows n 0) place)) bit) in
          absurd (omega (arith, none, in_row_first _ b bit)))
          (cases_lt (a - 1) h)),
      (λ fits. c.all_end_at-then-all_end_at.ensures.1 (λ k l b t.
          let p = fits (c.min.result + k + 1) b (row_permits rows (c.min.result + k) b (subst (λ row. T (in_row row b)) (back k) t)) in
          absurd (omega (arith, p.0, from)))),
    )

pub returns-else-all_end_at : goal.returns-else-all_end_at
returns-else-all_end_at c =
    let rows = c.args.rows.now in
    let from : c.min.result ≡ min c.args.height 16 = c.min.ensures ∙ ap (λ n. min n 16) c.from.ensures in (
      (λ e. absurd (false≢true (sym c.if-all_end_at.false ∙ e))),
      (λ fits. c.all_end_at.ensures.1 (λ k l b t.
          let short : k < c.min.result = omega (arith, l, c.split_at.ensures.front_len) in
          let same : get_or c.split_at.result.0.now k 0 ≡ get_or rows k 0 = ap (λ p. get_or p k 0) c.split_at.ensures.front ∙ get_or-take c.min.result rows k 0 short in
          (fits (k + 1) b (row_permits rows k b (subst (λ row. T (in_row row b)) same t))).1)),
    )
