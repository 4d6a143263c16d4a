use Rattle.std.proofs.Common.{◌≡◌, ℕ, not, T, sym, ap, ◌∙◌, ⊎_elim, arith}
use Rattle.std.proofs.lemmas.Bool.{eqb-true, eq-eqb, and_from, and_parts, not-true, cases_Bool, both_ways}
use Rattle.rules.specs.Limits.{Within, max_forms}
use Rattle.rules.specs.Tables.{in_row}
use Rattle.rules.proofs.Truth.{is_true, passes}
use Rattle.rules.proofs.Rows.{in_row_first, in_row_within}
use Rattle.books.specs.Compact.{reads}
use Rattle.books.proofs.Bits.{in_row_none, row_none}
use Rattle.books.proofs.FirstTwo.{tailed_back, read_only}
use Rattle.books.proofs.compact.tailed.Goals as goal

pub returns : goal.returns
returns c =
    let row = c.args.row in
    let live = c.args.live in
    let f = c.of.result.first in
    let s = c.of.result.second in
    let read = c.among.result in
    let more = c.without.result in
    let forms : (b : ℕ) → T (in_row live b) → Within max_forms b = λ b. in_row_within live b 16 (omega arith) in (
      (λ e.
          let zero : more ≡ 0 = eqb-true more 0 e in
          tailed_back (in_row live) (in_row row) forms f s c.of.ensures (in_row_first row)
          (λ b m r. ⊎_elim (λ yes. passes _ yes)
          (λ missing. absurd (both_ways (in_row more b) (ap (λ n. in_row n b) zero ∙ in_row_none b)
          (c.without.ensures b ∙ and_from (in_row read b) (not (in_row row b)) (c.among.ensures b ∙ and_from (in_row live b) (reads f s b) (is_true _ m) (is_true _ r)) (ap not missing))))
          (cases_Bool (in_row row b)))),
      (λ tailed. eq-eqb more 0 (row_none more (λ b t.
          let p = and_parts (in_row read b) (not (in_row row b)) (sym (c.without.ensures b) ∙ is_true _ t) in
          let q = and_parts (in_row live b) (reads f s b) (sym (c.among.ensures b) ∙ p.0) in
          both_ways (in_row row b) (not-true _ p.1) (is_true _ (read_only (in_row live) (in_row row) forms f s c.of.ensures tailed b (passes _ q.0) (passes _ q.1)))))),
    )
