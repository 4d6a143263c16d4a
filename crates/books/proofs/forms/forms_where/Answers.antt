use Rattle.std.proofs.Common.{◌≡◌, ℕ, ◌+◌, ◌&&◌, ltb, sym, ◌∙◌, subst}
use Rattle.rules.specs.Tables.{in_row}
use Rattle.books.proofs.Partners.{gather_none, gather_in, gather_out, gather_done}
use Rattle.books.proofs.forms.forms_where.Goals as goal
use Rattle.books.proofs.forms.forms_where.Goals.{then-picks, else-picks}

pub loop-b-init : goal.loop-b-init
loop-b-init g c P tells range = gather_none P (λ b t. (range b t).0)

pub loop-b-preserved : goal.loop-b-preserved
loop-b-preserved g c P tells range =
    let b = c.loop-b.b in
    let before = c.loop-b.invariant P tells range in
    let asked : P b ≡ c.picks.result = tells b _ c.picks.ensures in
    let Goal : ℕ → Type 0 = λ row. (x : ℕ) → in_row row x ≡ (ltb x (b + 1) && P x) in
    elim c.if-picks.branch [
      | then-picks w ↦ subst Goal (sym w.row-is) (gather_in P c.loop-b.row b before w.with_form-row.result w.with_form-row.ensures (asked ∙ w.if-picks.true))
      | else-picks w ↦ subst Goal (sym w.row-is) (gather_out P c.loop-b.row b before (asked ∙ w.if-picks.false))
    ]

pub returns : goal.returns
returns g c P tells range = gather_done P c.loop-b.row c.loop-b.b (c.loop-b.invariant P tells range) c.loop-b-test.false (λ x t. (range x t).1)
