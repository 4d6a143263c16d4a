use Rattle.std.proofs.Common.{◌≡◌, ◌-◌, ◌&&◌, eqb, get_or, sym, ap, ◌∙◌, rules}
use Rattle.std.proofs.lemmas.Bool.{and_parts, and_from, eqb-true, eq-eqb}
use Rattle.rules.specs.Tables.{in_row}
use Rattle.rules.proofs.Truth.{is_true, passes}
use Rattle.books.specs.Frames.{frame_live, row_at}
use Rattle.books.specs.Compact.{KeptIn, empty_row, compact_row, pairs, reads}
use Rattle.books.specs.Linked.{linked_up}
use Rattle.books.proofs.Places.{row_apart}
use Rattle.books.proofs.Mended.{kept_as}
use Rattle.books.proofs.compact.CompactRows.mend.Goals as goal

pub returns : goal.returns
returns c p q x o w =
    let f = c.args.frame.now in
    let s = c.args.self.now in
    let i = c.args.labels.first in
    let j = c.args.labels.second in
    let given = in_row (get_or c.args.given.now (x - 1) 0) in (
      (λ h.
          let e = and_parts (eqb p i) (eqb q j) (is_true _ h) in
          let pi = eqb-true p i e.0 in
          let qj = eqb-true q j e.1 in
          let here : row_at p q x ≡ row_at i j x = ap (λ z. row_at z q x) pi ∙ ap (λ z. row_at i z x) qj in
          let row = compact_row s (row_at i j x) in
          let is : KeptIn (λ b. ((frame_live f i x && frame_live f j b) && reads row.first row.second b) && given b) (get_or c.rewrite.new.self.rows (row_at i j x) empty_row) =
          search (rules, c.rewrite.ensures.inside x empty_row w) in
          kept_as _ _ (get_or c.rewrite.new.self.rows (row_at i j x) empty_row) _
          (λ b. ap (λ z. ((frame_live f z x && frame_live f j b) && reads row.first row.second b) && given b) (sym pi)
          ∙ ap (λ z. ((frame_live f p x && frame_live f z b) && reads row.first row.second b) && given b) (sym qj)
          ∙ ap (λ n. ((frame_live f p x && frame_live f q b) && pairs s n b) && given b) (sym here)
          ∙ ap (λ t. ((frame_live f p x && frame_live f q b) && t) && given b) (sym (linked_up (pairs s) p x q b o.1.0)))
          (ap (λ n. get_or c.rewrite.new.self.rows n empty_row) here) is),
      (λ h. c.rewrite.ensures.outside (row_at p q x) empty_row
          (row_apart i j p q x c.args.labels.ordered.0 c.args.labels.ordered.1.0 o.0 o.1.0 w
          (λ e. h (passes _ (and_from (eqb p i) (eqb q j) (eq-eqb p i e.0) (eq-eqb q j e.1)))))),
    )
