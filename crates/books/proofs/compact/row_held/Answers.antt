use Rattle.std.proofs.Common.{◌≡◌, ℕ, ◌-◌, ◌&&◌, get_or, sym, ap, ◌∙◌}
use Rattle.rules.specs.Tables.{in_row}
use Rattle.rules.proofs.Rows.{permits_at}
use Rattle.rules.proofs.Truth.{passes}
use Rattle.books.specs.Frames.{frame_live, frame_cut}
use Rattle.books.specs.Bools.{and_flip}
use Rattle.books.proofs.FirstTwo.{tailed_as}
use Rattle.books.proofs.compact.row_held.Goals as goal

pub returns-else-not-live : goal.returns-else-not-live
returns-else-not-live c =
    let f = c.args.frame.now in
    let i = c.args.labels.first in
    let a = c.args.form in
    let j = c.args.labels.second in
    let rows = c.args.rows.now in
    let row = get_or rows (a - 1) 0 in
    let same : (b : ℕ) → in_row c.both.result b ≡ frame_cut f i j rows a b = λ b.
    c.both.ensures b ∙ ap (λ n. in_row c.forms-live.result b && in_row (get_or rows (n - 1) 0) b) c.from.ensures
    ∙ ap (λ t. t && in_row row b) (c.forms-live.ensures b) ∙ and_flip (frame_live f j b) (in_row row b)
    ∙ ap (λ t. in_row row b && (t && frame_live f j b)) c.if-not-live.ensures
    ∙ ap (λ t. t && (frame_live f i a && frame_live f j b)) (sym (permits_at rows a b c.requires.0)) in (
      (λ e _. tailed_as (in_row c.forms-live.result) (frame_live f j) (in_row c.both.result) (frame_cut f i j rows a) c.forms-live.ensures same (c.tailed.ensures.0 e)),
      (λ held. c.tailed.ensures.1 (tailed_as (frame_live f j) (in_row c.forms-live.result) (frame_cut f i j rows a) (in_row c.both.result) (λ b. sym (c.forms-live.ensures b)) (λ b. sym (same b))
          (held (passes _ (sym c.if-not-live.ensures))))),
    )
