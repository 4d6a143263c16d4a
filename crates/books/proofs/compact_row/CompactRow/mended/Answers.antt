use Rattle.std.proofs.Common.{refl, sym, ◌∙◌}
use Rattle.std.proofs.lemmas.Bool.{and_left}
use Rattle.rules.specs.Tables.{in_row}
use Rattle.books.specs.Compact.{reads}
use Rattle.books.proofs.Bits.{in_row_none}
use Rattle.books.proofs.Mended.{kept_as}
use Rattle.books.proofs.compact_row.CompactRow.mended.Goals as goal

pub returns-then-not-live : goal.returns-then-not-live
returns-then-not-live c =
    kept_as (in_row 0) _ c.of.result c.of.result
    (λ b. in_row_none b ∙ sym (and_left _ (in_row c.args.given b) (and_left _ (reads c.args.self.first c.args.self.second b) (and_left _ _ (sym c.if-not-live.ensures)))))
    refl c.of.ensures
