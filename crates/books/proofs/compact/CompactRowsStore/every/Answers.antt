use Rattle.std.proofs.Common.{T, sym, subst, arith}
use Rattle.std.proofs.lemmas.List.{get_or-replicate}
use Rattle.rules.specs.Tables.{in_row}
use Rattle.rules.proofs.Truth.{passes}
use Rattle.rules.proofs.Rows.{in_row_within}
use Rattle.books.specs.declared.compact_row.CompactRow.{CompactRow}
use Rattle.books.specs.Compact.{reads, empty_row}
use Rattle.books.proofs.Bits.{in_row_all}
use Rattle.books.proofs.FirstTwo.{read_back}
use Rattle.books.proofs.compact.CompactRowsStore.every.Goals as goal

pub returns : goal.returns
returns c n b inside form =
    let row = c.of.result in
    let has = passes _ (in_row_all b form) in
    subst (λ (r : CompactRow). T (reads r.first r.second b)) (sym (get_or-replicate 1920 n row empty_row inside))
    (read_back (in_row 65535) (in_row 65535) (λ y. in_row_within 65535 y 16 (omega arith)) row.first row.second c.of.ensures b has has)
