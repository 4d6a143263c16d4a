use Rattle.std.proofs.Common.{ap, ◌∙◌}
use Rattle.std.proofs.lemmas.List.{get_or-replicate}
use Rattle.rules.specs.Tables.{in_row}
use Rattle.rules.proofs.Truth.{passes}
use Rattle.books.proofs.Bits.{in_row_all}
use Rattle.books.proofs.full.FullRowsStore.every.Goals as goal

pub returns : goal.returns
returns c n b room w = passes _ (ap (λ row. in_row row b) (get_or-replicate 1920 n 65535 0 room) ∙ in_row_all b w)
