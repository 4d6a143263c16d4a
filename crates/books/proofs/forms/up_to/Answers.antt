use Rattle.std.proofs.Common.{◌-◌, ◌&&◌, leb, ap, ◌∙◌, arith}
use Rattle.std.proofs.lemmas.Nat.{one_shl}
use Rattle.rules.specs.Tables.{in_row}
use Rattle.books.proofs.Bits.{in_row_first_forms}
use Rattle.books.proofs.forms.up_to.Goals as goal

pub returns : goal.returns
returns c b =
    ap (λ x. in_row (x - 1) b) (one_shl c.min.result 32 (omega (arith, c.min.ensures)))
    ∙ in_row_first_forms c.min.result b ∙ ap (λ m. leb 1 b && leb b m) c.min.ensures
