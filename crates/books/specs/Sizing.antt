-- A label of no forms.
use Rattle.std.specs.Prelude.{ℕ, ◌≤◌, T}
use Rattle.std.proofs.Common.{arith, ⊎_elim}
use Rattle.std.proofs.lemmas.Bool.{cases_lt}
use Rattle.std.proofs.lemmas.Nat.{pow_pos}
use Rattle.rules.specs.Tables.{in_row}
use Rattle.rules.proofs.Truth.{fails}
use Rattle.rules.proofs.Rows.{in_row_past}
use Rattle.books.specs.declared.label.Label.{Label}

-- no form, so none past its size
pub none_living : (a : ℕ) → T (in_row 0 a) → a ≤ 0
none_living a t = ⊎_elim (λ past. absurd (fails _ (in_row_past 0 a 0 (pow_pos 0) past) t)) (λ near. near) (cases_lt 0 a)

-- what stands in a slot of a frame that no label of the panel has
abbrev pub no_label : Label
no_label = record { size = 0; live = 0; sized = omega arith; living = none_living }
