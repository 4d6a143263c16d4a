-- Lent rows taken for a table, and the three pairs that show why a table is not closed. Assumes nothing.
use Rattle.std.specs.Prelude.{◌≡◌, T, MatchResult, Result}
use Rattle.rules.specs.declared.pair.Pair.{Pair}
use Rattle.rules.specs.declared.lent.Lent.{Lent}
use Rattle.rules.specs.declared.table.Table as tables
use Rattle.rules.specs.declared.witness.Witness.{Witness}
use Rattle.rules.specs.declared.refusal.Refusal.{Refusal}
use Rattle.rules.specs.declared.refusal.Refusal.TheVariants.{NoTable}
use Rattle.rules.specs.Votes.{Vote}
use Rattle.rules.specs.Tables.{Table, IsTable, permits}

-- the pairs of a table
abbrev pub pairs_of : tables.Table → Table
pairs_of t = permits t.lent.rows.now

-- the pair is one of the table
abbrev pub Has : Table → Pair → Type 0
Has t p = T (t p.0 p.1)

-- the very rows, where they are a table, or else the refusal that they are none
abbrev pub Checked : Lent → Result tables.Table Refusal → Type 0
Checked lent result = MatchResult result (λ t. t.lent ≡ lent) (λ e. (e ≡ NoTable) × (IsTable lent.rows.now lent.size → ⊥))

-- three pairs of the table vote for a pair that is none of it
pub record Breaks (vote : Vote) (t : Table) (w : Witness) : Type 0 where
  pub one : Has t w.one
  pub two : Has t w.two
  pub three : Has t w.three
  pub first : w.vote.0 ≡ vote w.one.0 w.two.0 w.three.0
  pub second : w.vote.1 ≡ vote w.one.1 w.two.1 w.three.1
  pub outside : Has t w.vote → ⊥
