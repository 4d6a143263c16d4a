-- The two books of this crate by name, for definitions: in code their names are aliases, which definitions cannot cite.
use Rattle.rules.specs.declared.votes.Greatest.{Greatest}
use Rattle.rules.specs.declared.rule.Rule as rule
use Rattle.rules.specs.contracts.votes.GreatestRule.TheImpl as greatest
use Rattle.books.specs.declared.stored.Stored.{Stored}
use Rattle.books.specs.contracts.compact.CompactRowsStore.TheImpl as compact
use Rattle.books.specs.contracts.full.FullRowsStore.TheImpl as full
use Rattle.books.specs.Full.{FullRows}
use Rattle.books.specs.Compact.{CompactRows}

-- the compact book
abbrev pub CompactBook : Type 0
CompactBook = Stored Greatest CompactRows greatest.ghosts compact.ghosts

-- the full book for a rule
abbrev pub FullBook : (R : Type 0) → rule.Ghosts R → Type 0
FullBook R voting = Stored R FullRows voting full.ghosts
