use Rattle.std.proofs.Common.{◌≡◌, ℕ, ◌+◌, ◌<◌, ◌≤◌, true, false, MatchOption, Option, None, Some, rules, tests, arith}
use Rattle.std.proofs.lemmas.Iterator.{first_from_Range}
use Rattle.std.specs.Prelude.{unwrap_or}
use Rattle.rules.specs.Tables.{in_row}
use Rattle.rules.proofs.Truth.{fails, passes}
use Rattle.books.specs.Views.{Forms}
use Rattle.books.specs.Compact.{Next}
use Rattle.books.proofs.ends.form_after.Goals as goal

next_of : (row : Forms) (from : ℕ) (r : Option ℕ)
    → MatchOption r ((k : ℕ) → from + 1 ≤ k → k < 17 → row k ≡ false) (λ i. (from + 1 ≤ i) × (i < 17) × (row i ≡ true) × ((k : ℕ) → from + 1 ≤ k → k < i → row k ≡ false))
    → Next row from (unwrap_or r 17)
next_of row from None none = record { limit = omega arith; there = λ h. absurd (omega arith); between = λ b h l t. fails _ (none b (omega arith) l) t }
next_of row from (Some i) some = record {
  limit = omega (arith, some.1);
  there = λ h. (omega (arith, some.0), passes _ some.2);
  between = λ b h l t. fails _ (some.3 b (omega arith) l) t;
}

pub returns : goal.returns
returns c =
    let row = in_row c.args.row in
    next_of row c.args.from c.find.result
    (first_from_Range _ _ _ c.find.result (λ k. row k ≡ true) (λ k. row k ≡ false) c.find.ensures.ran (λ x q k. search (rules, tests)) (λ x q k. search (rules, tests)))
