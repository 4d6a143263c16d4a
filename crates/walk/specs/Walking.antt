-- What a step with a book s, which is then t, answers: that which the call or question of the step promises. Assumes nothing.
use Rattle.std.specs.Prelude.{◌≡◌, ℕ, ◌<◌, List, Ok, slice_index}
use Rattle.rules.specs.Tables.{in_row}
use Rattle.books.specs.Views.{View}
use Rattle.books.specs.Holding.{Holds}
use Rattle.books.specs.Outcomes.{Opening, Striking, Narrowing}
use Rattle.books.specs.Outcomes as outcomes
use Rattle.walk.specs.declared.step.Step.{Step}
use Rattle.walk.specs.declared.step.Step.TheVariants.{Open, Empty, Labels, Size, Live, Permitted, Partners, Strike, Narrow}
use Rattle.walk.specs.declared.step.Answer.{Answer}
use Rattle.walk.specs.declared.step.Answer.TheVariants.{Outcome, Count, Yes, Forms}

-- the first sixteen rows, with empty ones for those that are missing
abbrev pub Sixteen : List ℕ → List ℕ → Type 0
Sixteen rows all = (k : ℕ) → k < 16 → slice_index all k ≡ slice_index rows k

-- s is the book before the step, t the book after it
abbrev pub Walked : {B : Type 0} → (B → View) → Holds → B → B → Step → Answer → Type 0
Walked view holds s t (Open sizes) answer = (r : outcomes.Answer) × (Opening view s sizes.now t r × (answer ≡ Outcome r))
Walked view holds s t Empty answer = ((view t).labels ≡ 0) × (answer ≡ Outcome (Ok tt))
Walked view holds s t Labels answer = (t ≡ s) × (answer ≡ Count (view s).labels)
Walked view holds s t (Size i) answer = (t ≡ s) × (answer ≡ Count ((view s).size i))
Walked view holds s t (Live w) answer = (t ≡ s) × (answer ≡ Yes ((view s).live w.label w.form))
Walked view holds s t (Permitted one two) answer = (t ≡ s) × (answer ≡ Yes ((view s).permitted one.label one.form two.label two.form))
Walked view holds s t (Partners w j) answer =
    (t ≡ s) × ((row : ℕ) × (((b : ℕ) → in_row row b ≡ (view s).permitted w.label w.form j b) × (answer ≡ Forms row)))
Walked view holds s t (Strike w) answer = (r : outcomes.Answer) × (Striking view s w.label w.form t r × (answer ≡ Outcome r))
Walked view holds s t (Narrow i j rows) answer =
    (all : List ℕ) × (Sixteen rows.now all × ((r : outcomes.Answer) × (Narrowing view holds s i j all t r × (answer ≡ Outcome r))))
