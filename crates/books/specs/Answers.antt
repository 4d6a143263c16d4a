-- What a test, given as a closure, answers: post x r says that it may answer r to x. Assumes nothing.
use Rattle.std.specs.Prelude.{◌≡◌, ℕ, Bool}
use Rattle.books.specs.declared.label_pair.LabelPair.{LabelPair}
use Rattle.books.specs.Views.{Forms}

-- P b is whatever it may answer to form b
abbrev pub AnswersForms : (ℕ → Bool → Type 0) → Forms → Type 0
AnswersForms post P = (b : ℕ) (r : Bool) → post b r → P b ≡ r

-- P i j is whatever it may answer to labels i and j
abbrev pub AnswersPairs : (LabelPair → Bool → Type 0) → (ℕ → ℕ → Bool) → Type 0
AnswersPairs post P = (labels : LabelPair) (r : Bool) → post labels r → P labels.first labels.second ≡ r
