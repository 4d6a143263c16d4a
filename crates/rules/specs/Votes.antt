-- Votes on three forms: what every vote keeps, and the votes of rules 1 and 2. Assumes nothing.
use Rattle.std.specs.Prelude.{◌≡◌, ℕ, ◌+◌, ◌-◌, min, max, cond, ◌⊎◌, ◌==◌}

-- three forms in their order, and the form that is voted for
abbrev pub Vote : Type 0
Vote = ℕ → ℕ → ℕ → ℕ

-- two equal forms win, wherever they stand
pub record Majority (vote : Vote) : Type 0 where
  pub first_two : (a b : ℕ) → vote a a b ≡ a
  pub outer_two : (a b : ℕ) → vote a b a ≡ a
  pub last_two : (a b : ℕ) → vote b a a ≡ a

-- the vote never falls on a fourth form
abbrev pub Chosen : Vote → Type 0
Chosen vote = (a b c : ℕ) → (vote a b c ≡ a) ⊎ ((vote a b c ≡ b) ⊎ (vote a b c ≡ c))

-- two votes that agree on every three forms
abbrev pub SameVote : Vote → Vote → Type 0
SameVote u v = (a b c : ℕ) → u a b c ≡ v a b c

-- rule 1: the form that two of the three share, or else the greatest of the three
abbrev pub greatest : Vote
greatest a b c = cond (a == b) a (cond (a == c) a (cond (b == c) b (max a (max b c))))

-- rule 2: the middle one, which is left of the three without the greatest and the least; two equal forms are the middle
abbrev pub middle : Vote
middle a b c = (a + b + c) - (max a (max b c) + min a (min b c))
