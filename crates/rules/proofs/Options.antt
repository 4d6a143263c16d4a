-- What an option gives, said in other words.
use Rattle.std.proofs.Common.{MatchOption, Option, None, Some}

pub match_option : {X P P' : Type 0} {Q Q' : X → Type 0} (r : Option X) → (P → P') → ((x : X) → Q x → Q' x) → MatchOption r P Q → MatchOption r P' Q'
match_option None none some p = none p
match_option (Some x) none some q = some x q

-- two things known of one option
pub option_cases : {X P P' : Type 0} {Q Q' : X → Type 0} {G : Type 0} (r : Option X) → MatchOption r P Q → MatchOption r P' Q'
    → (P → P' → G) → ((x : X) → Q x → Q' x → G) → G
option_cases None p p' none some = none p p'
option_cases (Some x) q q' none some = some x q q'
