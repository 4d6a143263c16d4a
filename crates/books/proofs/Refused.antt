-- A strike that the frame refuses, as the book answers it.
use Rattle.std.proofs.Common.{ℕ, refl, Err}
use Rattle.rules.specs.declared.refusal.Refusal.{Refusal}
use Rattle.books.specs.Views.{View}
use Rattle.books.specs.Outcomes.{Striking, strike_no_label, strike_no_form}
use Rattle.books.specs.Frames.{StrikeRefused, lacks_label, lacks_form}

pub strike_refused : {B : Type 0} (view : B → View) (s : B) (i a : ℕ) (e : Refusal) → StrikeRefused (view s).labels (view s).size i a e → Striking view s i a s (Err e)
strike_refused view s i a _ (lacks_label none) = strike_no_label none refl
strike_refused view s i a _ (lacks_form there none) = strike_no_form there none refl
