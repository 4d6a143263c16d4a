-- A test that passes, as T says it and as an equation.
use Rattle.std.proofs.Common.{◌≡◌, Bool, true, false, T, sym, refl, subst}

pub is_true : (b : Bool) → T b → b ≡ true
is_true true h = refl
is_true false h = absurd h

pub passes : (b : Bool) → b ≡ true → T b
passes b e = subst T (sym e) tt

pub fails : (b : Bool) → b ≡ false → T b → ⊥
fails b e h = subst T e h
