-- Laws of `&&` and `||`, and tests under other tests.
use Rattle.std.specs.Prelude.{◌≡◌, Bool, true, false, ◌&&◌, ◌||◌, T, refl}
use Rattle.std.proofs.Common.{sym, ◌∙◌}
use Rattle.rules.proofs.Truth.{is_true}

pub and_true : (x : Bool) → (x && true) ≡ x
and_true true = refl
and_true false = refl

and_false : (x : Bool) → (x && false) ≡ false
and_false true = refl
and_false false = refl

pub or_false : (x : Bool) → (x || false) ≡ x
or_false true = refl
or_false false = refl

pub and_flip : (x y : Bool) → (x && y) ≡ (y && x)
and_flip true true = refl
and_flip true false = refl
and_flip false true = refl
and_flip false false = refl

pub and_assoc : (x y z : Bool) → ((x && y) && z) ≡ (x && (y && z))
and_assoc true y z = refl
and_assoc false y z = refl

pub and_turn : (x y z : Bool) → ((x && z) && y) ≡ ((x && y) && z)
and_turn true y z = and_flip z y
and_turn false y z = refl

-- two tests that imply each other
pub same_test : (x y : Bool) → (T x → T y) → (T y → T x) → x ≡ y
same_test true y h k = sym (is_true y (h tt))
same_test false true h k = absurd (k tt)
same_test false false h k = refl

pub left_from : (x y : Bool) → T (x && y) → T x
left_from true y t = tt
left_from false y t = absurd t

pub both_from : (x y p : Bool) → T ((x && y) && p) → T x × T y
both_from true true p t = (tt, tt)
both_from true false p t = absurd t
both_from false y p t = absurd t

pub both_in : (x y p : Bool) → T x → T y → T p → T ((x && y) && p)
both_in true true p h k t = t
both_in true false p h k t = absurd k
both_in false y p h k t = absurd h

-- p and q agree where x and y hold
pub gate : (x y p q : Bool) → (T x → T y → p ≡ q) → ((x && y) && p) ≡ ((x && y) && q)
gate true true p q h = h tt tt
gate true false p q h = refl
gate false y p q h = refl

-- and the other way round, with one test more
pub under : (x y p q r : Bool) → T x → T y → ((x && y) && p) ≡ (((x && y) && q) && r) → p ≡ (q && r)
under true true p q r h k e = e
under true false p q r h k e = absurd k
under false y p q r h k e = absurd h

-- x' and y' imply x and y, and p and q agree where they hold
pub still : (x y x' y' p q : Bool) → (T x' → T x) → (T y' → T y) → (T x' → T y' → p ≡ q) → ((x' && y') && p) ≡ (((x && y) && q) && (x' && y'))
still true true true true p q hx hy h = h tt tt ∙ sym (and_true q)
still true false true true p q hx hy h = absurd (hy tt)
still false y true true p q hx hy h = absurd (hx tt)
still x y true false p q hx hy h = sym (and_false ((x && y) && q))
still x y false y' p q hx hy h = sym (and_false ((x && y) && q))
