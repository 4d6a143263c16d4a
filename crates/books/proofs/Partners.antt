-- The partners of a form, by the limits of every book, and a loop that gathers forms as the bits of a row.
use Rattle.std.proofs.Common.{◌≡◌, ℕ, ◌+◌, ◌<◌, ◌≤◌, true, false, ◌&&◌, ◌||◌, T, eqb, ltb, sym, ap, ◌∙◌, ⊎_elim, arith}
use Rattle.std.proofs.lemmas.Bool.{and_left, and_right, and_from, or_right, eq-eqb, ne_eqb, lt-ltb, le-ltb, cases_lt, cases_eq, cases_Bool}
use Rattle.std.proofs.lemmas.Bool.Decides.{nat_tests}
use Rattle.rules.specs.Limits.{max_forms, Within}
use Rattle.rules.specs.Tables.{in_row}
use Rattle.rules.proofs.Truth.{passes}
use Rattle.books.specs.Views.{Forms, View, Orderly}
use Rattle.books.specs.Bools.{or_false}
use Rattle.books.proofs.Bits.{in_row_none}
use Rattle.books.specs.Labels.{in_range}

-- a live form is one that a label can have
pub live_range : (v : View) → Orderly v → (i a : ℕ) → T (v.live i a) → Within v.labels i × Within max_forms a
live_range v o i a t =
    let s = o.living i a t in
    ⊎_elim (λ w. (w, (s.0, omega (arith, s.1, (o.sized i w).1)))) (λ out. absurd (omega (arith, s.0, s.1, o.outside i out))) (in_range v.labels i)

pub partner_range : (v : View) → Orderly v → (i a j b : ℕ) → T (v.permitted i a j b) → Within max_forms b
partner_range v o i a j b t = (live_range v o j b (o.both_live i a j b t).1).1

-- before the first round nothing is gathered; there is no form 0
pub gather_none : (P : Forms) → ((b : ℕ) → T (P b) → 1 ≤ b) → (x : ℕ) → in_row 0 x ≡ (ltb x 1 && P x)
gather_none P low x =
    in_row_none x
    ∙ sym (⊎_elim (λ z. ⊎_elim (λ t. absurd (omega (arith, low x (passes _ t)))) (λ f. and_right (ltb x 1) (P x) f) (cases_Bool (P x)))
    (λ z. and_left (ltb x 1) (P x) (le-ltb x 1 z)) (cases_lt x 1))

later : (x b : ℕ) → (x ≡ b → ⊥) → ltb x b ≡ ltb x (b + 1)
later x b ne = grind (arith, nat_tests)

-- the row has the forms of P before b; one round more, and the end
module _ (P : Forms) (row b : ℕ) (gathered : (x : ℕ) → in_row row x ≡ (ltb x b && P x)) where
  pub gather_in : (row' : ℕ) → ((x : ℕ) → in_row row' x ≡ (in_row row x || eqb x b)) → P b ≡ true → (x : ℕ) → in_row row' x ≡ (ltb x (b + 1) && P x)
  gather_in row' put is x =
      put x ∙ ap (λ t. t || eqb x b) (gathered x)
      ∙ ⊎_elim (λ e. or_right (ltb x b && P x) (eqb x b) (eq-eqb x b e) ∙ sym (and_from (ltb x (b + 1)) (P x) (lt-ltb x (b + 1) (omega arith)) (ap P e ∙ is)))
      (λ ne. ap (λ t. (ltb x b && P x) || t) (ne_eqb x b ne) ∙ or_false (ltb x b && P x) ∙ ap (λ t. t && P x) (later x b ne))
      (cases_eq x b)

  pub gather_out : P b ≡ false → (x : ℕ) → in_row row x ≡ (ltb x (b + 1) && P x)
  gather_out is x =
      gathered x ∙ ⊎_elim (λ e. and_right (ltb x b) (P x) (ap P e ∙ is) ∙ sym (and_right (ltb x (b + 1)) (P x) (ap P e ∙ is)))
      (λ ne. ap (λ t. t && P x) (later x b ne))
      (cases_eq x b)

  pub gather_done : max_forms < b → ((x : ℕ) → T (P x) → x ≤ max_forms) → (x : ℕ) → in_row row x ≡ P x
  gather_done past high x =
      gathered x ∙ ⊎_elim (λ t. and_from (ltb x b) (P x) (lt-ltb x b (omega (arith, high x (passes _ t)))) t ∙ sym t) (λ f. and_right (ltb x b) (P x) f ∙ sym f) (cases_Bool (P x))
