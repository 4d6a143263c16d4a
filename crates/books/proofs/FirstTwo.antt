-- A row, its first and second form, and what these two numbers read back.
use Rattle.std.proofs.Common.{◌≡◌, ℕ, ◌-◌, ◌≤◌, Bool, true, false, not, ◌&&◌, ◌||◌, T, eqb, leb, sym, refl, ap, ◌∙◌, subst, ⊎_elim, arith}
use mathlib.Core.Path.{fun_ext}
use Rattle.std.proofs.lemmas.Bool.{and_parts, and_from, or_cases, or_left, or_right, eq-eqb, eqb-true, le-leb, lt-leb, leb-true, cases_lt, cases_order, false≢true}
use Rattle.rules.specs.Limits.{Within, max_forms}
use Rattle.rules.proofs.Truth.{is_true, passes}
use Rattle.books.specs.Views.{Forms}
use Rattle.books.specs.Compact.{Tailed, FirstTwo, reads}
use Rattle.books.specs.Bools.{same_test}

pub first_two_as : (t u : Forms) (f s : ℕ) → ((b : ℕ) → t b ≡ u b) → FirstTwo t f s → FirstTwo u f s
first_two_as t u f s e = subst (λ r. FirstTwo r f s) (fun_ext e)

pub tailed_as : (M M' t t' : Forms) → ((b : ℕ) → M b ≡ M' b) → ((b : ℕ) → t b ≡ t' b) → Tailed M t → Tailed M' t'
tailed_as M M' t t' m e h = subst (λ N. Tailed N t') (fun_ext m) (subst (Tailed M) (fun_ext e) h)

-- the live forms from s on, as the code has them
pub tail_from : (live : Bool) (b s : ℕ) → (T live → 1 ≤ b) → 1 ≤ s → (live && not (leb 1 b && leb b (s - 1))) ≡ (live && leb s b)
tail_from false b s low h = refl
tail_from true b s low h =
    ap (λ t. not (t && leb b (s - 1))) (le-leb 1 b (low tt))
    ∙ ⊎_elim (λ l. ap not (le-leb b (s - 1) (omega arith)) ∙ sym (lt-leb s b l)) (λ l. ap not (lt-leb b (s - 1) (omega arith)) ∙ sym (le-leb s b l)) (cases_lt b s)

-- with the first form put to them, where it is live
pub first_in : (live tail is : Bool) → (T is → T live) → ((live && tail) || is) ≡ (live && (is || tail))
first_in true true true h = refl
first_in true true false h = refl
first_in true false true h = refl
first_in true false false h = refl
first_in false tail true h = absurd (h tt)
first_in false tail false h = refl

-- and without, where it is not
pub first_out : (live tail is : Bool) → (T is → live ≡ false) → (live && tail) ≡ (live && (is || tail))
first_out true tail true h = absurd (false≢true (sym (h tt)))
first_out true tail false h = refl
first_out false tail is h = refl

-- what two numbers read back has every live form from its second on
pub reads_tailed : (M t : Forms) (f s : ℕ) → Tailed M t → Tailed M (λ b. t b && reads f s b)
reads_tailed M t f s tailed p q b tp tq h k m =
    let x = and_parts (t p) (reads f s p) (is_true _ tp) in
    let y = and_parts (t q) (reads f s q) (is_true _ tq) in
    let low : s ≤ q = ⊎_elim
    (λ e. let eq = eqb-true q f e in ⊎_elim (λ d. let ep = eqb-true p f d in absurd (omega arith)) (λ d. let l = leb-true s p d in omega arith) (or_cases (eqb p f) (leb s p) x.1))
    (λ e. leb-true s q e) (or_cases (eqb q f) (leb s q) y.1) in
    passes _ (and_from (t b) (reads f s b) (is_true _ (tailed p q b (passes _ x.0) (passes _ y.0) h k m)) (or_right (eqb b f) (leb s b) (le-leb s b (omega arith))))

module _ (M t : Forms) (forms : (b : ℕ) → T (M b) → Within max_forms b) (f s : ℕ) (two : FirstTwo t f s) where
  -- a form of the row is read back
  pub read_back : (b : ℕ) → T (M b) → T (t b) → T (reads f s b)
  read_back b m h =
      let w = forms b m in
      ⊎_elim (λ e. passes _ (or_left (eqb b f) (leb s b) (eq-eqb b f e)))
      (⊎_elim (λ l. absurd (two.first.between b w.0 l h))
      (λ l. ⊎_elim (λ k. absurd (two.second.between b l k h)) (λ k. passes _ (or_right (eqb b f) (leb s b) (le-leb s b k))) (cases_lt b s)))
      (cases_order b f)

  -- and no other, where the row has every live form from its second on
  pub read_only : Tailed M t → (b : ℕ) → T (M b) → T (reads f s b) → T (t b)
  read_only tailed b m r =
      let w = forms b m in
      ⊎_elim (λ e. let same = eqb-true b f e in subst (λ x. T (t x)) (sym same) (two.first.there (omega (arith, w.1))).1)
      (λ e.
      let l = leb-true s b e in
      let second = two.second.there (omega (arith, w.1)) in
      let first = two.first.there (omega (arith, w.1, second.0)) in
      tailed f s b first.1 second.1 second.0 l m)
      (or_cases (eqb b f) (leb s b) (is_true _ r))

  -- a row that reads back no form besides has every live form from its second on
  pub tailed_back : ((b : ℕ) → T (t b) → 1 ≤ b) → ((b : ℕ) → T (M b) → T (reads f s b) → T (t b)) → Tailed M t
  tailed_back low only p q b tp tq h k m =
      let fp : f ≤ p = ⊎_elim (λ l. absurd (two.first.between p (low p tp) l tp)) (λ l. l) (cases_lt p f) in
      let sq : s ≤ q = ⊎_elim (λ l. absurd (two.second.between q (omega arith) l tq)) (λ l. l) (cases_lt q s) in
      only b m (passes _ (or_right (eqb b f) (leb s b) (le-leb s b (omega arith))))

  -- so the numbers stand for it
  pub stands : ((b : ℕ) → T (t b) → T (M b)) → Tailed M t → (b : ℕ) → (M b && reads f s b) ≡ t b
  stands within tailed b =
      same_test (M b && reads f s b) (t b)
      (λ h. let p = and_parts (M b) (reads f s b) (is_true _ h) in read_only tailed b (passes _ p.0) (passes _ p.1))
      (λ h. let m = within b h in passes _ (and_from (M b) (reads f s b) (is_true _ m) (is_true _ (read_back b m h))))
