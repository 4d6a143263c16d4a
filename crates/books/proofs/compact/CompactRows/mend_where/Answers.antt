use Rattle.std.proofs.Common.{◌≡◌, ℕ, ◌+◌, ◌<◌, ◌≤◌, Bool, true, false, ◌&&◌, ◌||◌, T, eqb, ltb, sym, refl, ap, ◌∙◌, subst, arith}
use Rattle.std.proofs.lemmas.Bool.{and_parts, eqb-true, lt-ltb, false≢true}
use Rattle.std.proofs.lemmas.Bool.Decides.{nat_tests}
use Rattle.rules.proofs.Truth.{is_true, passes}
use Rattle.books.specs.Bools.{and_true, or_false}
use Rattle.books.specs.Compact.{CompactRows, is_pair, uncut, Mending}
use Rattle.books.proofs.Mended.{mending_as, mending_join}
use Rattle.books.proofs.compact.CompactRows.mend_where.Invariants.{reached}
use Rattle.books.proofs.compact.CompactRows.mend_where.Goals as goal
use Rattle.books.proofs.compact.CompactRows.mend_where.Goals.{then-picks, else-picks, else-loop-second-test, then-loop-second-test+else-loop-first-test+else-second-second-end}

-- one table further
further : (first second p q : ℕ) → reached (first + 1) second p q ≡ (reached first second p q || is_pair first second p q)
further first second p q = grind (arith, nat_tests)

apart : (first second p q : ℕ) → T (reached first second p q) → T (is_pair first second p q) → ⊥
apart first second p q r e =
    let both = and_parts (eqb p first) (eqb q second) (is_true _ e) in
    let pf = eqb-true p first both.0 in
    let qs = eqb-true q second both.1 in
    let none : reached first second first second ≡ false = grind (arith, nat_tests) in
    subst T (ap (λ z. reached first second z q) pf ∙ ap (reached first second first) qs ∙ none) r

-- all tables of a second label
row_done : (first second p q : ℕ) → p < q → second ≤ first → reached first second p q ≡ ltb q (second + 1)
row_done first second p q h l = grind (arith, nat_tests)

with_pair : (m r pair : Bool) → (T pair → m ≡ true) → ((m && r) || pair) ≡ (m && (r || pair))
with_pair true r pair h = refl
with_pair false r true h = absurd (false≢true (h tt))
with_pair false r false h = refl

without_pair : (m r pair : Bool) → (T pair → m ≡ false) → (m && r) ≡ (m && (r || pair))
without_pair true r true h = absurd (false≢true (sym (h tt)))
without_pair true r false h = sym (or_false r)
without_pair false r pair h = refl

same_pair : (mended : ℕ → ℕ → Bool) (first second p q : ℕ) → T (is_pair first second p q) → mended p q ≡ mended first second
same_pair mended first second p q e =
    let both = and_parts (eqb p first) (eqb q second) (is_true _ e) in
    ap (λ z. mended z q) (eqb-true p first both.0) ∙ ap (mended first) (eqb-true q second both.1)

pub loop-first-preserved : goal.loop-first-preserved
loop-first-preserved g c mended tells =
    let f = c.args.frame.now in
    let s = c.args.self.now in
    let first = c.loop-first.first in
    let second = c.loop-second.second in
    let d : ℕ → ℕ → Bool = λ p q. mended p q && reached first second p q in
    let d' : ℕ → ℕ → Bool = λ p q. mended p q && reached (first + 1) second p q in
    let before : Mending f uncut s c.loop-first.self d = c.loop-first.invariant mended tells in
    let answered : mended first second ≡ c.picks.result = tells _ _ c.picks.ensures in
    let Goal : CompactRows → Type 0 = λ rows. Mending f uncut s rows d' in
    elim c.if-picks.branch [
      | then-picks w ↦ subst Goal (sym w.self-is) (mending_as f uncut s w.mend.new.self (λ p q. d p q || is_pair first second p q) d'
          (λ p q o. with_pair (mended p q) (reached first second p q) (is_pair first second p q) (λ t. same_pair mended first second p q t ∙ answered ∙ w.if-picks.true)
          ∙ ap (λ t. mended p q && t) (sym (further first second p q)))
          (mending_join f uncut s c.loop-first.self w.mend.new.self d (is_pair first second)
          (λ p q o t e. apart first second p q (passes _ (and_parts (mended p q) (reached first second p q) (is_true _ t)).1) e) before w.mend.ensures))
      | else-picks w ↦ subst Goal (sym w.self-is) (mending_as f uncut s c.loop-first.self d d'
          (λ p q o. without_pair (mended p q) (reached first second p q) (is_pair first second p q) (λ t. same_pair mended first second p q t ∙ answered ∙ w.if-picks.false)
          ∙ ap (λ t. mended p q && t) (sym (further first second p q)))
          before)
    ]

pub loop-second-preserved : goal.loop-second-preserved
loop-second-preserved g c mended tells =
    let first = c.loop-first.first in
    let second = c.loop-second.second in
    mending_as c.args.frame.now uncut c.args.self.now c.loop-first.self (λ p q. mended p q && reached first second p q) _
    (λ p q o. ap (λ t. mended p q && t) (row_done first second p q o.1.0 (omega (arith, c.loop-first-test.false)))) (c.loop-first.invariant mended tells)

pub returns : goal.returns
returns g c mended tells =
    let f = c.args.frame.now in
    let s = c.args.self.now in
    let Goal : CompactRows → Type 0 = λ rows. Mending f uncut s rows mended in
    elim c.loop-second-test.branch [
      | else-loop-second-test w ↦ subst Goal (sym w.self-is) (mending_as f uncut s c.loop-second.self (λ p q. mended p q && ltb q c.loop-second.second) mended
          (λ p q o. ap (λ t. mended p q && t) (lt-ltb q c.loop-second.second (omega (arith, o.1.1, w.loop-second-test.false))) ∙ and_true (mended p q)) (c.loop-second.invariant mended tells))
      | then-loop-second-test+else-loop-first-test+else-second-second-end w ↦
          let first = w.loop-first.first in
          let second = c.loop-second.second in
          let last : f.count ≤ second = omega arith in
          subst Goal (sym w.self-is) (mending_as f uncut s w.loop-first.self (λ p q. mended p q && reached first second p q) mended
          (λ p q o. ap (λ t. mended p q && t) (row_done first second p q o.1.0 w.loop-first-test.false ∙ lt-ltb q (second + 1) (omega (arith, o.1.1, last))) ∙ and_true (mended p q))
          (w.loop-first.invariant mended tells))
    ]
