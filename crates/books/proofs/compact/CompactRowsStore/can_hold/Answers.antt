use Rattle.std.proofs.Common.{◌≡◌, ℕ, ◌+◌, ◌-◌, ◌<◌, Bool, true, false, List, length, MatchBool, Decides, sym, refl, subst, ◌∙◌, arith, rules}
use Rattle.std.specs.List.{AllWithin, HoldsAt, range_with_len}
use Rattle.std.proofs.lemmas.Bool.{false≢true}
use Rattle.std.proofs.lemmas.Iterator.{cases_from_all, YieldsList-from_range}
use Rattle.std.proofs.lemmas.List.FromFn.{get_or-range_with_len}
use Rattle.rules.specs.Limits.{Within, max_forms}
use Rattle.books.specs.Compact.{RowHeld}
use Rattle.books.specs.Labels.{live_form}
use Rattle.books.proofs.compact.CompactRowsStore.can_hold.Goals as goal

-- the forms that a label can have
abbrev forms : List ℕ
forms = range_with_len 1 16

each_form : (P : ℕ → Type 0) (r : Bool)
    → MatchBool r (AllWithin (λ a. Decides true (P a)) forms 0 (length forms)) ((k : ℕ) × (k < length forms) × HoldsAt (λ a. Decides false (P a)) forms k)
    → Decides r ((a : ℕ) → Within max_forms a → P a)
each_form P true all = (
  (λ _ a w. let place : 1 + (a - 1) ≡ a = omega (arith, w.0) in
      subst P (get_or-range_with_len 1 16 (a - 1) 0 (omega (arith, w.0, w.1)) ∙ place) ((all (a - 1) 0 (omega arith) (omega (arith, w.0, w.1))).0 refl)),
  (λ _. refl),
)
each_form P false some = (
  (λ e. absurd (false≢true e)),
  (λ all. (some.2 0).1 (subst P (sym (get_or-range_with_len 1 16 some.0 0 some.1)) (all (1 + some.0) (omega arith, omega (arith, some.1))))),
)

pub returns : goal.returns
returns c =
    let f = c.args.frame.now in
    let i = c.args.labels.first in
    let j = c.args.labels.second in
    let P = RowHeld f i j c.args.rows.now in
    let held = each_form P c.all.result (cases_from_all _ _ c.all.result (λ a. Decides true (P a)) (λ a. Decides false (P a)) c.all.ensures.ran (YieldsList-from_range 1 17 16 refl refl)
    (λ x q k. search rules) (λ x q k. search rules)) in
    ((λ e a la. held.0 e a (live_form f i a la) la), (λ tails. held.1 (λ a _ la. tails a la)))
