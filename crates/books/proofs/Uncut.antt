-- Sixteen rows with every form cut nothing off.
use Rattle.std.proofs.Common.{◌≡◌, ℕ, ◌-◌, true, ◌&&◌, T, get_or, ap, ◌∙◌, arith}
use Rattle.std.proofs.lemmas.List.{get_or-replicate}
use Rattle.std.proofs.lemmas.Bool.{and_from}
use Rattle.rules.specs.Limits.{Within, max_forms}
use Rattle.rules.specs.Tables.{in_row}
use Rattle.rules.proofs.Truth.{is_true, passes}
use Rattle.books.specs.declared.frame.Frame.{Frame}
use Rattle.books.specs.Frames.{frame_live}
use Rattle.books.specs.Compact.{Tailed, uncut}
use Rattle.books.proofs.Bits.{in_row_all}
use Rattle.books.specs.Labels.{live_form}

pub all_there : (x b : ℕ) → Within max_forms x → Within max_forms b → in_row (get_or uncut (x - 1) 0) b ≡ true
all_there x b w v = ap (λ row. in_row row b) (get_or-replicate 16 (x - 1) 65535 0 (omega (arith, w.0, w.1))) ∙ in_row_all b v

pub all_tailed : (f : Frame) (p q x : ℕ) → T (frame_live f p x) → Tailed (frame_live f q) (λ b. frame_live f q b && in_row (get_or uncut (x - 1) 0) b)
all_tailed f p q x lx k l b tk tl h g lb =
    passes _ (and_from (frame_live f q b) _ (is_true _ lb) (all_there x b (live_form f p x lx) (live_form f q b lb)))
