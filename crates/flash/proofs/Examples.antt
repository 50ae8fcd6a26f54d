-- Cuts that exist: one inside a unit, and one that is not a cut.
--
-- The plan is one unit that clears the low four bits of an erased byte. Inside it two of them may be cleared; the high bits may not.
use mathlib.Core.Path.{refl, sym, ap}
use mathlib.Core.Bool.{false≢true}
use mathlib.Core.List.{List, [], ◌∷◌}
use Prim.Native.Nat.{ℕ}
use lib.Dec.{eqb}
use Rattle.flash.proofs.Laws.{clears_refl}
use Rattle.flash.specs.Flash.{Unit4, unit, program, run, OnlyClears, clears_cons, CutAt}

abbrev plan : List Unit4
plan = unit 0 (0xF0 ∷ 0xFF ∷ 0xFF ∷ 0xFF ∷ []) ∷ []

abbrev erased : List ℕ
erased = 0xFF ∷ 0xFF ∷ 0xFF ∷ 0xFF ∷ []

pub inside_a_unit : CutAt plan erased 0 (0xF5 ∷ 0xFF ∷ 0xFF ∷ 0xFF ∷ [])
unfolding run program
inside_a_unit =
    record {
      begun = clears_cons {y = 0xFF} {x = 0xF5} refl (clears_refl (0xFF ∷ 0xFF ∷ 0xFF ∷ []));
      left = clears_cons {y = 0xF5} {x = 0xF0} refl (clears_refl (0xFF ∷ 0xFF ∷ 0xFF ∷ []));
    }

pub no_other_bit : CutAt plan erased 0 (0x75 ∷ 0xFF ∷ 0xFF ∷ 0xFF ∷ []) → ⊥
unfolding run program
no_other_bit c = by_left c.left
  where
    by_left : OnlyClears (0x75 ∷ 0xFF ∷ 0xFF ∷ 0xFF ∷ []) (0xF0 ∷ 0xFF ∷ 0xFF ∷ 0xFF ∷ []) → ⊥
    by_left (clears_cons e o) = false≢true (sym (ap (eqb 0x70) e))
