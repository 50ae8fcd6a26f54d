-- Laws of purge: zeros entry by entry.
use mathlib.Core.Path.{◌≡◌, refl, sym, ap, ◌∙◌}
use mathlib.Core.List.{List, [], ◌∷◌, ◌++◌}
use Prim.Native.Nat.{ℕ, zero, suc, ◌+◌, ◌*◌}
use native.Mathlib.Numerals.{add-one}
use native.Mathlib.Nat.{add-zero}
use native.Mathlib.Omega.{arith}
use lib.ListN.{length, replicate, replicate-append-replicate}
use Rattle.flash.specs.Flash.{Unit4, unit, units, run}
use Rattle.flash.proofs.Laws.{run_append}
use Rattle.sector.specs.Layout.{entry_size, entry_address}

-- whole units, and then those of the bytes after them
pub units_append : (n address : ℕ) (xs ys : List ℕ) → length xs ≡ 4 * n → units address (xs ++ ys) ≡ units address xs ++ units (address + 4 * n) ys
unfolding units
units_append zero address [] ys h = rw add-zero
units_append zero address (x ∷ xs) ys h = absurd (omega arith)
units_append (suc n) address [] ys h = absurd (omega arith)
units_append (suc n) address (a ∷ []) ys h = absurd (omega arith)
units_append (suc n) address (a ∷ b ∷ []) ys h = absurd (omega arith)
units_append (suc n) address (a ∷ b ∷ c ∷ []) ys h = absurd (omega arith)
units_append (suc n) address (a ∷ b ∷ c ∷ d ∷ xs) ys h =
    let next : address + 4 + 4 * n ≡ address + 4 * suc n = omega arith in
    ap (λ (rest : List Unit4). unit address (a ∷ b ∷ c ∷ d ∷ []) ∷ rest)
    (units_append n (address + 4) xs ys (omega arith) ∙ ap (λ (m : ℕ). units (address + 4) xs ++ units m ys) next)

-- the first entry's, and then those of the entries after it
pub zeros_suc : (i n : ℕ)
    → units (entry_address i) (replicate (entry_size * suc n) 0)
    ≡ units (entry_address i) (replicate entry_size 0) ++ units (entry_address (suc i)) (replicate (entry_size * n) 0)
zeros_suc i n =
    let more : entry_size * suc n ≡ entry_size + entry_size * n = omega arith in
    let next : entry_address i + 4 * 8 ≡ entry_address (suc i) = omega arith in
    ap (λ (m : ℕ). units (entry_address i) (replicate m 0)) more
    ∙ ap (units (entry_address i)) (sym (replicate-append-replicate entry_size (entry_size * n) 0))
    ∙ units_append 8 (entry_address i) (replicate entry_size 0) (replicate (entry_size * n) 0) refl
    ∙ ap (λ (m : ℕ). units (entry_address i) (replicate entry_size 0) ++ units m (replicate (entry_size * n) 0)) next

-- a loop's turn: an entry zeroed, and then those after it
pub run_zeros : (i n : ℕ) (image : List ℕ) {after : List ℕ} → after ≡ run (units (entry_address i) (replicate entry_size 0)) image
    → run (units (entry_address (i + 1)) (replicate (entry_size * n) 0)) after ≡ run (units (entry_address i) (replicate (entry_size * suc n) 0)) image
run_zeros i n image zeroed =
    rw (zeroed, add-one i)
    (sym (ap (λ (plan : List Unit4). run plan image) (zeros_suc i n)
    ∙ run_append (units (entry_address i) (replicate entry_size 0)) (units (entry_address (suc i)) (replicate (entry_size * n) 0)) image))
