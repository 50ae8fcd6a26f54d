-- What one pass of opening does to an image: a map turns into another, unit by unit.
--
-- In order: a map that is new up to a byte and old after it; one unit; the units in which two maps differ.
use mathlib.Core.Path.{◌≡◌, refl, sym, ap, ap₂, ◌∙◌}
use mathlib.Core.Bool.{Bool, true, false, cond, and-eq-true_iff}
use mathlib.Core.List.{List, [], ◌∷◌, ◌++◌, append_assoc}
use Prim.Native.Nat.{ℕ, zero, suc, ◌+◌, ◌*◌, ◌≤◌, ◌<◌}
use native.Mathlib.Nat.{add-zero, add-suc, suc-add}
use native.Mathlib.Omega.{arith}
use lib.Bits.{and_self}
use lib.Dec.{eqb}
use lib.ListN.{length, take, drop, length-drop, take-append-drop}
use lib.Seq.{take_at, drop_at, take-add, drop-drop, length-take-le}
use borrow.Author.Tests.{eqb-true}
use Rattle.flash.specs.Flash.{Unit4, units, run, program, OnlyClears, clears_nil, clears_cons}
use Rattle.flash.proofs.Laws.{Bytes, bytes_program, length_clears, program_past, program_inside, program_splice, run_units, run_append}
use Rattle.sector.specs.Layout.{map_offset, same_bytes}
use Rattle.opening_marks.specs.Marks.{map_unit, changed_units}

-- ---- new up to a byte, old after it

abbrev splice : ℕ → List ℕ → List ℕ → List ℕ
splice m new old = take m new ++ drop m old

clears_splice : {old new : List ℕ} (m : ℕ) → OnlyClears old new → OnlyClears (splice m new old) new
clears_splice zero o = o
clears_splice (suc m) clears_nil = clears_nil
clears_splice (suc m) (clears_cons {x = x} e o) = clears_cons (and_self x) (clears_splice m o)

length_splice : {old new : List ℕ} (m : ℕ) → OnlyClears old new → length (splice m new old) ≡ length old
length_splice m o = sym (length_clears (clears_splice m o)) ∙ length_clears o

splice_all : {old new : List ℕ} (m : ℕ) → OnlyClears old new → length new ≤ m → splice m new old ≡ new
splice_all zero clears_nil h = refl
splice_all zero (clears_cons e o) h = absurd (omega arith)
splice_all (suc m) clears_nil h = refl
splice_all (suc m) (clears_cons {x = x} e o) h = ap (λ (rest : List ℕ). x ∷ rest) (splice_all m o (omega arith))

same_bytes_eq : (xs ys : List ℕ) → same_bytes xs ys ≡ true → xs ≡ ys
same_bytes_eq [] [] e = refl
same_bytes_eq [] (y ∷ ys) e = absurd (omega (arith, eqb-true (suc (length ys)) 0 e))
same_bytes_eq (x ∷ xs) [] e = let z : ◌≡◌ {A = ℕ} 0 1 = cc in absurd (omega arith)
same_bytes_eq (x ∷ xs) (y ∷ ys) e =
    let both = (and-eq-true_iff (eqb x y) (same_bytes xs ys)).0 e in
    ap₂ (λ (h : ℕ) (rest : List ℕ). h ∷ rest) (eqb-true x y both.0) (same_bytes_eq xs ys both.1)

next_unit : (j : ℕ) → 4 * suc j ≡ 4 * j + 4
next_unit j = omega arith

-- ---- one unit

module _ (header old new entries : List ℕ) (header_size : length header ≡ 32) (map_size_lem : length old ≡ 32) (clears : OnlyClears old new)
    (bytes : Bytes (header ++ (old ++ entries))) where
  -- the image whose map is new up to unit j
  abbrev image_at : ℕ → List ℕ
  image_at j = header ++ (splice (4 * j) new old ++ entries)

  new_size : length new ≡ 32
  new_size = length_clears clears ∙ map_size_lem

  -- a unit that is the same in both maps
  same_unit : (j : ℕ) → map_unit j old ≡ map_unit j new → splice (4 * j) new old ≡ splice (4 * suc j) new old
  same_unit j e =
      sym
      (rw (next_unit j, take-add (4 * j) 4 new, ← e, append_assoc (take (4 * j) new) (map_unit j old) (drop (4 * j + 4) old), ← drop-drop 4 (4 * j) old)
      (ap (λ (rest : List ℕ). take (4 * j) new ++ rest) (take-append-drop 4 (drop (4 * j) old))))

  take_front : (j : ℕ) → j < 8 → take (4 * j) (splice (4 * j) new old) ≡ take (4 * j) new
  take_front j h = take_at (take (4 * j) new) (drop (4 * j) old) (4 * j) (length-take-le (4 * j) new (omega (arith, new_size)))

  drop_front : (j : ℕ) → j < 8 → drop (4 * j + 4) (splice (4 * j) new old) ≡ drop (4 * j + 4) old
  drop_front j h =
      let front = take (4 * j) new in
      let size : length front ≡ 4 * j = length-take-le (4 * j) new (omega (arith, new_size)) in
      sym (drop-drop 4 (4 * j) (splice (4 * j) new old)) ∙ ap (drop 4) (drop_at front (drop (4 * j) old) (4 * j) size) ∙ drop-drop 4 (4 * j) old

  splice_size : (j : ℕ) → j < 8 → length (splice (4 * j) new old) ≡ 32
  splice_size j h = length_splice (4 * j) clears ∙ map_size_lem

  unit_size : (j : ℕ) → j < 8 → length (map_unit j new) ≡ 4
  unit_size j h = length-take-le 4 (drop (4 * j) new) (rw length-drop (omega (arith, new_size)))

  -- programmed, it goes on one unit
  one_unit : (j : ℕ) → j < 8 → program (image_at j) (map_offset + 4 * j) (map_unit j new) ≡ image_at (suc j)
  one_unit j h =
      let now = splice (4 * j) new old in
      (rw header_size at (program_past header (now ++ entries) (4 * j) (map_unit j new)))
      ∙ ap (λ (rest : List ℕ). header ++ rest)
      (program_inside now entries (4 * j) (map_unit j new) (omega (arith, unit_size j h, splice_size j h))
      ∙ ap (λ (map : List ℕ). map ++ entries)
      (program_splice (4 * j) 4 (clears_splice (4 * j) clears) (take_front j h)
      ∙ ap (λ (rest : List ℕ). take (4 * j + 4) new ++ rest) (drop_front j h)
      ∙ ap (λ (m : ℕ). splice m new old) (sym (next_unit j))))

  bytes_at : (j : ℕ) → j ≤ 8 → Bytes (image_at j)
  bytes_at zero h = bytes
  bytes_at (suc j) h = rw (← one_unit j (omega arith)) (bytes_program (map_offset + 4 * j) (map_unit j new) (bytes_at j (omega arith)))

  -- ---- the units in which the two maps differ

  abbrev units_at : ℕ → Bool → List Unit4
  units_at j same = cond same [] (units (map_offset + 4 * j) (map_unit j new))

  run_unit : (j : ℕ) → j < 8 → (same : Bool) → same_bytes (map_unit j old) (map_unit j new) ≡ same → run (units_at j same) (image_at j) ≡ image_at (suc j)
  unfolding run
  run_unit j h true e = ap (λ (map : List ℕ). header ++ (map ++ entries)) (same_unit j (same_bytes_eq (map_unit j old) (map_unit j new) e))
  run_unit j h false e = run_units (map_offset + 4 * j) (map_unit j new) (bytes_at j (omega arith)) ∙ one_unit j h

  -- all of them
  run_changed : (j m : ℕ) → j + m ≤ 8 → run (changed_units j m old new) (image_at j) ≡ image_at (j + m)
  unfolding changed_units run
  run_changed j zero h = rw add-zero
  run_changed j (suc m) h =
      run_append (units_at j (same_bytes (map_unit j old) (map_unit j new))) (changed_units (suc j) m old new) (image_at j)
      ∙ ap (run (changed_units (suc j) m old new)) (run_unit j (omega arith) (same_bytes (map_unit j old) (map_unit j new)) refl)
      ∙ run_changed (suc j) m (omega arith)
      ∙ rw (add-suc, suc-add)

  pub run_pass : run (changed_units 0 8 old new) (header ++ (old ++ entries)) ≡ header ++ (new ++ entries)
  run_pass = run_changed 0 8 (omega arith) ∙ ap (λ (map : List ℕ). header ++ (map ++ entries)) (splice_all 32 clears (omega (arith, new_size)))
