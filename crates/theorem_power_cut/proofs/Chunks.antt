-- Entries cut out of bytes that are joined, or longer. Other laws of `chunks` are sector's (Laws) and opening_reading's (Entries).
use mathlib.Core.Path.{◌≡◌, refl, ap, ap₂, ◌∙◌}
use mathlib.Core.List.{List, [], ◌∷◌, ◌++◌}
use Prim.Native.Nat.{ℕ, zero, suc, ◌+◌, ◌*◌, ◌≤◌}
use native.Mathlib.Nat.{suc-add, zero-add}
use native.Mathlib.Omega.{arith}
use lib.ListN.{length, take, drop, length-drop}
use lib.Seq.{take-append-le, drop-append-le, take-take}
use Rattle.flash.proofs.Laws.{drop_take}
use Rattle.sector.specs.Layout.{chunks}
use Rattle.sector.proofs.Laws.{suc_entries}

-- the first n entries of bytes that are n entries and more
pub chunks_append : (m n : ℕ) (xs ys : List ℕ) → length xs ≡ 32 * m → chunks (m + n) (xs ++ ys) ≡ chunks m xs ++ chunks n ys
unfolding chunks
chunks_append zero n [] ys h = rw zero-add
chunks_append zero n (x ∷ xs) ys h = absurd (omega arith)
chunks_append (suc m) n xs ys h =
    let s : 32 ≤ length xs = omega arith in
    rw (suc-add m n, take-append-le 32 xs ys s, drop-append-le 32 xs ys s)
    (ap (λ (r : List (List ℕ)). take 32 xs ∷ r) (chunks_append m n (drop 32 xs) ys (rw (length-drop 32 xs) (omega arith))))

-- only the bytes of the entries matter
pub chunks_take : (n : ℕ) (bytes : List ℕ) → chunks n (take (32 * n) bytes) ≡ chunks n bytes
unfolding chunks
chunks_take zero bytes = refl
chunks_take (suc n) bytes =
    rw (suc_entries n)
    (ap₂ (λ (first : List ℕ) (rest : List (List ℕ)). first ∷ rest)
    (take-take 32 (32 + 32 * n) bytes (omega arith))
    (ap (chunks n) (drop_take 32 (32 * n) bytes) ∙ chunks_take n (drop 32 bytes)))
