-- Laws of lists, truth values and numbers that the language's library lacks.
--
-- In order: parts of lists; bytes below 256; two tests, and a test of each element; numbers, and their bits.
-- Nothing here speaks of a page.
use mathlib.Core.Path.{◌≡◌, refl, sym, ap, ◌∙◌}
use mathlib.Core.Bool.{Bool, true, false, ◌&&◌, ◌||◌, false≢true, and_assoc}
use mathlib.Core.List.{List, [], ◌∷◌, ◌++◌}
use Prim.Native.Nat.{ℕ, zero, suc, ◌≤◌, ◌<◌, ◌+◌, ◌-◌, ◌*◌, ◌/◌, ◌^◌, zero-le, suc-le-suc}
use native.Mathlib.Nat.{mod-eq_of_lt, zero-add, suc-add, pow-succ', sub-zero}
use native.Mathlib.Numerals.{add-one}
use native.Mathlib.Omega.{arith}
use lib.Bits.{bit_and, and_mask}
use lib.ListN.{length, take, drop, get_or, set, replicate, drop_of_length-le}
use lib.Pow.{pow-add}
use lib.Seq.{take-nil, drop-cons, paste-suc}
use Rattle.flash.specs.Flash.{every}

-- ---- parts of lists

pub take_append : {A : Type 0} (n : ℕ) (xs ys : List A) → take n (xs ++ ys) ≡ take n xs ++ take (n - length xs) ys
take_append n [] ys = rw (take-nil n, sub-zero n)
take_append zero (x ∷ xs) ys = let e : 0 - suc (length xs) ≡ 0 = omega arith in rw e
take_append (suc n) (x ∷ xs) ys =
    let e : suc n - suc (length xs) ≡ n - length xs = omega arith in
    rw e (ap (λ (rest : List _). x ∷ rest) (take_append n xs ys))

-- a part cut out of the front that holds it
pub drop_take : {A : Type 0} (n k : ℕ) (xs : List A) → drop n (take (n + k) xs) ≡ take k (drop n xs)
drop_take zero k xs = rw (zero-add k)
drop_take (suc n) k [] = rw (suc-add, take-nil k)
drop_take (suc n) k (x ∷ xs) = rw suc-add (drop_take n k xs)

pub drop_replicate : {A : Type 0} (k n : ℕ) (x : A) → drop k (replicate n x) ≡ replicate (n - k) x
drop_replicate zero n x = rw (sub-zero n)
drop_replicate (suc k) zero x = let none : 0 - suc k ≡ 0 = omega arith in rw none
drop_replicate (suc k) (suc n) x =
    let less : n - k ≡ suc n - suc k = omega arith in drop_replicate k n x ∙ ap (λ (m : ℕ). replicate m x) less

-- k bytes of a part are in, and the next one is stored
pub copied_next : (part into : List ℕ) (k : ℕ) → k < length part → k < length into
    → set (take k part ++ drop k into) k (get_or part k 0) ≡ take (k + 1) part ++ drop (k + 1) into
copied_next part into k inside room =
    let place : 0 + k < length into = omega arith in
    rw (add-one k) (rw (zero-add k, zero-add (suc k)) at (paste-suc into 0 part k 0 place inside))

-- ---- bytes below 256

pub data Bytes : List ℕ → Type 0 where
  bytes_nil : Bytes []
  bytes_cons : {byte : ℕ} {bytes : List ℕ} → byte < 256 → Bytes bytes → Bytes (byte ∷ bytes)

-- of a slice, each of whose elements is known to fit a byte
pub bytes_of_get_d : (bytes : List ℕ) → ((i : ℕ) → i < length bytes → get_or bytes i 0 < 256) → Bytes bytes
bytes_of_get_d [] h = bytes_nil
bytes_of_get_d (byte ∷ bytes) h = bytes_cons (h zero (suc-le-suc zero-le)) (bytes_of_get_d bytes (λ i l. h (suc i) (suc-le-suc l)))

pub bytes_append : {xs ys : List ℕ} → Bytes xs → Bytes ys → Bytes (xs ++ ys)
bytes_append bytes_nil b = b
bytes_append (bytes_cons h a) b = bytes_cons h (bytes_append a b)

pub bytes_take : {bytes : List ℕ} (n : ℕ) → Bytes bytes → Bytes (take n bytes)
bytes_take zero b = bytes_nil
bytes_take (suc n) bytes_nil = bytes_nil
bytes_take (suc n) (bytes_cons h b) = bytes_cons h (bytes_take n b)

pub bytes_drop : {bytes : List ℕ} (n : ℕ) → Bytes bytes → Bytes (drop n bytes)
bytes_drop zero b = b
bytes_drop (suc n) bytes_nil = bytes_nil
bytes_drop (suc n) (bytes_cons h b) = bytes_drop n b

pub bytes_ones : (n : ℕ) → Bytes (replicate n 0xFF)
bytes_ones zero = bytes_nil
bytes_ones (suc n) = bytes_cons {byte = 0xFF} (omega arith) (bytes_ones n)

-- ---- two tests, and a test of each element

-- neither of two holds
pub neither : (a b : Bool) → (a || b) ≡ false → (a ≡ false) × (b ≡ false)
neither true b h = absurd (false≢true (sym h))
neither false b h = (refl, h)

pub every_append : {A : Type 0} (test : A → Bool) (xs ys : List A) → every test (xs ++ ys) ≡ (every test xs && every test ys)
every_append test [] ys = refl
every_append test (x ∷ xs) ys = ap (λ (rest : Bool). test x && rest) (every_append test xs ys) ∙ sym (and_assoc (test x) (every test xs) (every test ys))

-- a loop's turn
pub every_drop : {A : Type 0} (test : A → Bool) (xs : List A) (i : ℕ) (d : A) → i < length xs
    → every test (drop i xs) ≡ (test (get_or xs i d) && every test (drop (suc i) xs))
every_drop test xs i d h = ap (every test) (drop-cons xs i d h)

-- a loop's end
pub every_past : {A : Type 0} (test : A → Bool) (xs : List A) (i : ℕ) → length xs ≤ i → every test (drop i xs) ≡ true
every_past test xs i h = ap (every test) (drop_of_length-le xs h)

-- ---- numbers, and their bits

pub four_suc : (n : ℕ) → 4 * suc n ≡ suc (suc (suc (suc (4 * n))))
four_suc n = omega arith

pub four_more : (n : ℕ) → suc (suc (suc (suc n))) / 4 ≡ suc (n / 4)
four_more n = omega arith

-- a shift by two bits for each pair passed
pub pow_four : (k : ℕ) → 2 ^ (2 * k) ≡ 4 ^ k
pow_four zero = refl
pow_four (suc k) =
    let more : 2 * suc k ≡ 2 + 2 * k = omega arith in
    ap (λ (n : ℕ). 2 ^ n) more ∙ pow-add 2 2 (2 * k) ∙ ap (λ (n : ℕ). 4 * n) (pow_four k) ∙ sym (pow-succ' 4 k)

pub and_ones : (byte : ℕ) → byte < 256 → bit_and byte 0xFF ≡ byte
and_ones byte h = and_mask byte 8 ∙ mod-eq_of_lt h
