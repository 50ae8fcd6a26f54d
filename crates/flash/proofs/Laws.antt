-- Laws of programming (specs/Flash.antt).
--
-- In order: tests of a whole list; bytes at an address; new bytes that only clear bits; the units of a write;
-- units done one after the other; where units lie, and what they leave alone. The laws of lists and numbers (Lists) are passed on.
use mathlib.Core.Path.{◌≡◌, refl, sym, ap, ◌∙◌, subst}
use mathlib.Core.Bool.{Bool, true, false, ◌&&◌, cond, false≢true, and-eq-true_iff, and-true, and_assoc}
use mathlib.Core.List.{List, [], ◌∷◌, ◌++◌, append_assoc}
use mathlib.Core.Logic.{◌⊎◌, inl, inr}
use Prim.Native.Nat.{ℕ, zero, suc, ◌≤◌, ◌<◌, ◌+◌, ◌-◌, ◌*◌, ◌/◌, ◌%◌, min}
use native.Mathlib.Nat.{le_of_suc-le-suc, lt_of_le_of_lt, zero-add, suc-add, add-zero, add-suc}
use native.Mathlib.Omega.{arith}
use native.Mathlib.Decide.{dec_le}
use native.Mathlib.Numerals.{add-one}
use lib.Bits.{bit_and, and_le_l, and_le_r, and_comm, and_self}
use lib.ListN.{length, take, drop, get_or, set, replicate, length-append, replicate-append-replicate, take-append-drop, drop_of_length-le}
use lib.Seq.{take-nil, take_all, drop-cons}
use borrow.Author.Tests.{eqb-true, eq-eqb, ne_eqb}
use Rattle.std.proofs.lemmas.Nat.{and_assoc as bit_and_assoc}
use Rattle.std.specs.List.{fold}
pub use Rattle.flash.proofs.Lists.{take_append, drop_take, Bytes, bytes_nil, bytes_cons, bytes_of_get_d, bytes_append, bytes_take, bytes_drop, bytes_ones, neither, every_append, every_drop, every_past, four_suc, and_ones}
use Rattle.flash.proofs.Lists.{four_more}
use Rattle.flash.specs.Flash.{is_ones, all_ones, program, Unit4, unit, tail_units, units, run, OnlyClears, clears_nil, clears_cons}

-- ---- tests of a whole list

pub all_ones_past : (bytes : List ℕ) (i : ℕ) → length bytes ≤ i → all_ones (drop i bytes) ≡ true
unfolding all_ones
all_ones_past bytes i h = every_past is_ones bytes i h

pub all_ones-replicate : (n : ℕ) → all_ones (replicate n 0xFF) ≡ true
unfolding all_ones
all_ones-replicate zero = refl
all_ones-replicate (suc n) = all_ones-replicate n

pub replicate-all_ones : (bytes : List ℕ) → all_ones bytes ≡ true → bytes ≡ replicate (length bytes) 0xFF
unfolding all_ones
replicate-all_ones [] h = refl
replicate-all_ones (byte ∷ bytes) h =
    let both = (and-eq-true_iff (is_ones byte) (all_ones bytes)).0 h in
    rw (eqb-true byte 255 both.0) (ap (λ (rest : List ℕ). 0xFF ∷ rest) (replicate-all_ones bytes both.1))

pub is_ones_and : (a b : ℕ) → a < 256 → b < 256 → is_ones (bit_and a b) ≡ (is_ones a && is_ones b)
is_ones_and a b ha hb = go (is_ones a) (is_ones b) refl refl
  where
    go : (s t : Bool) → is_ones a ≡ s → is_ones b ≡ t → is_ones (bit_and a b) ≡ (s && t)
    go true true p q = rw (eqb-true a 255 p, eqb-true b 255 q)
    go false t p q = ne_eqb (bit_and a b) 255 (λ e. false≢true (sym p ∙ eq-eqb a 255 (omega (arith, and_le_l a b))))
    go true false p q = ne_eqb (bit_and a b) 255 (λ e. false≢true (sym q ∙ eq-eqb b 255 (omega (arith, and_le_r a b))))

-- the AND of some bytes is 0xFF if each of them is
fold_ones : (ones : ℕ) (bytes : List ℕ) → ones < 256 → ((i : ℕ) → get_or bytes i 0 < 256) → is_ones (fold bit_and ones bytes) ≡ (is_ones ones && all_ones bytes)
unfolding all_ones
fold_ones ones [] p h = sym (and-true (is_ones ones))
fold_ones ones (byte ∷ bytes) p h =
    fold_ones (bit_and ones byte) bytes (lt_of_le_of_lt (and_le_l ones byte) p) (λ i. h (suc i))
    ∙ ap (λ (here : Bool). here && all_ones bytes) (is_ones_and ones byte p (h 0))
    ∙ and_assoc (is_ones ones) (is_ones byte) (all_ones bytes)

pub all_ones_fold : (bytes : List ℕ) → ((i : ℕ) → get_or bytes i 0 < 256) → is_ones (fold bit_and 255 bytes) ≡ all_ones bytes
all_ones_fold bytes h = fold_ones 255 bytes (omega arith) h

-- ---- bytes at an address

pub length_program : (image : List ℕ) (address : ℕ) (bytes : List ℕ) → length (program image address bytes) ≡ length image
unfolding program
length_program [] address bytes = refl
length_program (old ∷ image) zero [] = refl
length_program (old ∷ image) zero (new ∷ bytes) = ap suc (length_program image zero bytes)
length_program (old ∷ image) (suc address) bytes = ap suc (length_program image address bytes)

pub program_nil : (image : List ℕ) (address : ℕ) → program image address [] ≡ image
unfolding program
program_nil [] address = refl
program_nil (old ∷ image) zero = refl
program_nil (old ∷ image) (suc address) = ap (λ (rest : List ℕ). old ∷ rest) (program_nil image address)

-- the first byte as a store, and then the rest
pub program_cons : (image : List ℕ) (address new : ℕ) (bytes : List ℕ) → address < length image
    → program image address (new ∷ bytes) ≡ program (set image address (bit_and (get_or image address 0) new)) (suc address) bytes
unfolding program
program_cons [] address new bytes h = refl
program_cons (old ∷ image) zero new bytes h = refl
program_cons (old ∷ image) (suc address) new bytes h =
    ap (λ (rest : List ℕ). old ∷ rest) (program_cons image address new bytes (le_of_suc-le-suc h))

-- so a loop that stores goes on from what is left
pub program_next : (image bytes : List ℕ) (address i : ℕ) → address + i < length image → i < length bytes
    → program (set image (address + i) (bit_and (get_or image (address + i) 0) (get_or bytes i 0))) (address + (i + 1)) (drop (i + 1) bytes)
    ≡ program image (address + i) (drop i bytes)
program_next image bytes address i inside h =
    rw (add-one i, add-suc, drop-cons bytes i 0 h)
    (sym (program_cons image (address + i) (get_or bytes i 0) (drop (suc i) bytes) inside))

-- until nothing is
pub program_end : (image bytes : List ℕ) (address i : ℕ) → length bytes ≤ i → program image address (drop i bytes) ≡ image
program_end image bytes address i h = rw (drop_of_length-le bytes h, program_nil image address)

-- one byte is a store; past the end there is nothing to store to
pub program_one : (image : List ℕ) (address new : ℕ) → program image address (new ∷ []) ≡ set image address (bit_and (get_or image address 0) new)
unfolding program
program_one [] address new = refl
program_one (old ∷ image) zero new = ap (λ (rest : List ℕ). bit_and old new ∷ rest) (program_nil image zero)
program_one (old ∷ image) (suc address) new = ap (λ (rest : List ℕ). old ∷ rest) (program_one image address new)

-- some bytes, and then those after them
pub program_append : (image : List ℕ) (address : ℕ) (xs ys : List ℕ)
    → program image address (xs ++ ys) ≡ program (program image address xs) (address + length xs) ys
unfolding program
program_append [] address xs ys = refl
program_append (old ∷ image) zero [] ys = refl
program_append (old ∷ image) zero (x ∷ xs) ys =
    rw zero-add (ap (λ (rest : List ℕ). bit_and old x ∷ rest) (rw zero-add at (program_append image zero xs ys)))
program_append (old ∷ image) (suc address) xs ys =
    rw suc-add (ap (λ (rest : List ℕ). old ∷ rest) (program_append image address xs ys))

-- past a front
pub program_past : (front image : List ℕ) (address : ℕ) (bytes : List ℕ)
    → program (front ++ image) (length front + address) bytes ≡ front ++ program image address bytes
unfolding program
program_past [] image address bytes = rw zero-add
program_past (old ∷ front) image address bytes = rw suc-add (ap (λ (rest : List ℕ). old ∷ rest) (program_past front image address bytes))

-- inside a front
pub program_inside : (front image : List ℕ) (address : ℕ) (bytes : List ℕ) → address + length bytes ≤ length front
    → program (front ++ image) address bytes ≡ program front address bytes ++ image
unfolding program
program_inside [] image address [] h = program_nil image address
program_inside [] image address (new ∷ bytes) h = absurd (omega arith)
program_inside (old ∷ front) image zero [] h = refl
program_inside (old ∷ front) image zero (new ∷ bytes) h =
    ap (λ (rest : List ℕ). bit_and old new ∷ rest) (program_inside front image zero bytes (omega arith))
program_inside (old ∷ front) image (suc address) bytes h =
    ap (λ (rest : List ℕ). old ∷ rest) (program_inside front image address bytes (omega arith))

-- what lies before the address stays
pub take_program : (n : ℕ) (image : List ℕ) (address : ℕ) (bytes : List ℕ) → n ≤ address → take n (program image address bytes) ≡ take n image
unfolding program
take_program zero image address bytes h = refl
take_program (suc n) [] address bytes h = refl
take_program (suc n) (old ∷ image) zero bytes h = absurd (omega arith)
take_program (suc n) (old ∷ image) (suc address) bytes h =
    ap (λ (rest : List ℕ). old ∷ rest) (take_program n image address bytes (omega arith))

-- what lies after the bytes stays
pub drop_program : (n : ℕ) (image : List ℕ) (address : ℕ) (bytes : List ℕ) → address + length bytes ≤ n
    → drop n (program image address bytes) ≡ drop n image
unfolding program
drop_program zero image address [] h = program_nil image address
drop_program zero image address (new ∷ bytes) h = absurd (omega arith)
drop_program (suc n) [] address bytes h = refl
drop_program (suc n) (old ∷ image) zero [] h = refl
drop_program (suc n) (old ∷ image) zero (new ∷ bytes) h = drop_program n image zero bytes (omega arith)
drop_program (suc n) (old ∷ image) (suc address) bytes h = drop_program n image address bytes (omega arith)

pub bytes_program : {image : List ℕ} (address : ℕ) (bytes : List ℕ) → Bytes image → Bytes (program image address bytes)
unfolding program
bytes_program address bytes bytes_nil = bytes_nil
bytes_program zero [] (bytes_cons h b) = bytes_cons h b
bytes_program zero (new ∷ bytes) (bytes_cons {byte = old} h b) = bytes_cons (lt_of_le_of_lt (and_le_l old new) h) (bytes_program zero bytes b)
bytes_program (suc address) bytes (bytes_cons h b) = bytes_cons h (bytes_program address bytes b)

-- 0xFF leaves what is there
pub program_ones : {image : List ℕ} (address n : ℕ) → Bytes image → program image address (replicate n 0xFF) ≡ image
unfolding program
program_ones address n bytes_nil = refl
program_ones zero zero (bytes_cons h b) = refl
program_ones zero (suc n) (bytes_cons {byte = old} h b) = rw (and_ones old h, program_ones zero n b)
program_ones (suc address) n (bytes_cons {byte = old} h b) = ap (λ (rest : List ℕ). old ∷ rest) (program_ones address n b)

-- so padding changes nothing
pub program_padded : {image : List ℕ} (address : ℕ) (bytes : List ℕ) (n : ℕ) → Bytes image
    → program image address (bytes ++ replicate n 0xFF) ≡ program image address bytes
program_padded {image} address bytes n b =
    program_append image address bytes (replicate n 0xFF) ∙ program_ones (address + length bytes) n (bytes_program address bytes b)

-- ---- new bytes that only clear bits

pub length_clears : {old new : List ℕ} → OnlyClears old new → length new ≡ length old
length_clears clears_nil = refl
length_clears (clears_cons e o) = ap suc (length_clears o)

pub clears_refl : (bytes : List ℕ) → OnlyClears bytes bytes
clears_refl [] = clears_nil
clears_refl (x ∷ bytes) = clears_cons (and_self x) (clears_refl bytes)

pub clears_trans : {xs ys zs : List ℕ} → OnlyClears xs ys → OnlyClears ys zs → OnlyClears xs zs
clears_trans clears_nil clears_nil = clears_nil
clears_trans (clears_cons {y = x} {x = y} e o) (clears_cons {x = z} f p) =
    clears_cons (ap (bit_and x) (sym f) ∙ sym (bit_and_assoc z x y) ∙ ap (λ (n : ℕ). bit_and n z) e ∙ f) (clears_trans o p)

pub bytes_clears : {old new : List ℕ} → Bytes old → OnlyClears old new → Bytes new
bytes_clears b clears_nil = bytes_nil
bytes_clears (bytes_cons h b) (clears_cons {y} {x} e o) = bytes_cons {byte = x} (omega (arith, and_le_l y x)) (bytes_clears b o)

-- erased bytes: every byte only clears bits of 0xFF
pub clears_ones : {bytes : List ℕ} → Bytes bytes → OnlyClears (replicate (length bytes) 0xFF) bytes
clears_ones bytes_nil = clears_nil
clears_ones (bytes_cons {byte = x} h b) = clears_cons (and_comm 0xFF x ∙ and_ones x h) (clears_ones b)

pub clears_program : (image : List ℕ) (address : ℕ) (bytes : List ℕ) → OnlyClears image (program image address bytes)
unfolding program
clears_program [] address bytes = clears_nil
clears_program (old ∷ image) zero [] = clears_refl (old ∷ image)
clears_program (old ∷ image) zero (new ∷ bytes) =
    clears_cons (sym (bit_and_assoc new old old) ∙ ap (λ (n : ℕ). bit_and n new) (and_self old)) (clears_program image zero bytes)
clears_program (old ∷ image) (suc address) bytes = clears_cons (and_self old) (clears_program image address bytes)

-- where the new bytes only clear bits of the old, programming is overwriting
pub program_clears : {old new : List ℕ} (rest : List ℕ) → OnlyClears old new → program (old ++ rest) zero new ≡ new ++ rest
unfolding program
program_clears [] clears_nil = refl
program_clears (x ∷ rest) clears_nil = refl
program_clears rest (clears_cons e o) = rw (e, program_clears rest o)

-- after a front
pub program_over : {old new : List ℕ} (front rest : List ℕ) → OnlyClears old new
    → program (front ++ (old ++ rest)) (length front) new ≡ front ++ (new ++ rest)
program_over {old} {new} front rest o =
    (rw add-zero at (program_past front (old ++ rest) 0 new)) ∙ ap (λ (image : List ℕ). front ++ image) (program_clears rest o)

-- the first n of the new bytes
pub program_take : {old new : List ℕ} (n : ℕ) → OnlyClears old new → program old zero (take n new) ≡ take n new ++ drop n old
unfolding program
program_take zero clears_nil = refl
program_take zero (clears_cons e o) = refl
program_take (suc n) clears_nil = refl
program_take (suc n) (clears_cons e o) = rw (e, program_take n o)

-- from an address on, where the bytes before it are the same: the new bytes up to where they end, and then the old
pub program_splice : {old new : List ℕ} (address n : ℕ) → OnlyClears old new → take address old ≡ take address new
    → program old address (take n (drop address new)) ≡ take (address + n) new ++ drop (address + n) old
unfolding program
program_splice zero n o e = rw zero-add (program_take n o)
program_splice (suc address) n clears_nil e = rw suc-add
program_splice (suc address) n (clears_cons {y} {x} {old} {new} h o) e =
    let same : y ≡ x = cc in
    let behind : take address old ≡ take address new = cc in
    rw (suc-add, same, program_splice address n o behind)

ones_parts : (m n : ℕ) → m ≤ n → ◌≡◌ {A = List ℕ} (replicate n 0xFF) (replicate m 0xFF ++ replicate (n - m) 0xFF)
ones_parts m n h =
    let parts : n ≡ m + (n - m) = omega arith in
    ap (λ (k : ℕ). replicate {A = ℕ} k 0xFF) parts ∙ sym (replicate-append-replicate m (n - m) 0xFF)

-- onto n erased bytes
pub program_erased : {bytes : List ℕ} (n : ℕ) (front rest : List ℕ) → Bytes bytes → length bytes ≤ n
    → program (front ++ (replicate n 0xFF ++ rest)) (length front) bytes ≡ front ++ (bytes ++ (replicate (n - length bytes) 0xFF ++ rest))
program_erased {bytes} n front rest b h =
    let left = n - length bytes in
    rw (ones_parts (length bytes) n h, append_assoc (replicate (length bytes) 0xFF) (replicate left 0xFF) rest)
    (program_over front (replicate left 0xFF ++ rest) (clears_ones b))

-- ---- the units of a write

length_tail : (u : Unit4) (blank : Bool) → length (cond blank [] (u ∷ [])) ≡ 0 + cond blank 0 1
length_tail u true = refl
length_tail u false = refl

-- one for every four bytes, and one for a tail that is not all 0xFF
pub length_units : (address : ℕ) (bytes : List ℕ)
    → length (units address bytes) ≡ length bytes / 4 + cond (all_ones (drop (4 * (length bytes / 4)) bytes)) 0 1
unfolding units all_ones
length_units address [] = refl
length_units address (a ∷ []) = length_tail (unit address (a ∷ 0xFF ∷ 0xFF ∷ 0xFF ∷ [])) (all_ones (a ∷ []))
length_units address (a ∷ b ∷ []) = length_tail (unit address (a ∷ b ∷ 0xFF ∷ 0xFF ∷ [])) (all_ones (a ∷ b ∷ []))
length_units address (a ∷ b ∷ c ∷ []) = length_tail (unit address (a ∷ b ∷ c ∷ 0xFF ∷ [])) (all_ones (a ∷ b ∷ c ∷ []))
length_units address (a ∷ b ∷ c ∷ d ∷ bytes) =
    rw (four_more (length bytes), four_suc (length bytes / 4), suc-add) (ap suc (length_units (address + 4) bytes))

-- with the tail as `as_chunks` gives it
pub length_units_tail : (address : ℕ) (bytes : List ℕ) {tail : List ℕ} → tail ≡ drop (length bytes / 4 * 4) bytes → length (units address bytes) ≡ length bytes / 4 + cond (all_ones tail) 0 1
length_units_tail address bytes e =
    let order : length bytes / 4 * 4 ≡ 4 * (length bytes / 4) = omega arith in
    length_units address bytes ∙ ap (λ (tail : List ℕ). length bytes / 4 + cond (all_ones tail) 0 1) (sym (e ∙ ap (λ (n : ℕ). drop n bytes) order))

-- without a tail
pub length-units_whole : (address n : ℕ) (bytes : List ℕ) → length bytes ≡ 4 * n → length (units address bytes) ≡ n
length-units_whole address n bytes h =
    let whole : length bytes / 4 ≡ n = omega arith in
    rw (length_units address bytes, whole, all_ones_past bytes (4 * n) (omega arith), add-zero)

pub length-units_le : (address : ℕ) (bytes : List ℕ) → length (units address bytes) ≤ (length bytes + 3) / 4
length-units_le address bytes = go (length bytes % 4) refl
  where
    at_most_one : (blank : Bool) → cond blank 0 1 ≤ 1
    at_most_one true = omega arith
    at_most_one false = omega arith

    go : (r : ℕ) → length bytes % 4 ≡ r → length (units address bytes) ≤ (length bytes + 3) / 4
    go zero e = rw (length-units_whole address (length bytes / 4) bytes (omega arith)) (omega arith)
    go (suc r) e = rw length_units (omega (arith, at_most_one (all_ones (drop (4 * (length bytes / 4)) bytes))))

take_tail : (n : ℕ) (u : Unit4) (blank : Bool) → take (suc n) (cond blank [] (u ∷ [])) ≡ cond blank [] (u ∷ [])
take_tail n u true = refl
take_tail n u false = ap (λ (rest : List Unit4). u ∷ rest) (take-nil n)

-- the first n units are those of the first 4 n bytes
pub take_units : (n address : ℕ) (bytes : List ℕ) → take n (units address bytes) ≡ units address (take (4 * n) bytes)
unfolding units all_ones
take_units zero address bytes = refl
take_units (suc n) address [] = rw four_suc
take_units (suc n) address (a ∷ []) =
    rw four_suc (take_tail n (unit address (a ∷ 0xFF ∷ 0xFF ∷ 0xFF ∷ [])) (all_ones (a ∷ [])))
take_units (suc n) address (a ∷ b ∷ []) =
    rw four_suc (take_tail n (unit address (a ∷ b ∷ 0xFF ∷ 0xFF ∷ [])) (all_ones (a ∷ b ∷ [])))
take_units (suc n) address (a ∷ b ∷ c ∷ []) =
    rw four_suc (take_tail n (unit address (a ∷ b ∷ c ∷ 0xFF ∷ [])) (all_ones (a ∷ b ∷ c ∷ [])))
take_units (suc n) address (a ∷ b ∷ c ∷ d ∷ bytes) =
    rw four_suc (ap (λ (rest : List Unit4). unit address (a ∷ b ∷ c ∷ d ∷ []) ∷ rest) (take_units n (address + 4) bytes))

-- four bytes each, at addresses that rise by four
pub data Rising : ℕ → List Unit4 → Type 0 where
  rising_nil : {address : ℕ} → Rising address []
  rising_cons : (address a b c d : ℕ) {plan : List Unit4} → Rising (address + 4) plan → Rising address (unit address (a ∷ b ∷ c ∷ d ∷ []) ∷ plan)

rising_tail : (address a b c d : ℕ) (blank : Bool) → Rising address (cond blank [] (unit address (a ∷ b ∷ c ∷ d ∷ []) ∷ []))
rising_tail address a b c d true = rising_nil
rising_tail address a b c d false = rising_cons address a b c d rising_nil

pub rising_units : (address : ℕ) (bytes : List ℕ) → Rising address (units address bytes)
unfolding units
rising_units address [] = rising_nil
rising_units address (a ∷ []) = rising_tail address a 0xFF 0xFF 0xFF (all_ones (a ∷ 0xFF ∷ 0xFF ∷ 0xFF ∷ []))
rising_units address (a ∷ b ∷ []) = rising_tail address a b 0xFF 0xFF (all_ones (a ∷ b ∷ 0xFF ∷ 0xFF ∷ []))
rising_units address (a ∷ b ∷ c ∷ []) = rising_tail address a b c 0xFF (all_ones (a ∷ b ∷ c ∷ 0xFF ∷ []))
rising_units address (a ∷ b ∷ c ∷ d ∷ bytes) = rising_cons address a b c d (rising_units (address + 4) bytes)

pub rising_drop : {address : ℕ} {plan : List Unit4} (n : ℕ) → Rising address plan → Rising (address + 4 * n) (drop n plan)
rising_drop {address} zero r = rw (add-zero address) r
rising_drop (suc n) rising_nil = rising_nil
rising_drop (suc n) (rising_cons address a b c d {plan = plan} r) =
    let more : address + 4 + 4 * n ≡ address + 4 * suc n = omega arith in
    subst (λ (from : ℕ). Rising from (drop n plan)) more (rising_drop {address = address + 4} n r)

-- ---- units one after the other

pub run_append : (us vs : List Unit4) (image : List ℕ) → run (us ++ vs) image ≡ run vs (run us image)
unfolding run
run_append [] vs image = refl
run_append (unit address bytes ∷ us) vs image = run_append us vs (program image address bytes)

-- what a first plan leaves of a budget goes to the second
pub run_budget : (budget : ℕ) (us vs : List Unit4) (image : List ℕ)
    → run (take budget (us ++ vs)) image ≡ run (take (budget - length us) vs) (run (take budget us) image)
run_budget budget us vs image =
    ap (λ (plan : List Unit4). run plan image) (take_append budget us vs)
    ∙ run_append (take budget us) (take (budget - length us) vs) image

-- the second part gets what the first leaves: the units of both, and the image after both
pub run_both : (budget : ℕ) (us vs : List Unit4) (image : List ℕ) {between after : List ℕ} {first second left : ℕ}
    → first ≡ length us → second ≡ length vs → left ≡ budget - first
    → between ≡ run (take budget us) image → after ≡ run (take left vs) between
    → (first + second ≡ length (us ++ vs)) × (after ≡ run (take budget (us ++ vs)) image)
run_both budget us vs image eu ev el eb ea =
    (omega (arith, length-append us vs), ea ∙ rw (el, eb, eu) (sym (run_budget budget us vs image)))

pub length_run : (plan : List Unit4) (image : List ℕ) → length (run plan image) ≡ length image
unfolding run
length_run [] image = refl
length_run (unit address bytes ∷ plan) image =
    length_run plan (program image address bytes) ∙ length_program image address bytes

pub bytes_run : {image : List ℕ} (plan : List Unit4) → Bytes image → Bytes (run plan image)
unfolding run
bytes_run [] b = b
bytes_run {image = image} (unit address bytes ∷ plan) b = bytes_run {image = program image address bytes} plan (bytes_program address bytes b)

-- no unit sets a cleared bit
pub clears_run : (plan : List Unit4) (image : List ℕ) → OnlyClears image (run plan image)
unfolding run
clears_run [] image = clears_refl image
clears_run (unit address bytes ∷ plan) image =
    clears_trans (clears_program image address bytes) (clears_run plan (program image address bytes))

run_tail_as : {image : List ℕ} (address : ℕ) (bytes : List ℕ) (blank : Bool) → all_ones bytes ≡ blank → Bytes image
    → run (cond blank [] (unit address bytes ∷ [])) image ≡ program image address bytes
unfolding run
run_tail_as {image} address bytes true e b =
    sym (ap (program image address) (replicate-all_ones bytes e) ∙ program_ones address (length bytes) b)
run_tail_as address bytes false e b = refl

run_tail : {image : List ℕ} (address : ℕ) (bytes : List ℕ) (n : ℕ) → Bytes image
    → run (tail_units address (bytes ++ replicate n 0xFF)) image ≡ program image address bytes
run_tail address bytes n b =
    let padded = bytes ++ replicate n 0xFF in
    run_tail_as address padded (all_ones padded) refl b ∙ program_padded address bytes n b

-- the units of a write do what one programming of its bytes does
pub run_units : {image : List ℕ} (address : ℕ) (bytes : List ℕ) → Bytes image → run (units address bytes) image ≡ program image address bytes
unfolding units run
run_units {image} address [] b = sym (program_nil image address)
run_units address (x ∷ []) b = run_tail address (x ∷ []) 3 b
run_units address (x ∷ y ∷ []) b = run_tail address (x ∷ y ∷ []) 2 b
run_units address (x ∷ y ∷ z ∷ []) b = run_tail address (x ∷ y ∷ z ∷ []) 1 b
run_units {image} address (x ∷ y ∷ z ∷ v ∷ bytes) b =
    let four : List ℕ = x ∷ y ∷ z ∷ v ∷ [] in
    run_units {image = program image address (x ∷ y ∷ z ∷ v ∷ [])} (address + 4) bytes (bytes_program address four b) ∙ sym (program_append image address four bytes)

-- and the first n of them what one programming of its first 4 n bytes does
pub run_take_units : {image : List ℕ} (n address : ℕ) (bytes : List ℕ) → Bytes image
    → run (take n (units address bytes)) image ≡ program image address (take (4 * n) bytes)
run_take_units {image} n address bytes b =
    ap (λ (plan : List Unit4). run plan image) (take_units n address bytes) ∙ run_units address (take (4 * n) bytes) b

-- and so does the write of as many bytes as they have, or of all where they have more
pub run_within : (image bytes : List ℕ) (address budget end : ℕ) → ((i : ℕ) → get_or image i 0 < 256) → end ≡ min (length bytes) (4 * budget)
    → program image address (take end bytes) ≡ run (take budget (units address bytes)) image
run_within image bytes address budget end h e =
    ap (program image address) (ap (λ (n : ℕ). take n bytes) e ∙ take_min (dec_le (length bytes) (4 * budget)))
    ∙ sym (run_take_units budget address bytes (bytes_of_get_d image (λ i _. h i)))
  where
    take_min : Dec (length bytes ≤ 4 * budget) → take (min (length bytes) (4 * budget)) bytes ≡ take (4 * budget) bytes
    take_min (yes h) = take_all (min (length bytes) (4 * budget)) bytes (omega arith) ∙ sym (take_all (4 * budget) bytes h)
    take_min (no h) = let e : min (length bytes) (4 * budget) ≡ 4 * budget = omega arith in rw e

-- a write onto n erased bytes
pub run-units_erased : {bytes : List ℕ} (n : ℕ) (front rest : List ℕ) → Bytes (front ++ (replicate n 0xFF ++ rest)) → Bytes bytes → length bytes ≤ n
    → run (units (length front) bytes) (front ++ (replicate n 0xFF ++ rest)) ≡ front ++ (bytes ++ (replicate (n - length bytes) 0xFF ++ rest))
run-units_erased {bytes} n front rest image b h = run_units (length front) bytes image ∙ program_erased n front rest b h

-- ---- where units lie

-- all units of a plan lie from one place up to another
pub data Within (from to : ℕ) : List Unit4 → Type 0 where
  within_nil : Within from to []
  within_cons : (address : ℕ) (bytes : List ℕ) {plan : List Unit4} → from ≤ address → address + length bytes ≤ to
      → Within from to plan → Within from to (unit address bytes ∷ plan)

pub within_wider : {from to : ℕ} {plan : List Unit4} (lower upper : ℕ) → lower ≤ from → to ≤ upper → Within from to plan → Within lower upper plan
within_wider lower upper l u within_nil = within_nil
within_wider lower upper l u (within_cons address bytes h g w) = within_cons address bytes (omega arith) (omega arith) (within_wider lower upper l u w)

pub within_append : {from to : ℕ} {us vs : List Unit4} → Within from to us → Within from to vs → Within from to (us ++ vs)
within_append within_nil v = v
within_append (within_cons address bytes h g u) v = within_cons address bytes h g (within_append u v)

pub within_take : {from to : ℕ} {plan : List Unit4} (n : ℕ) → Within from to plan → Within from to (take n plan)
within_take zero w = within_nil
within_take (suc n) within_nil = within_nil
within_take (suc n) (within_cons address bytes h g w) = within_cons address bytes h g (within_take n w)

pub within_rising : {address : ℕ} {plan : List Unit4} → Rising address plan → Within address (address + 4 * length plan) plan
within_rising rising_nil = within_nil
within_rising (rising_cons address a b c d {plan = plan} r) =
    within_cons address (a ∷ b ∷ c ∷ d ∷ []) (omega arith) (omega arith) (within_wider address (address + 4 * suc (length plan)) (omega arith) (omega arith) (within_rising r))

-- a write lies in its bytes, rounded up to units
pub within_units : (address : ℕ) (bytes : List ℕ) → Within address (address + 4 * ((length bytes + 3) / 4)) (units address bytes)
within_units address bytes =
    within_wider address (address + 4 * ((length bytes + 3) / 4)) (omega arith) (omega (arith, length-units_le address bytes))
    (within_rising (rising_units address bytes))

-- ---- what units leave alone

-- what lies before all of them
pub take_run : {from to : ℕ} {plan : List Unit4} (image : List ℕ) → Within from to plan → take from (run plan image) ≡ take from image
unfolding run
take_run image within_nil = refl
take_run {from} image (within_cons address bytes h g w) =
    take_run (program image address bytes) w ∙ take_program from image address bytes h

-- so the bytes of the first n units stay as these left them
pub take_rising : {address : ℕ} {plan : List Unit4} (n : ℕ) (image : List ℕ) → Rising address plan
    → take (address + 4 * n) (run (take n plan) image) ≡ take (address + 4 * n) (run plan image)
take_rising {address} {plan} n image r =
    sym
    (ap (λ (us : List Unit4). take (address + 4 * n) (run us image)) (sym (take-append-drop n plan))
    ∙ ap (take (address + 4 * n)) (run_append (take n plan) (drop n plan) image)
    ∙ take_run (run (take n plan) image) (within_rising (rising_drop n r)))

-- what lies after all of them
pub drop_run : {from to : ℕ} {plan : List Unit4} (image : List ℕ) → Within from to plan → drop to (run plan image) ≡ drop to image
unfolding run
drop_run image within_nil = refl
drop_run {to = to} image (within_cons address bytes h g w) =
    drop_run (program image address bytes) w ∙ drop_program to image address bytes g

-- a front that they do not leave
pub run_inside : {from to : ℕ} {plan : List Unit4} (front rest : List ℕ) → Within from to plan → to ≤ length front
    → run plan (front ++ rest) ≡ run plan front ++ rest
unfolding run
run_inside front rest within_nil l = refl
run_inside {to = to} front rest (within_cons address bytes {plan} h g w) l =
    ap (run plan) (program_inside front rest address bytes (omega arith))
    ∙ run_inside (program front address bytes) rest w (rw length_program l)

-- each unit of a plan ends at or before a stretch, or starts at or after it
pub data Outside (from to : ℕ) : List Unit4 → Type 0 where
  outside_nil : Outside from to []
  outside_cons : (address : ℕ) (bytes : List ℕ) {plan : List Unit4} → (address + length bytes ≤ from) ⊎ (to ≤ address)
      → Outside from to plan → Outside from to (unit address bytes ∷ plan)

pub outside_within : {lower upper : ℕ} {plan : List Unit4} (from to : ℕ) → (upper ≤ from) ⊎ (to ≤ lower) → Within lower upper plan → Outside from to plan
outside_within from to s within_nil = outside_nil
outside_within from to (inl s) (within_cons address bytes h g w) = outside_cons address bytes (inl (omega arith)) (outside_within from to (inl s) w)
outside_within from to (inr s) (within_cons address bytes h g w) = outside_cons address bytes (inr (omega arith)) (outside_within from to (inr s) w)

pub outside_append : {from to : ℕ} {us vs : List Unit4} → Outside from to us → Outside from to vs → Outside from to (us ++ vs)
outside_append outside_nil v = v
outside_append (outside_cons address bytes s u) v = outside_cons address bytes s (outside_append u v)

pub outside_take : {from to : ℕ} {plan : List Unit4} (n : ℕ) → Outside from to plan → Outside from to (take n plan)
outside_take zero o = outside_nil
outside_take (suc n) outside_nil = outside_nil
outside_take (suc n) (outside_cons address bytes s o) = outside_cons address bytes s (outside_take n o)

-- n bytes from an offset on that no bytes reach
take_drop_program : (offset n : ℕ) (image : List ℕ) (address : ℕ) (bytes : List ℕ) → (address + length bytes ≤ offset) ⊎ (offset + n ≤ address)
    → take n (drop offset (program image address bytes)) ≡ take n (drop offset image)
unfolding program
take_drop_program offset n image address bytes (inl h) = ap (take n) (drop_program offset image address bytes h)
take_drop_program zero n image address bytes (inr h) = take_program n image address bytes (omega arith)
take_drop_program (suc offset) n [] address bytes (inr h) = refl
take_drop_program (suc offset) n (old ∷ image) zero bytes (inr h) = absurd (omega arith)
take_drop_program (suc offset) n (old ∷ image) (suc address) bytes (inr h) = take_drop_program offset n image address bytes (inr (omega arith))

-- n bytes from an offset on that no unit reaches
pub take_drop_run : (offset n : ℕ) {plan : List Unit4} (image : List ℕ) → Outside offset (offset + n) plan
    → take n (drop offset (run plan image)) ≡ take n (drop offset image)
unfolding run
take_drop_run offset n image outside_nil = refl
take_drop_run offset n image (outside_cons address bytes s o) =
    take_drop_run offset n (program image address bytes) o ∙ take_drop_program offset n image address bytes s
