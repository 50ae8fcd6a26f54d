-- Marks of the entry map (specs/Map.antt): states as bits, states packed into bytes, a range marked, and the units that program it.
--
-- In order: AND of two states; four states in a byte; all states of a map; new states that only clear bits; a range of states marked,
-- and how many are Written then; the map's bytes marked; the parts of an image, and what the units of a marked map leave in it.
use mathlib.Core.Path.{◌≡◌, refl, sym, ap, ap₂, ◌∙◌}
use mathlib.Core.Bool.{Bool, true, false, cond, false≢true}
use mathlib.Core.List.{List, [], ◌∷◌, ◌++◌, append_assoc}
use Prim.Native.Nat.{ℕ, zero, suc, ◌≤◌, ◌<◌, ◌+◌, ◌-◌, ◌*◌, ◌/◌, ◌%◌}
use native.Mathlib.Nat.{le_of_suc-le-suc, not-suc-le-zero, add-zero, zero-add, suc-add, div-div-eq-div-mul, div-add-mod', mod-eq_of_lt}
use native.Mathlib.Omega.{arith}
use lib.Bits.{bit_and, and_block, and_le_l}
use lib.ListN.{length, take, drop, get_or, replicate, length-append, length-take, take-append-drop}
use lib.Seq.{take-set-le, drop-set-lt, take-take, drop-drop, take_at, drop_at, get_or-take}
use Rattle.flash.specs.Flash.{every, run, OnlyClears, clears_nil, clears_cons}
use Rattle.flash.proofs.Laws.{drop_take, four_suc, Bytes, bytes_nil, bytes_cons, bytes_program, clears_refl, clears_trans, clears_program, program_one, program_past, program_inside, program_splice, run_units, rising_units, take_rising, Within, within_wider, within_units}
use Rattle.sector.proofs.Laws.{bits_le}
use Rattle.sector.specs.declared.EntryMapState.{EntryMapState}
use Rattle.sector.specs.declared.EntryMapState.TheVariants.{Empty, Written, Erased, Illegal}
use Rattle.sector.specs.Layout.{entries_per_page, map_offset, items_offset, field, map_of}
use Rattle.sector.proofs.StateBits.{state_bits}
use Rattle.sector.specs.Map.{bits_of, state_of_bits, packed, pack, unpack, states_of, same_state, count_in, mark_mask, mark, mark_range, map_units}

-- ---- AND of two states

abbrev pub both : EntryMapState → EntryMapState → EntryMapState
both Empty t = t
both Written Empty = Written
both Written Written = Written
both Written Erased = Erased
both Written Illegal = Erased
both Erased t = Erased
both Illegal Empty = Illegal
both Illegal Written = Erased
both Illegal Erased = Erased
both Illegal Illegal = Illegal

pub bits_both : (s t : EntryMapState) → bit_and (bits_of s) (bits_of t) ≡ bits_of (both s t)
bits_both Empty Empty = refl
bits_both Empty Written = refl
bits_both Empty Erased = refl
bits_both Empty Illegal = refl
bits_both Written Empty = refl
bits_both Written Written = refl
bits_both Written Erased = refl
bits_both Written Illegal = refl
bits_both Erased t = refl
bits_both Illegal Empty = refl
bits_both Illegal Written = refl
bits_both Illegal Erased = refl
bits_both Illegal Illegal = refl

pub both_self : (s : EntryMapState) → both s s ≡ s
both_self Empty = refl
both_self Written = refl
both_self Erased = refl
both_self Illegal = refl

pub both_empty : (s : EntryMapState) → both s Empty ≡ s
both_empty Empty = refl
both_empty Written = refl
both_empty Erased = refl
both_empty Illegal = refl

pub both_erased : (s : EntryMapState) → both s Erased ≡ Erased
both_erased Empty = refl
both_erased Written = refl
both_erased Erased = refl
both_erased Illegal = refl

-- ---- four states in a byte

bits_lt : (s : EntryMapState) → bits_of s < 4
bits_lt s = omega (arith, bits_le s)

pub bits_state : (bits : ℕ) → bits < 4 → bits_of (state_of_bits bits) ≡ bits
bits_state zero h = refl
bits_state (suc zero) h = refl
bits_state (suc (suc zero)) h = refl
bits_state (suc (suc (suc zero))) h = refl
bits_state (suc (suc (suc (suc bits)))) h = absurd (omega arith)

quarters : (byte : ℕ) → byte < 256 → ((byte / 64 % 4 * 4 + byte / 16 % 4) * 4 + byte / 4 % 4) * 4 + byte % 4 ≡ byte
quarters byte h =
    rw (
      mod-eq_of_lt {n = byte / 64} {m = 4} (omega arith),
      ← div-div-eq-div-mul byte 16 4,
      div-add-mod' (byte / 16) 4,
      ← div-div-eq-div-mul byte 4 4,
      div-add-mod' (byte / 4) 4,
      div-add-mod' byte 4,
    )

-- a byte is its four states
pub packed_states : (byte : ℕ) → byte < 256
    → packed (state_of_bits (byte % 4)) (state_of_bits (byte / 4 % 4)) (state_of_bits (byte / 16 % 4)) (state_of_bits (byte / 64 % 4)) ≡ byte
packed_states byte h =
    rw (
      bits_state (byte % 4) (omega arith),
      bits_state (byte / 4 % 4) (omega arith),
      bits_state (byte / 16 % 4) (omega arith),
      bits_state (byte / 64 % 4) (omega arith),
    ) (quarters byte h)

pub and_packed : (a b c d p q r s : EntryMapState)
    → bit_and (packed a b c d) (packed p q r s) ≡ packed (both a p) (both b q) (both c r) (both d s)
and_packed a b c d p q r s =
    and_block 2 ((bits_of d * 4 + bits_of c) * 4 + bits_of b) ((bits_of s * 4 + bits_of r) * 4 + bits_of q) (bits_of a) (bits_of p) (bits_lt a) (bits_lt p)
    ∙ ap₂ (λ (x y : ℕ). x * 4 + y)
    (and_block 2 (bits_of d * 4 + bits_of c) (bits_of s * 4 + bits_of r) (bits_of b) (bits_of q) (bits_lt b) (bits_lt q)
    ∙ ap₂ (λ (x y : ℕ). x * 4 + y)
    (and_block 2 (bits_of d) (bits_of s) (bits_of c) (bits_of r) (bits_lt c) (bits_lt r)
    ∙ ap₂ (λ (x y : ℕ). x * 4 + y) (bits_both d s) (bits_both c r))
    (bits_both b q))
    (bits_both a p)

pub unpack_packed : (a b c d : EntryMapState) (bytes : List ℕ) → unpack (packed a b c d ∷ bytes) ≡ a ∷ b ∷ c ∷ d ∷ unpack bytes
unpack_packed a b c d bytes =
    let ha = bits_lt a in
    let hb = bits_lt b in
    let hc = bits_lt c in
    let hd = bits_lt d in
    let first : packed a b c d % 4 ≡ bits_of a = omega arith in
    let q1 : packed a b c d / 4 ≡ (bits_of d * 4 + bits_of c) * 4 + bits_of b = omega arith in
    let q2 : packed a b c d / 16 ≡ bits_of d * 4 + bits_of c = omega arith in
    let q3 : packed a b c d / 64 ≡ bits_of d = omega arith in
    let second : packed a b c d / 4 % 4 ≡ bits_of b = rw q1 (omega arith) in
    let third : packed a b c d / 16 % 4 ≡ bits_of c = rw q2 (omega arith) in
    let fourth : packed a b c d / 64 % 4 ≡ bits_of d = rw q3 (omega arith) in
    rw (first, second, third, fourth, state_bits a, state_bits b, state_bits c, state_bits d)

-- ---- all states of a map

-- a byte's four states before others
abbrev states_before : ℕ → List EntryMapState → List EntryMapState
states_before byte rest = state_of_bits (byte % 4) ∷ state_of_bits (byte / 4 % 4) ∷ state_of_bits (byte / 16 % 4) ∷ state_of_bits (byte / 64 % 4) ∷ rest

pub pack_unpack : {map : List ℕ} → Bytes map → pack (unpack map) ≡ map
pack_unpack bytes_nil = refl
pack_unpack (bytes_cons {byte} h b) = ap₂ (λ (x : ℕ) (rest : List ℕ). x ∷ rest) (packed_states byte h) (pack_unpack b)

pub unpack_pack : (states : List EntryMapState) → length states % 4 ≡ 0 → unpack (pack states) ≡ states
unpack_pack [] h = refl
unpack_pack (a ∷ []) h = absurd (omega arith)
unpack_pack (a ∷ b ∷ []) h = absurd (omega arith)
unpack_pack (a ∷ b ∷ c ∷ []) h = absurd (omega arith)
unpack_pack (a ∷ b ∷ c ∷ d ∷ states) h =
    unpack_packed a b c d (pack states)
    ∙ ap (λ (rest : List EntryMapState). a ∷ b ∷ c ∷ d ∷ rest) (unpack_pack states (omega arith))

pub unpack_append : (xs ys : List ℕ) → unpack (xs ++ ys) ≡ unpack xs ++ unpack ys
unpack_append [] ys = refl
unpack_append (byte ∷ xs) ys =
    ap (states_before byte) (unpack_append xs ys)

pub unpack_take : (n : ℕ) (map : List ℕ) → unpack (take n map) ≡ take (4 * n) (unpack map)
unpack_take zero map = refl
unpack_take (suc n) [] = rw four_suc
unpack_take (suc n) (byte ∷ map) =
    rw four_suc (ap (states_before byte) (unpack_take n map))

-- ---- new states that only clear bits

pub data StatesClear : List EntryMapState → List EntryMapState → Type 0 where
  states_nil : StatesClear [] []
  states_cons : {s t : EntryMapState} {old new : List EntryMapState} → both s t ≡ t → StatesClear old new → StatesClear (s ∷ old) (t ∷ new)

pub states_refl : (states : List EntryMapState) → StatesClear states states
states_refl [] = states_nil
states_refl (s ∷ states) = states_cons (both_self s) (states_refl states)

pub states_append : {xs ys vs ws : List EntryMapState} → StatesClear xs ys → StatesClear vs ws → StatesClear (xs ++ vs) (ys ++ ws)
states_append states_nil w = w
states_append (states_cons e v) w = states_cons e (states_append v w)

-- then the packed bytes only clear bits too
pub clears_pack : {old new : List EntryMapState} → StatesClear old new → OnlyClears (pack old) (pack new)
clears_pack states_nil = clears_nil
clears_pack (states_cons e states_nil) = clears_nil
clears_pack (states_cons e (states_cons f states_nil)) = clears_nil
clears_pack (states_cons e (states_cons f (states_cons g states_nil))) = clears_nil
clears_pack (states_cons {s = a} {t = p} e (states_cons {s = b} {t = q} f (states_cons {s = c} {t = r} g (states_cons {s = d} {t = s} h rest)))) =
    clears_cons {x = packed p q r s} (and_packed a b c d p q r s ∙ rw (e, f, g, h)) (clears_pack rest)

-- some of the states
pub states_take : {old new : List EntryMapState} (n : ℕ) → StatesClear old new → StatesClear (take n old) (take n new)
states_take zero c = states_nil
states_take (suc n) states_nil = states_nil
states_take (suc n) (states_cons e c) = states_cons e (states_take n c)

-- ---- a range of states marked

-- n states from i on are ANDed with a state; there is nothing past the end
abbrev pub marked : EntryMapState → ℕ → ℕ → List EntryMapState → List EntryMapState
marked s i n [] = []
marked s zero zero (t ∷ states) = t ∷ states
marked s zero (suc n) (t ∷ states) = both t s ∷ marked s zero n states
marked s (suc i) n (t ∷ states) = t ∷ marked s i n states

pub length_marked : (s : EntryMapState) (i n : ℕ) (states : List EntryMapState) → length (marked s i n states) ≡ length states
length_marked s i n [] = refl
length_marked s zero zero (t ∷ states) = refl
length_marked s zero (suc n) (t ∷ states) = ap suc (length_marked s zero n states)
length_marked s (suc i) n (t ∷ states) = ap suc (length_marked s i n states)

pub marked_none : (s : EntryMapState) (i : ℕ) (states : List EntryMapState) → marked s i zero states ≡ states
marked_none s i [] = refl
marked_none s zero (t ∷ states) = refl
marked_none s (suc i) (t ∷ states) = ap (λ (rest : List EntryMapState). t ∷ rest) (marked_none s i states)

-- the first of a range, and then the rest
pub marked_suc : (s : EntryMapState) (i n : ℕ) (states : List EntryMapState) → marked s (suc i) n (marked s i 1 states) ≡ marked s i (suc n) states
marked_suc s i n [] = refl
marked_suc s zero n (t ∷ states) =
    ap (λ (rest : List EntryMapState). both t s ∷ marked s zero n rest) (marked_none s zero states)
marked_suc s (suc i) n (t ∷ states) = ap (λ (rest : List EntryMapState). t ∷ rest) (marked_suc s i n states)

-- states before the range stay
pub take_marked : (s : EntryMapState) (i n : ℕ) (states : List EntryMapState) (k : ℕ) → k ≤ i → take k (marked s i n states) ≡ take k states
take_marked s i n states zero h = refl
take_marked s i n [] (suc k) h = refl
take_marked s zero n (t ∷ states) (suc k) h = absurd (not-suc-le-zero h)
take_marked s (suc i) n (t ∷ states) (suc k) h =
    ap (λ (rest : List EntryMapState). t ∷ rest) (take_marked s i n states k (le_of_suc-le-suc h))

-- states after the range stay
pub drop_marked : (s : EntryMapState) (i n : ℕ) (states : List EntryMapState) (k : ℕ) → i + n ≤ k → drop k (marked s i n states) ≡ drop k states
drop_marked s i n [] k h = refl
drop_marked s zero zero (t ∷ states) k h = refl
drop_marked s zero (suc n) (t ∷ states) zero h = absurd (omega arith)
drop_marked s (suc i) n (t ∷ states) zero h = absurd (omega arith)
drop_marked s zero (suc n) (t ∷ states) (suc k) h = drop_marked s zero n states k (omega arith)
drop_marked s (suc i) n (t ∷ states) (suc k) h = drop_marked s i n states k (omega arith)

-- an entry of the range
pub get_d_marked_same : (s : EntryMapState) (i n : ℕ) (states : List EntryMapState) (k : ℕ) (d : EntryMapState) → i ≤ k → k < i + n → k < length states
    → get_or (marked s i n states) k d ≡ both (get_or states k d) s
get_d_marked_same s i n [] k d l h g = absurd (not-suc-le-zero g)
get_d_marked_same s zero zero (t ∷ states) k d l h g = absurd (omega arith)
get_d_marked_same s zero (suc n) (t ∷ states) zero d l h g = refl
get_d_marked_same s zero (suc n) (t ∷ states) (suc k) d l h g = get_d_marked_same s zero n states k d (omega arith) (omega arith) (omega arith)
get_d_marked_same s (suc i) n (t ∷ states) zero d l h g = absurd (not-suc-le-zero l)
get_d_marked_same s (suc i) n (t ∷ states) (suc k) d l h g = get_d_marked_same s i n states k d (omega arith) (omega arith) (omega arith)

-- some of the states, marked
pub marked_take : (s : EntryMapState) (k i n : ℕ) (states : List EntryMapState) → take k (marked s i n states) ≡ marked s i n (take k states)
marked_take s zero i n [] = refl
marked_take s zero zero zero (t ∷ states) = refl
marked_take s zero zero (suc n) (t ∷ states) = refl
marked_take s zero (suc i) n (t ∷ states) = refl
marked_take s (suc k) i n [] = refl
marked_take s (suc k) zero zero (t ∷ states) = refl
marked_take s (suc k) zero (suc n) (t ∷ states) = ap (λ (rest : List EntryMapState). both t s ∷ rest) (marked_take s k zero n states)
marked_take s (suc k) (suc i) n (t ∷ states) = ap (λ (rest : List EntryMapState). t ∷ rest) (marked_take s k i n states)

-- past a front
pub marked_past : (s : EntryMapState) (front states : List EntryMapState) (i n : ℕ)
    → marked s (length front + i) n (front ++ states) ≡ front ++ marked s i n states
marked_past s [] states i n = rw zero-add
marked_past s (t ∷ front) states i n = rw suc-add (ap (λ (rest : List EntryMapState). t ∷ rest) (marked_past s front states i n))

pub marked_at : (s : EntryMapState) (front states : List EntryMapState) (n : ℕ)
    → marked s (length front) n (front ++ states) ≡ front ++ marked s zero n states
marked_at s front states n = rw add-zero at (marked_past s front states zero n)

-- inside a front
pub marked_inside : (s : EntryMapState) (front states : List EntryMapState) (i n : ℕ) → i + n ≤ length front
    → marked s i n (front ++ states) ≡ marked s i n front ++ states
marked_inside s [] states i zero h = marked_none s i states
marked_inside s [] states i (suc n) h = absurd (omega arith)
marked_inside s (t ∷ front) states zero zero h = refl
marked_inside s (t ∷ front) states zero (suc n) h =
    ap (λ (rest : List EntryMapState). both t s ∷ rest) (marked_inside s front states zero n (omega arith))
marked_inside s (t ∷ front) states (suc i) n h =
    ap (λ (rest : List EntryMapState). t ∷ rest) (marked_inside s front states i n (omega arith))

-- Empty entries become what they are marked
pub marked_empty : (s : EntryMapState) (n : ℕ) (states : List EntryMapState)
    → marked s zero n (replicate n Empty ++ states) ≡ replicate n s ++ states
marked_empty s zero states = marked_none s zero states
marked_empty s (suc n) states = ap (λ (rest : List EntryMapState). s ∷ rest) (marked_empty s n states)

-- any entries become Erased
pub marked_erased : (n : ℕ) (states : List EntryMapState) → n ≤ length states
    → marked Erased zero n states ≡ replicate n Erased ++ drop n states
marked_erased zero states h = marked_none Erased zero states
marked_erased (suc n) [] h = absurd (not-suc-le-zero h)
marked_erased (suc n) (t ∷ states) h =
    ap₂ (λ (s : EntryMapState) (rest : List EntryMapState). s ∷ rest) (both_erased t) (marked_erased n states (le_of_suc-le-suc h))

-- ---- how many are Written

pub count_in-append : (s : EntryMapState) (xs ys : List EntryMapState) → count_in s (xs ++ ys) ≡ count_in s xs + count_in s ys
unfolding count_in
count_in-append s [] ys = sym (zero-add (count_in s ys))
count_in-append s (t ∷ xs) ys = let rest = count_in-append s xs ys in omega arith

at_most_one : (test : Bool) → cond test 1 0 ≤ 1
at_most_one true = omega arith
at_most_one false = omega arith

-- n marks make at most n more
pub count_in_marked : (i n : ℕ) (states : List EntryMapState) → count_in Written (marked Written i n states) ≤ count_in Written states + n
unfolding count_in
count_in_marked i n [] = omega arith
count_in_marked zero zero (t ∷ states) = omega arith
count_in_marked zero (suc n) (t ∷ states) =
    let rest = count_in_marked zero n states in omega (arith, at_most_one (same_state Written (both t Written)))
count_in_marked (suc i) n (t ∷ states) = let rest = count_in_marked i n states in omega arith

-- n Written entries erased are n fewer
pub count_in_erased : (i n : ℕ) (states : List EntryMapState) → i + n ≤ length states → every (same_state Written) (take n (drop i states)) ≡ true
    → count_in Written (marked Erased i n states) + n ≡ count_in Written states
unfolding count_in
count_in_erased i n [] h e = omega arith
count_in_erased zero zero (t ∷ states) h e = omega arith
count_in_erased zero (suc n) (Empty ∷ states) h e = absurd (false≢true e)
count_in_erased zero (suc n) (Written ∷ states) h e = let rest = count_in_erased zero n states (omega arith) e in omega arith
count_in_erased zero (suc n) (Erased ∷ states) h e = absurd (false≢true e)
count_in_erased zero (suc n) (Illegal ∷ states) h e = absurd (false≢true e)
count_in_erased (suc i) n (t ∷ states) h e = let rest = count_in_erased i n states (omega arith) e in omega arith

-- ---- the map's bytes marked

mask_first : (s : EntryMapState) → mark_mask s 0 ≡ packed s Empty Empty Empty
mask_first Empty = refl
mask_first Written = refl
mask_first Erased = refl
mask_first Illegal = refl

mask_second : (s : EntryMapState) → mark_mask s 1 ≡ packed Empty s Empty Empty
mask_second Empty = refl
mask_second Written = refl
mask_second Erased = refl
mask_second Illegal = refl

mask_third : (s : EntryMapState) → mark_mask s 2 ≡ packed Empty Empty s Empty
mask_third Empty = refl
mask_third Written = refl
mask_third Erased = refl
mask_third Illegal = refl

mask_fourth : (s : EntryMapState) → mark_mask s 3 ≡ packed Empty Empty Empty s
mask_fourth Empty = refl
mask_fourth Written = refl
mask_fourth Erased = refl
mask_fourth Illegal = refl

-- a byte's states, each ANDed with its own
unpack_and : (byte : ℕ) (bytes : List ℕ) (a b c d : EntryMapState) → byte < 256
    → unpack (bit_and byte (packed a b c d) ∷ bytes)
    ≡ both (state_of_bits (byte % 4)) a ∷ both (state_of_bits (byte / 4 % 4)) b ∷ both (state_of_bits (byte / 16 % 4)) c ∷ both (state_of_bits (byte / 64 % 4)) d ∷ unpack bytes
unpack_and byte bytes a b c d h =
    let s0 = state_of_bits (byte % 4) in
    let s1 = state_of_bits (byte / 4 % 4) in
    let s2 = state_of_bits (byte / 16 % 4) in
    let s3 = state_of_bits (byte / 64 % 4) in
    ap (λ (x : ℕ). unpack (bit_and x (packed a b c d) ∷ bytes)) (sym (packed_states byte h))
    ∙ ap (λ (x : ℕ). unpack (x ∷ bytes)) (and_packed s0 s1 s2 s3 a b c d)
    ∙ unpack_packed (both s0 a) (both s1 b) (both s2 c) (both s3 d) bytes

-- bytes that only clear bits: their states do too
pub clears_unpack : {old new : List ℕ} → Bytes old → OnlyClears old new → StatesClear (unpack old) (unpack new)
clears_unpack b clears_nil = states_nil
clears_unpack (bytes_cons {byte = y} h b) (clears_cons {x = x} {old} {new} e o) =
    let x0 = state_of_bits (x % 4) in
    let x1 = state_of_bits (x / 4 % 4) in
    let x2 = state_of_bits (x / 16 % 4) in
    let x3 = state_of_bits (x / 64 % 4) in
    let parts = packed_states x (omega (arith, and_le_l y x)) in
    let each = ap (λ (byte : ℕ). unpack (byte ∷ [])) (sym (ap (bit_and y) parts ∙ e)) ∙ unpack_and y [] x0 x1 x2 x3 h in
    let e0 : both (state_of_bits (y % 4)) x0 ≡ x0 = cc in
    let e1 : both (state_of_bits (y / 4 % 4)) x1 ≡ x1 = cc in
    let e2 : both (state_of_bits (y / 16 % 4)) x2 ≡ x2 = cc in
    let e3 : both (state_of_bits (y / 64 % 4)) x3 ≡ x3 = cc in
    states_cons e0 (states_cons e1 (states_cons e2 (states_cons e3 (clears_unpack b o))))

mark_past : (s : EntryMapState) (i byte : ℕ) (map : List ℕ) → mark s (suc (suc (suc (suc i)))) (byte ∷ map) ≡ byte ∷ mark s i map
mark_past s i byte map =
    let quotient : suc (suc (suc (suc i))) / 4 ≡ suc (i / 4) = omega arith in
    let place : suc (suc (suc (suc i))) % 4 ≡ i % 4 = omega arith in
    rw (quotient, place)

pub unpack_mark : {map : List ℕ} (s : EntryMapState) (i : ℕ) → Bytes map → unpack (mark s i map) ≡ marked s i 1 (unpack map)
unpack_mark s i bytes_nil = refl
unpack_mark s zero (bytes_cons {byte} {bytes} h b) =
    ap (λ (m : ℕ). unpack (bit_and byte m ∷ bytes)) (mask_first s) ∙ unpack_and byte bytes s Empty Empty Empty h ∙ simp both_empty
unpack_mark s (suc zero) (bytes_cons {byte} {bytes} h b) =
    ap (λ (m : ℕ). unpack (bit_and byte m ∷ bytes)) (mask_second s) ∙ unpack_and byte bytes Empty s Empty Empty h ∙ simp both_empty
unpack_mark s (suc (suc zero)) (bytes_cons {byte} {bytes} h b) =
    ap (λ (m : ℕ). unpack (bit_and byte m ∷ bytes)) (mask_third s) ∙ unpack_and byte bytes Empty Empty s Empty h ∙ simp both_empty
unpack_mark s (suc (suc (suc zero))) (bytes_cons {byte} {bytes} h b) =
    ap (λ (m : ℕ). unpack (bit_and byte m ∷ bytes)) (mask_fourth s) ∙ unpack_and byte bytes Empty Empty Empty s h
    ∙ simp both_empty
    (ap
    (λ (rest : List EntryMapState). state_of_bits (byte % 4) ∷ state_of_bits (byte / 4 % 4) ∷ state_of_bits (byte / 16 % 4) ∷ both (state_of_bits (byte / 64 % 4)) s ∷ rest)
    (sym (marked_none s zero (unpack bytes))))
unpack_mark s (suc (suc (suc (suc i)))) (bytes_cons {byte} {bytes} h b) =
    ap unpack (mark_past s i byte bytes) ∙ ap (states_before byte) (unpack_mark s i b)

pub bytes_mark : {map : List ℕ} (s : EntryMapState) (i : ℕ) → Bytes map → Bytes (mark s i map)
bytes_mark {map} s i b = rw program_one at (bytes_program (i / 4) (mark_mask s (i % 4) ∷ []) b)

pub clears_mark : (s : EntryMapState) (i : ℕ) (map : List ℕ) → OnlyClears map (mark s i map)
clears_mark s i map = rw program_one at (clears_program map (i / 4) (mark_mask s (i % 4) ∷ []))

-- marking a range of entries only clears bits
pub clears_mark_range : (s : EntryMapState) (i n : ℕ) (map : List ℕ) → OnlyClears map (mark_range s i n map)
unfolding mark_range
clears_mark_range s i zero map = clears_refl map
clears_mark_range s i (suc n) map = clears_trans (clears_mark s i map) (clears_mark_range s (suc i) n (mark s i map))

pub bytes_mark_range : {map : List ℕ} (s : EntryMapState) (i n : ℕ) → Bytes map → Bytes (mark_range s i n map)
unfolding mark_range
bytes_mark_range s i zero b = b
bytes_mark_range {map = map} s i (suc n) b = bytes_mark_range {map = mark s i map} s (suc i) n (bytes_mark s i b)

-- and it marks their states
pub unpack-mark_range : {map : List ℕ} (s : EntryMapState) (i n : ℕ) → Bytes map → unpack (mark_range s i n map) ≡ marked s i n (unpack map)
unfolding mark_range
unpack-mark_range {map} s i zero b = sym (marked_none s i (unpack map))
unpack-mark_range {map} s i (suc n) b =
    unpack-mark_range {map = mark s i map} s (suc i) n (bytes_mark s i b)
    ∙ ap (marked s (suc i) n) (unpack_mark s i b)
    ∙ marked_suc s i n (unpack map)

pub states_of-mark_range : {map : List ℕ} (s : EntryMapState) (i n : ℕ) → Bytes map → states_of (mark_range s i n map) ≡ marked s i n (states_of map)
states_of-mark_range {map} s i n b =
    ap (take entries_per_page) (unpack-mark_range s i n b) ∙ marked_take s entries_per_page i n (unpack map)

-- bytes before the range stay
pub take-mark_range : (s : EntryMapState) (i n : ℕ) (map : List ℕ) (k : ℕ) → 4 * k ≤ i → take k (mark_range s i n map) ≡ take k map
unfolding mark_range
take-mark_range s i zero map k h = refl
take-mark_range s i (suc n) map k h =
    take-mark_range s (suc i) n (mark s i map) k (omega arith)
    ∙ take-set-le k map (i / 4) (bit_and (get_or map (i / 4) 0) (mark_mask s (i % 4))) (omega arith)

-- bytes after the range stay
pub drop-mark_range : (s : EntryMapState) (i n : ℕ) (map : List ℕ) (k : ℕ) → i + n ≤ 4 * k → drop k (mark_range s i n map) ≡ drop k map
unfolding mark_range
drop-mark_range s i zero map k h = refl
drop-mark_range s i (suc n) map k h =
    drop-mark_range s (suc i) n (mark s i map) k (omega arith)
    ∙ drop-set-lt k map (i / 4) (bit_and (get_or map (i / 4) 0) (mark_mask s (i % 4))) (omega arith)

-- ---- the parts of an image

-- an image is its header, its map and its entries
pub image_parts : (image : List ℕ) → image ≡ take map_offset image ++ (map_of image ++ drop items_offset image)
image_parts image =
    sym
    (ap (λ (rest : List ℕ). take map_offset image ++ (map_of image ++ rest)) (sym (drop-drop 32 32 image))
    ∙ ap (λ (rest : List ℕ). take map_offset image ++ rest) (take-append-drop 32 (drop map_offset image))
    ∙ take-append-drop map_offset image)

pub map_of_parts : (header map entries : List ℕ) → length header ≡ 32 → length map ≡ 32 → map_of (header ++ (map ++ entries)) ≡ map
map_of_parts header map entries h m = rw (drop_at header (map ++ entries) 32 h, take_at map entries 32 m)

pub entries_parts : (header map entries : List ℕ) → length header ≡ 32 → length map ≡ 32 → drop items_offset (header ++ (map ++ entries)) ≡ entries
entries_parts header map entries h m =
    ap (drop items_offset) (sym (append_assoc header map entries))
    ∙ drop_at (header ++ map) entries 64 (rw length-append (omega arith))

-- images that agree up to a byte of the map: so do their maps
pub map_front : (k : ℕ) (xs ys : List ℕ) → k ≤ 32 → take (map_offset + k) xs ≡ take (map_offset + k) ys → take k (map_of xs) ≡ take k (map_of ys)
map_front k xs ys h e = part xs ∙ ap (drop map_offset) e ∙ sym (part ys)
  where
    part : (image : List ℕ) → take k (map_of image) ≡ drop map_offset (take (map_offset + k) image)
    part image = take-take k 32 (drop map_offset image) h ∙ sym (drop_take map_offset k image)

-- maps that agree up to a byte: so do the states in it
pub state_front : (k i : ℕ) (xs ys : List ℕ) (s : EntryMapState) → take k xs ≡ take k ys → i < 4 * k → i < entries_per_page
    → get_or (states_of xs) i s ≡ get_or (states_of ys) i s
state_front k i xs ys s e h g = part xs ∙ ap (λ (map : List ℕ). get_or (unpack map) i s) e ∙ sym (part ys)
  where
    part : (map : List ℕ) → get_or (states_of map) i s ≡ get_or (unpack (take k map)) i s
    part map =
        get_or-take entries_per_page (unpack map) i s g
        ∙ sym (get_or-take (4 * k) (unpack map) i s h)
        ∙ ap (λ (states : List EntryMapState). get_or states i s) (sym (unpack_take k map))

-- ---- the units of a marked map

pub within_map_units : (i n : ℕ) (map : List ℕ) → 1 ≤ n → i + n ≤ 128 → Within 32 64 (map_units i n map)
unfolding map_units
within_map_units i n map h g =
    let first = i / 16 in
    let count = (i + n - 1) / 16 + 1 - first in
    let part = field (4 * first) (4 * count) map in
    let long : length part ≤ 4 * count = rw length-take (omega arith) in
    within_wider 32 64 (omega arith) (omega arith) (within_units (map_offset + 4 * first) part)

-- the marked map, unit by unit: header and entries stay
pub run-map_units : (s : EntryMapState) (i n : ℕ) (header map entries : List ℕ) → length header ≡ 32 → length map ≡ 32
    → Bytes (header ++ (map ++ entries)) → 1 ≤ n → i + n ≤ 128
    → run (map_units i n (mark_range s i n map)) (header ++ (map ++ entries)) ≡ header ++ (mark_range s i n map ++ entries)
unfolding map_units
run-map_units s i n header map entries header_long map_long bytes some inside =
    let first = i / 16 in
    let count = (i + n - 1) / 16 + 1 - first in
    let new = mark_range s i n map in
    let part = field (4 * first) (4 * count) new in
    let end = 4 * first + 4 * count in
    let fits : 4 * first + length part ≤ length map = rw (length-take, map_long) (omega arith) in
    run_units (map_offset + 4 * first) part bytes
    ∙ (rw header_long at (program_past header (map ++ entries) (4 * first) part))
    ∙ ap (λ (rest : List ℕ). header ++ rest)
    (program_inside map entries (4 * first) part fits
    ∙ ap (λ (marks : List ℕ). marks ++ entries)
    (program_splice (4 * first) (4 * count) (clears_mark_range s i n map) (sym (take-mark_range s i n map (4 * first) (omega arith)))
    ∙ ap (λ (rest : List ℕ). take end new ++ rest) (sym (drop-mark_range s i n map end (omega arith)))
    ∙ take-append-drop end new))

-- the bytes of the first unit are as the whole mark leaves them once that unit is done
pub first_map_unit : (i n : ℕ) (map image : List ℕ) (j : ℕ) → 1 ≤ j
    → take (map_offset + 4 * (i / 16) + 4) (run (take j (map_units i n map)) image) ≡ take (map_offset + 4 * (i / 16) + 4) (run (map_units i n map) image)
unfolding map_units
first_map_unit i n map image j h =
    let address = map_offset + 4 * (i / 16) in
    let plan = map_units i n map in
    let far : address + 4 ≤ address + 4 * j = omega arith in
    sym (take-take (address + 4) (address + 4 * j) (run (take j plan) image) far)
    ∙ ap (take (address + 4)) (take_rising j image (rising_units address _))
    ∙ take-take (address + 4) (address + 4 * j) (run plan image) far
