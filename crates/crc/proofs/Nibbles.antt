-- The nibbles that the code looks up are `shifts` of their values: each of the sixteen, after each number of shifts, computed.
use Rattle.std.proofs.Common.{◌≡◌, ℕ, ◌+◌, ◌*◌, ◌/◌, ◌%◌, ◌-◌, ◌≤◌, ◌<◌, List, [], get_or, map, refl, sym, ap, ◌∙◌, arith, zero-add}
use Rattle.std.specs.Int.Bits.{bit_xor, xor_assoc, xor_comm}
use Rattle.std.specs.List.{range_with_len}
use Rattle.std.proofs.lemmas.List.FromFn.{get_or-map-range_with_len}
use Rattle.crc.specs.Crc.{shift, shifts}
use Rattle.crc.proofs.Laws.{shifts_digit}
use Rattle.crc_tables.specs.Nibble.{nibbles, nibble}

-- the sixteen nibbles after some shifts
abbrev after : ℕ → List ℕ
after n = map (shifts n) (range_with_len 0 16)

-- after 3, 4, .., 64 shifts
abbrev each : (ℕ → List ℕ) → List (List ℕ)
each row = map row (range_with_len 3 62)

computed : each nibbles ≡ each after
unfolding shift shifts
computed = refl

each_at : (row : ℕ → List ℕ) (n : ℕ) → 3 ≤ n → n ≤ 64 → get_or (each row) (n - 3) [] ≡ row n
each_at row n p q = get_or-map-range_with_len row 3 62 (n - 3) n [] (omega arith) (omega arith)

pub nibble_shifts : (n v : ℕ) → 3 ≤ n → n ≤ 64 → v < 16 → nibble n v ≡ shifts n v
nibble_shifts n v p q h =
    ap (λ (row : List ℕ). get_or row v 0)
    (sym (each_at nibbles n p q) ∙ ap (λ (rows : List (List ℕ)). get_or rows (n - 3) []) computed ∙ each_at after n p q)
    ∙ get_or-map-range_with_len (shifts n) 0 16 v v 0 h (zero-add v)

-- a turn of the loop: the low nibble of the rest is looked up, and what is left has four shifts less to go
pub shift_turn : (looked_up row rest : ℕ) → 0 < row → row ≤ 16
    → bit_xor (bit_xor looked_up (nibble (4 * (row - 1) + 4) (rest % 16))) (shifts (4 * (row - 1)) (rest / 16)) ≡ bit_xor looked_up (shifts (4 * row) rest)
shift_turn looked_up row rest p q =
    let low : ℕ = nibble (4 * (row - 1) + 4) (rest % 16) in
    let high : ℕ = shifts (4 * (row - 1)) (rest / 16) in
    let four : 4 * (row - 1) + 4 ≡ 4 + 4 * (row - 1) = omega arith in
    let more : 4 + 4 * (row - 1) ≡ 4 * row = omega arith in
    xor_assoc looked_up low high
    ∙ ap (bit_xor looked_up)
    (xor_comm low high
    ∙ ap (bit_xor high) (nibble_shifts (4 * (row - 1) + 4) (rest % 16) (omega arith) (omega arith) (omega arith) ∙ ap (λ (n : ℕ). shifts n (rest % 16)) four)
    ∙ sym (shifts_digit 4 (4 * (row - 1)) rest)
    ∙ ap (λ (n : ℕ). shifts n rest) more)
