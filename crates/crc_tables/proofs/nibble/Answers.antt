-- `crc_tables::nibble` meets its contract: the sixteen rows, computed, are the table.
use Rattle.std.proofs.Common.{◌≡◌, ℕ, ◌+◌, ◌*◌, ◌<◌, List, [], get_or, map, refl, sym, ap, ◌∙◌, arith, zero-add}
use Rattle.std.specs.List.{range_with_len}
use Rattle.std.proofs.lemmas.List.FromFn.{get_or-map-range_with_len}
use Rattle.crc_tables.specs.declared.TheConstants.{NIBBLES}
use Rattle.crc_tables.specs.Nibble.{nibbles}
use Rattle.crc_tables.proofs.nibble.Goals as goal

-- the nibbles after the shifts of a row
abbrev row : ℕ → List ℕ
row k = nibbles (4 * k + 4)

rows : map row (range_with_len 0 16) ≡ NIBBLES
rows = refl

row_at : (k : ℕ) → k < 16 → get_or NIBBLES k [] ≡ row k
row_at k h = ap (λ (table : List (List ℕ)). get_or table k []) (sym rows) ∙ get_or-map-range_with_len row 0 16 k k [] h (zero-add k)

pub returns : goal.returns
returns c = ap (λ (nibbles : List ℕ). get_or nibbles c.args.value 0) (row_at c.args.row (omega arith))
